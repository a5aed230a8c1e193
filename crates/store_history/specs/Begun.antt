-- The jobs that a lane does.
use Rattle.store_model.specs.Job.{grouping, forgetting, opening, listing, reading, checking, closing, Job, over, asking}
use Rattle.store_model.specs.Jobs.{IsPrune}

-- a PRUNE or a VERIFY that its command began, or what replies made of it
abbrev pub IsBegun : Job → Type 0
IsBegun (over report) = Unit {0}
IsBegun (asking (grouping c keep dry)) = IsPrune c
IsBegun (asking (forgetting before snapshot later)) = Unit {0}
IsBegun (asking (opening snapshot)) = Unit {0}
IsBegun (asking (listing snapshot)) = Unit {0}
IsBegun (asking (reading v row bytes)) = Unit {0}
IsBegun (asking (checking v row fault place d later)) = Unit {0}
IsBegun (asking (closing report)) = Unit {0}
IsBegun j = ⊥
