use Rattle.std.proofs.Common.{◌≡◌, ◌-◌}
use Rattle.store_model.specs.Archives.{free_from, free_number}
use Rattle.backup_session.specs.Kept.{opens_of}
use Rattle.backup_session.specs.Steps.{numbers}
use Rattle.backup_session.proofs.indexes.free_number.Given as goal

abbrev pub invariant-loop-number : goal.invariant-loop-number
invariant-loop-number l = free_from (16 - l.number) l.number (numbers (opens_of l.begun)) ≡ free_number (numbers (opens_of l.begun))
