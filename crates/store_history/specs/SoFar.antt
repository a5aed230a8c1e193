-- What a lane did so far, while more of its input may come.
use Rattle.std.specs.Prelude.{ℕ, ◌≡◌, ◌+◌, Bool, true, false, List, [], ◌∷◌, ◌++◌, length}
use Rattle.store_model.specs.Lanes.{Next, job_step, plain, sync, collect, collecting}
use Rattle.store_history.specs.declared.act.Event.{Event}
use Rattle.store_history.specs.Acts.{Class, stepping, reaching, starting, sweeping, wanting, ending, class_of}
use Rattle.store_history.specs.LaneRun.{Ahead, ahead, pull, Position, next_at, heard, Asks, may_want_at, may_step}

-- a command, a job's step or a collector's act is next, and no end
abbrev pub goes_further : Ahead → Bool
goes_further (ahead (job_step j left)) = true
goes_further (ahead (plain c left)) = true
goes_further (ahead (sync group left)) = true
goes_further (ahead (collect left)) = true
goes_further (ahead (collecting is_out_of_memory)) = true
goes_further (pull x left) = true
goes_further _ = false

-- the program makes this act here, whatever of its input comes later
abbrev pub Follows : Class → Position → Event → Type 0
Follows stepping p v = (may_step p ≡ true) × Asks (next_at p) v.act
Follows reaching p v = (p.is_spent ≡ false) × Asks (next_at p) v.act
Follows starting p v = (p.is_spent ≡ false) × Asks (next_at p) v.act
Follows sweeping p v = Asks (next_at p) v.act
Follows wanting p v = (p.is_spent ≡ false) × (may_want_at p ≡ true) × (goes_further (next_at p) ≡ true)
Follows ending p v = ⊥

-- these events of the lane lead from one position to another
abbrev pub Leads : Position → List Event → Position → Type 0
Leads p [] q = p ≡ q
Leads p (v ∷ vs) q = Follows (class_of v.act) p v × Leads (heard p v.answer) vs q

-- the position, where more of the input was taken
abbrev pub grown : List ℕ → Position → Position
grown more p = record p { size = p.size + length more; left = p.left ++ more }
