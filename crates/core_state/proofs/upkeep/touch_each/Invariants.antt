use Rattle.std.proofs.Common.{◌≡◌, ℕ, List, drop}
use Rattle.core_state.specs.Upkeeps.{touched_in}
use Rattle.core_state.proofs.upkeep.touch_each.Given as goal

abbrev pub invariant-loop-digest : goal.invariant-loop-digest
invariant-loop-digest l = (d : List ℕ) → touched_in l.book (drop l.digest-index l.digests) l.moment d ≡ touched_in l.fn.book l.digests l.moment d
