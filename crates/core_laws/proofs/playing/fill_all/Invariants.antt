use Rattle.std.proofs.Common.{◌<◌, ◌≤◌, ℕ}
use Rattle.core_state.specs.Entering.{held_by}
use Rattle.shared_store.specs.Comes.{SameCore}
use Rattle.core_laws.proofs.playing.fill_all.Given as goal

abbrev pub invariant-loop-lane : goal.invariant-loop-lane
invariant-loop-lane g l = record {
  same : SameCore l.fn.core l.core;
  whole : (other : ℕ) → other < l.lane → 3 ≤ held_by (l.core).journal other;
}
