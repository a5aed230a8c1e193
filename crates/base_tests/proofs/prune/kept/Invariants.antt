use Rattle.std.proofs.Common.{◌≤◌, All}
use Rattle.store_types.specs.Times.{last_moment}
use Rattle.base_tests.proofs.prune.kept.Given as goal

abbrev pub invariant-loop-time : goal.invariant-loop-time
invariant-loop-time g l = All (λ item. item.time ≤ last_moment) l.items.items
