use Rattle.std.proofs.Common.{◌≤◌, All}
use Rattle.store_types.specs.Times.{last_moment}
use Rattle.base_tests.proofs.prune.minutes.Given as goal

abbrev pub invariant-loop-i : goal.invariant-loop-i
invariant-loop-i g l = All (λ item. item.time ≤ last_moment) l.items.items
