use Rattle.std.proofs.Common.{◌≤◌}
use Rattle.store_tests.proofs.opening.count.Given as goal

abbrev pub invariant-loop-name : goal.invariant-loop-name
invariant-loop-name g l = l.count ≤ l.name-index
