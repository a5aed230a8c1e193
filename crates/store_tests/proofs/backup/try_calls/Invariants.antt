use Rattle.std.proofs.Common.{◌≡◌, None}
use Rattle.store_tests.proofs.backup.try_calls.Given as goal

abbrev pub invariant-loop-number : goal.invariant-loop-number
invariant-loop-number g l = l.w.pending ≡ None
