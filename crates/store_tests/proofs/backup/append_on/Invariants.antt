use Rattle.std.proofs.Common.{◌≡◌, None}
use Rattle.store_tests.proofs.backup.append_on.Given as goal

abbrev pub invariant-loop-call : goal.invariant-loop-call
invariant-loop-call g l = l.w.pending ≡ None
