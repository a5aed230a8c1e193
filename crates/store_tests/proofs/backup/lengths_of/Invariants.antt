use Rattle.std.specs.FinMap.{entries}
use Rattle.backup_session.specs.Kept.{HasLengths}
use Rattle.store_tests.proofs.backup.lengths_of.Given as goal

abbrev pub invariant-loop-piece : goal.invariant-loop-piece
invariant-loop-piece g l = HasLengths (entries l.known)
