use Rattle.std.proofs.Common.{◌≡◌, ◌++◌, drop}
use Rattle.plain_snapshots.proofs.Entries.{entries_from}
use Rattle.plain_snapshots.proofs.archive.entries_of.Given as goal

abbrev pub invariant-loop-piece : goal.invariant-loop-piece
invariant-loop-piece l = l.text.items ++ entries_from l.end (drop l.piece-index l.pieces) ≡ entries_from 0 l.pieces
