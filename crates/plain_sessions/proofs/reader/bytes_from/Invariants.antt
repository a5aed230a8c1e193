use Rattle.std.proofs.Common.{◌≡◌, ◌++◌, take, drop}
use Rattle.std.specs.List.{concat}
use Rattle.plain_sessions.proofs.reader.bytes_from.Given as goal

abbrev pub invariant-loop-piece : goal.invariant-loop-piece
invariant-loop-piece l = l.bytes.items ++ take l.left (drop l.before (concat (drop l.piece-index l.pieces))) ≡ take l.fn.count (drop l.fn.offset (concat l.pieces))
