use Rattle.std.proofs.Common.{◌≡◌, ◌-◌, ◌≤◌, ◌++◌, vec_len}
use Rattle.generator.specs.Pieces.{bytes_after, piece}
use Rattle.generator.proofs.pieces.piece.Given as goal

abbrev pub invariant-loop-x : goal.invariant-loop-x
invariant-loop-x l = record {
  few : vec_len l.bytes ≤ l.size;
  rest : l.bytes.items ++ bytes_after (l.size - vec_len l.bytes) l.x ≡ piece l.fn.seed;
}

abbrev pub decreases-loop-x : goal.decreases-loop-x
decreases-loop-x l = l.size - vec_len l.bytes
