use Rattle.std.proofs.Common.{◌≡◌, All, length, map, take}
use Rattle.fixed_index.specs.Writing.{piece_digests}
use Rattle.fixed_index.proofs.writer.digests_of.Given as goal

abbrev pub invariant-loop-piece : goal.invariant-loop-piece
invariant-loop-piece l = record {
  values : map (λ d. d.0) l.digests.items ≡ piece_digests (take l.piece-index l.pieces);
  lengths : All (λ d. length d ≡ 32) (map (λ d. d.0) l.digests.items);
}
