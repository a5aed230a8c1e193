use Rattle.std.proofs.Common.{◌++◌, ◌∙◌, ap, take, sym, map, arith}
use Rattle.std.specs.List.{concat}
use Rattle.sha2.specs.Sha256.{sha256}
use Rattle.store_types.specs.declared.names.Digest32.{Digest32}
use Rattle.plain_snapshots.proofs.Entries.{digests_more}
use Rattle.plain_snapshots.proofs.archive.digests_of.Goals as goal

pub loop-piece-preserved : goal.loop-piece-preserved
loop-piece-preserved c =
    let i = c.loop-piece.piece-index in
    let xs = c.args.pieces.now in
    let x = c.piece-item.result in
    c.in_ok-extend_from_slice.ensures.items ∙ ap (λ t. t ++ c.digest.result.0) c.loop-piece.invariant
    ∙ ap (λ (d : Digest32). concat (map sha256 (take i xs)) ++ d.0) c.digest.ensures ∙ sym (digests_more xs i x (omega arith) c.piece-item.is)
