use Rattle.std.proofs.Common.{◌≡◌, ◌++◌, ◌+◌, ◌%◌, ◌^◌, ◌∙◌, ap, sym, drop, length, get_or, arith, rules}
use Rattle.std.specs.Int.{w64, to_le_bytes}
use Rattle.sha2.specs.Sha256.{sha256}
use Rattle.store_types.specs.declared.names.Digest32.{Digest32}
use Rattle.plain_snapshots.proofs.Entries.{entries_from, entries_more}
use Rattle.plain_snapshots.proofs.archive.entries_of.Goals as goal

pub loop-piece-preserved : goal.loop-piece-preserved
loop-piece-preserved c =
    let i = c.loop-piece.piece-index in
    let xs = c.args.pieces.now in
    let piece = c.as_slice.result.now in
    let text = c.loop-piece.text.items in
    let now = to_le_bytes w64 ((c.loop-piece.end + length piece) % 2 ^ 64) in
    let same : piece ≡ c.piece-item.result = c.as_slice.ensures.value in
    let is : piece ≡ get_or xs i piece = rw same c.piece-item.is in
    let digest : c.digest.result.0 ≡ sha256 piece = ap (λ (d : Digest32). d.0) c.digest.ensures ∙ ap sha256 (sym same) in
    let number : c.to_le_bytes.result ≡ now = search rules in
    ap (λ t. t ++ entries_from ((c.loop-piece.end + length piece) % 2 ^ 64) (drop (i + 1) xs))
    (c.in_ok-extend_from_slice-2.ensures.items ∙ ap (λ a. a ++ c.digest.result.0) c.in_ok-extend_from_slice.ensures.items
    ∙ ap (λ n. (text ++ n) ++ c.digest.result.0) number ∙ ap (λ d. (text ++ now) ++ d) digest)
    ∙ entries_more text c.loop-piece.end xs i piece (entries_from 0 xs) (omega arith) is c.loop-piece.invariant
