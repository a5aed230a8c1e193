use Rattle.std.proofs.Common.{length, sym, ap, subst, arith, ◌∙◌}
use Rattle.sha2.specs.Sha256.{sha256}
use Rattle.store_files.specs.Archive.{digest_of}
use Rattle.blob_codec.specs.Blob.{FitsBlob, blob}
use Rattle.wire_commands.specs.HasText.{HasText}
use Rattle.wire_commands.specs.declared.command.Command.TheVariants as commands
use Rattle.generator.specs.Pieces.{piece}
use Rattle.generator.proofs.PieceLemmas.{piece_fits}
use Rattle.generator.proofs.CommandTexts.{has_text, piece_has_blob, chunk_fits}
use Rattle.generator.proofs.session.put_chunk.Goals as goal

pub blob_of-requires : goal.blob_of-requires
blob_of-requires c = subst FitsBlob (sym (c.deref.ensures.value ∙ c.in_ok-bytes.ensures)) (piece_has_blob _ (piece_fits c.args.seed))

pub put-requires : goal.put-requires
put-requires c =
    let p = piece c.args.seed in
    let digest_is = c.digest.ensures ∙ ap sha256 (c.as_slice.ensures.value ∙ c.in_ok-bytes.ensures) in
    let blob_is = c.in_ok-blob.ensures ∙ ap blob (c.deref.ensures.value ∙ c.in_ok-bytes.ensures) in
    let sent = subst (λ t. HasText (commands.Chunk (digest_of p) t)) (sym blob_is) (has_text _ (chunk_fits p (piece_fits c.args.seed))) in
    subst (λ d. HasText (commands.Chunk (record { 0 = d }) c.in_ok-blob.blob)) (sym digest_is) sent

pub overflow_cast-length : goal.overflow_cast-length
overflow_cast-length c = omega (arith, c.len-length.ensures, c.in_ok-bytes.bytes.ok.0, ap length c.in_ok-bytes.ensures, (piece_fits c.args.seed).most)
