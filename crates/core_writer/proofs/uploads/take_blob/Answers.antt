use Rattle.std.proofs.Common.{◌∙◌, Err, ap, refl, subst, sym}
use Rattle.store_files.specs.Folder.{file_path}
use Rattle.store_history.specs.Acts.{IsChecked}
use Rattle.core_state.specs.Named.{is_named}
use Rattle.core_state.proofs.NamedLemmas.{writer_named}
use Rattle.core_writer.proofs.BlobLemmas.{blob_done, blob_short, blob_stopped, blob_unchecked, blob_unnamed, blob_unwanted}
use Rattle.core_writer.proofs.uploads.take_blob.Goals as goal

pub returns-in_err-name-in-Writer : goal.returns-in_err-name-in-Writer
returns-in_err-name-in-Writer c =
    blob_unnamed c.args.name.now c.args.checked c.args.session.now c.in-Writer.w c.in-Writer.is _ _ c.from_residual.ensures.1 c.in_err-name-in-Writer.ensures.stops

pub want_blob-requires : goal.want_blob-requires
want_blob-requires c = (writer_named c.in-Writer.w (sym (ap is_named c.in-Writer.is) ∙ c.requires.named)).1

pub returns-in_err-want_blob-in-Writer : goal.returns-in_err-want_blob-in-Writer
returns-in_err-want_blob-in-Writer c =
    blob_unwanted c.args.name.now c.args.checked c.args.session.now c.in-Writer.w c.in-Writer.is c.in_ok-name-in-Writer.name c.in_ok-name-in-Writer.ensures.name.0 c.in_err-want_blob-in-Writer.field-0.0 _
    c.from_residual-in_err-want_blob-in-Writer.ensures.1 c.in_err-want_blob-in-Writer.ensures.value c.in_err-want_blob-in-Writer.ensures.plain

pub returns-in-Err : goal.returns-in-Err
returns-in-Err c =
    blob_unchecked c.args.name.now c.args.checked c.args.session.now c.in-Writer.w c.in-Writer.is c.in_ok-name-in-Writer.name c.in_ok-name-in-Writer.ensures.name.0 c.in_ok-want_blob-in-Writer.ensures.plain
    c.refused.result _ refl (c.in-Err.is ∙ ap (λ r. Err r) (sym c.refused.ensures.value)) c.refused.ensures.kind c.refused.ensures.text

pub returns-in_err-file-in-Writer : goal.returns-in_err-file-in-Writer
returns-in_err-file-in-Writer c = blob_short c.args.name.now c.args.checked c.args.session.now c.in-Writer.w c.in-Writer.is _ c.from_residual-in_err-file-in-Writer.ensures.1

pub take-requires-clause-settled : goal.take-requires-clause-settled
take-requires-clause-settled c = (writer_named c.in-Writer.w (sym (ap is_named c.in-Writer.is) ∙ c.requires.named)).1

pub take-requires-clause-blob : goal.take-requires-clause-blob
take-requires-clause-blob c = subst IsChecked c.in-Ok.is c.requires.checked

pub returns-in_err-take-in-Writer : goal.returns-in_err-take-in-Writer
returns-in_err-take-in-Writer c =
    blob_stopped c.args.name.now c.args.checked c.args.session.now c.in-Writer.w c.in-Writer.is c.in_ok-name-in-Writer.name c.in_ok-name-in-Writer.ensures.name.0 c.in_ok-want_blob-in-Writer.ensures.plain
    c.take.new.session c.take.result c.in-Ok.text c.in-Ok.is c.requires.checked c.take.ensures.bytes c.in_ok-want_blob-in-Writer.ensures.value c.take.ensures.does c.take.ensures.plain
    _ _ c.from_residual-in_err-take-in-Writer.ensures.1 c.in_err-take-in-Writer.was c.take.ensures.uncalled

pub returns : goal.returns
returns c =
    blob_done c.args.name.now c.args.checked c.args.session.now c.in-Writer.w c.in-Writer.is c.in_ok-name-in-Writer.name c.in_ok-name-in-Writer.ensures.name.0 c.in_ok-want_blob-in-Writer.ensures.plain
    c.take.new.session c.take.result c.in-Ok.text c.in-Ok.is c.requires.checked c.take.ensures.bytes c.in_ok-want_blob-in-Writer.ensures.value c.take.ensures.does c.take.ensures.plain
    _ c.in_ok-file-in-Writer.file c.in_ok-take-in-Writer.was c.in_ok-file-in-Writer.ensures.name (c.in_ok-file-in-Writer.ensures.path ∙ ap (λ k. file_path k c.in_ok-name-in-Writer.name) c.key.ensures.key)
