use Rattle.std.proofs.Common.{◌≡◌, ◌∙◌, ap, sym, refl, true, false, None, Some, rules}
use Rattle.store_types.specs.FileNames.{is_index_name}
use Rattle.store_files.specs.Archive.{file_named, pieces_of}
use Rattle.store_model.specs.ReaderSteps.{reader_files}
use Rattle.plain_sessions.specs.Reading.{entry_blob}
use Rattle.plain_store.proofs.Spelled.{data_spelled}
use Rattle.plain_store.proofs.Stopping.{does_refuse, refusal_fits, does_stop, stop_fits}
use Rattle.plain_store.proofs.ReaderLemmas.{entry_not_reader, entry_no_index, entry_no_file, entry_refused, entry_given}
use Rattle.plain_store.proofs.plain.Plain.read_chunk.Goals as goal

pub returns-in_err-r-clause-does : goal.returns-in_err-r-clause-does
returns-in_err-r-clause-does c =
    let r = c.in_err-r.field-0.0 in
    does_refuse _ c.from_residual.result r _ c.from_residual.ensures.1 (entry_not_reader c.args.self.now c.args.lane c.args.name.now c.args.entry r (c.in_err-r.ensures.test))

pub returns-in_err-r-clause-spelled : goal.returns-in_err-r-clause-spelled
returns-in_err-r-clause-spelled c =
    refusal_fits c.from_residual.result c.in_err-r.field-0.0 c.from_residual.ensures.1 c.in_err-r.ensures.fits

pub returns-then-not-is_index-clause-does : goal.returns-then-not-is_index-clause-does
returns-then-not-is_index-clause-does c =
    let reads = c.in_ok-r.ensures.test in
    let bad : is_index_name c.args.name.now ≡ false = search rules in
    (entry_no_index c.args.self.now c.args.lane c.args.name.now c.args.entry c.in_ok-r.r.now reads bad, refl)

pub returns-in_default-clause-does : goal.returns-in_default-clause-does
returns-in_default-clause-does c =
    let s = c.args.self.now in
    let x = c.in_ok-r.r.now in
    let name = c.args.name.now in
    let reads = c.in_ok-r.ensures.test in
    let good : is_index_name name ≡ true = search rules in
    let none : file_named name (reader_files s x) ≡ None = search rules in
    (entry_no_file s c.args.lane name c.args.entry x reads good none, refl)

pub returns-in_err-blob-clause-does : goal.returns-in_err-blob-clause-does
returns-in_err-blob-clause-does c =
    let s = c.args.self.now in
    let x = c.in_ok-r.r.now in
    let name = c.args.name.now in
    let f = c.in-Some.file.now in
    let reads = c.in_ok-r.ensures.test in
    let good : is_index_name name ≡ true = search rules in
    let there : file_named name (reader_files s x) ≡ Some f = search rules in
    let pieces : c.pieces.result.now ≡ pieces_of f.content = search rules in
    does_stop (λ b. b) _ c.from_residual-in_err-blob.result c.in_err-blob.field-0.0 (entry_blob c.pieces.result.now c.args.entry) _ c.from_residual-in_err-blob.ensures.1 c.in_err-blob.ensures.gives
    (λ r h. entry_refused s c.args.lane name c.args.entry x reads f good there r (ap (λ ps. entry_blob ps c.args.entry) (sym pieces) ∙ h))

pub returns-in_err-blob-clause-spelled : goal.returns-in_err-blob-clause-spelled
returns-in_err-blob-clause-spelled c =
    stop_fits c.from_residual-in_err-blob.result c.in_err-blob.field-0.0 c.from_residual-in_err-blob.ensures.1 c.in_err-blob.ensures.fits

pub returns-clause-does : goal.returns-clause-does
returns-clause-does c =
    let s = c.args.self.now in
    let x = c.in_ok-r.r.now in
    let name = c.args.name.now in
    let f = c.in-Some.file.now in
    let reads = c.in_ok-r.ensures.test in
    let good : is_index_name name ≡ true = search rules in
    let there : file_named name (reader_files s x) ≡ Some f = search rules in
    let pieces : c.pieces.result.now ≡ pieces_of f.content = search rules in
    entry_given s c.args.lane name c.args.entry x reads f good there c.in_ok-blob.blob (ap (λ ps. entry_blob ps c.args.entry) (sym pieces) ∙ c.in_ok-blob.ensures.gives)

pub returns-clause-spelled : goal.returns-clause-spelled
returns-clause-spelled c = data_spelled c.in_ok-blob.blob c.in_ok-blob.ensures.short
