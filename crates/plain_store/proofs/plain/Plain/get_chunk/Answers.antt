use Rattle.std.proofs.Common.{◌∙◌, ap, sym}
use Rattle.plain_sessions.specs.Reading.{chunk_of}
use Rattle.plain_store.proofs.Spelled.{data_spelled}
use Rattle.plain_store.proofs.Stopping.{does_refuse, refusal_fits, does_stop, stop_fits}
use Rattle.plain_store.proofs.ReaderLemmas.{chunk_not_reader, chunk_refused, chunk_given}
use Rattle.plain_store.proofs.plain.Plain.get_chunk.Goals as goal

pub returns-in_err-r-clause-does : goal.returns-in_err-r-clause-does
returns-in_err-r-clause-does c =
    let r = c.in_err-r.field-0.0 in
    does_refuse _ c.from_residual.result r _ c.from_residual.ensures.1 (chunk_not_reader c.args.self.now c.args.lane c.args.digest.now r (c.in_err-r.ensures.test))

pub returns-in_err-r-clause-spelled : goal.returns-in_err-r-clause-spelled
returns-in_err-r-clause-spelled c =
    refusal_fits c.from_residual.result c.in_err-r.field-0.0 c.from_residual.ensures.1 c.in_err-r.ensures.fits

pub returns-in_err-blob-clause-does : goal.returns-in_err-blob-clause-does
returns-in_err-blob-clause-does c =
    let x = c.in_ok-r.r.now in
    let reads = c.in_ok-r.ensures.test in
    does_stop (λ b. b) _ c.from_residual-in_err-blob.result c.in_err-blob.field-0.0 (chunk_of c.reader_files.result.now x c.args.digest.now) _ c.from_residual-in_err-blob.ensures.1 c.in_err-blob.ensures.gives
    (λ r h. chunk_refused c.args.self.now c.args.lane c.args.digest.now x reads r (ap (λ fs. chunk_of fs x c.args.digest.now) (sym c.reader_files.ensures) ∙ h))

pub returns-in_err-blob-clause-spelled : goal.returns-in_err-blob-clause-spelled
returns-in_err-blob-clause-spelled c =
    stop_fits c.from_residual-in_err-blob.result c.in_err-blob.field-0.0 c.from_residual-in_err-blob.ensures.1 c.in_err-blob.ensures.fits

pub returns-clause-does : goal.returns-clause-does
returns-clause-does c =
    let x = c.in_ok-r.r.now in
    let reads = c.in_ok-r.ensures.test in
    chunk_given c.args.self.now c.args.lane c.args.digest.now x reads c.in_ok-blob.blob (ap (λ fs. chunk_of fs x c.args.digest.now) (sym c.reader_files.ensures) ∙ c.in_ok-blob.ensures.gives)

pub returns-clause-spelled : goal.returns-clause-spelled
returns-clause-spelled c = data_spelled c.in_ok-blob.blob c.in_ok-blob.ensures.short
