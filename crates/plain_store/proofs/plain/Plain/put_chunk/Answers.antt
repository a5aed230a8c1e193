use Rattle.std.proofs.Common.{◌≡◌, ◌∙◌, [], ◌∷◌, ap, sym, Ok, rules}
use Rattle.store_model.specs.Store.{session}
use Rattle.wire_commands.specs.declared.reply.Reply.TheVariants.{Done}
use Rattle.store_model.specs.ArchiveSteps.{check_chunk}
use Rattle.plain_sessions.specs.declared.changes.Change.TheVariants.{Pool}
use Rattle.plain_store.proofs.Spelled.{done_spelled}
use Rattle.plain_store.proofs.Stopping.{does_refuse, refusal_fits, does_stop, stop_fits}
use Rattle.plain_store.proofs.ArchiveLemmas.{fits_anyway, writer_changed, chunk_not_writer, chunk_refused, chunk_goes}
use Rattle.plain_store.proofs.plain.Plain.put_chunk.Goals as goal

pub returns-in_err-want_writer-clause-does : goal.returns-in_err-want_writer-clause-does
returns-in_err-want_writer-clause-does c =
    let r = c.in_err-want_writer.field-0.0 in
    does_refuse _ c.from_residual.result r _ c.from_residual.ensures.1 (chunk_not_writer c.args.self.now c.args.lane c.args.digest.now c.args.blob.now r (c.in_err-want_writer.ensures.test))

pub returns-in_err-want_writer-clause-spelled : goal.returns-in_err-want_writer-clause-spelled
returns-in_err-want_writer-clause-spelled c =
    refusal_fits c.from_residual.result c.in_err-want_writer.field-0.0 c.from_residual.ensures.1 c.in_err-want_writer.ensures.fits

pub returns-in_err-piece-clause-does : goal.returns-in_err-piece-clause-does
returns-in_err-piece-clause-does c =
    let w = c.in_ok-want_writer.field-0.now in
    let writes = c.in_ok-want_writer.ensures.test in
    does_stop (λ p. p) _ c.from_residual-in_err-piece.result c.in_err-piece.field-0.0 (check_chunk c.args.digest.now c.args.blob.now) _ c.from_residual-in_err-piece.ensures.1 c.in_err-piece.ensures.gives
    (chunk_refused c.args.self.now c.args.lane c.args.digest.now c.args.blob.now w writes)

pub returns-in_err-piece-clause-spelled : goal.returns-in_err-piece-clause-spelled
returns-in_err-piece-clause-spelled c =
    stop_fits c.from_residual-in_err-piece.result c.in_err-piece.field-0.0 c.from_residual-in_err-piece.ensures.1 c.in_err-piece.ensures.fits

pub change-requires-clause-fits : goal.change-requires-clause-fits
change-requires-clause-fits c =
    fits_anyway (Pool c.in_ok-pieces.pieces) (session c.args.self.now c.args.lane) (λ w. tt)

pub returns-clause-does : goal.returns-clause-does
returns-clause-does c =
    let w = c.in_ok-want_writer.field-0.now in
    let writes = c.in_ok-want_writer.ensures.test in
    let one : c.in_ok-pieces.pieces.items ≡ c.in_ok-piece.piece ∷ [] = search rules in
    chunk_goes c.args.self.now c.args.lane c.args.digest.now c.args.blob.now w writes c.in_ok-piece.piece c.in_ok-pieces.pieces.items c.in_ok-piece.ensures.gives one
    ∙ ap (λ a. Ok (a, Done)) (sym (c.in_ok-change.ensures.ok ∙ writer_changed c.args.self.now c.args.lane w writes (Pool c.in_ok-pieces.pieces)))

pub returns-clause-spelled : goal.returns-clause-spelled
returns-clause-spelled c = done_spelled
