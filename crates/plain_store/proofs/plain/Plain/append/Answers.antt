use Rattle.std.proofs.Common.{◌∙◌, ap, sym, Ok, map, Vec, Global}
use Rattle.store_types.specs.declared.rows.Bytes.{Bytes}
use Rattle.store_model.specs.Store.{session}
use Rattle.wire_commands.specs.declared.reply.Reply.TheVariants.{Done}
use Rattle.store_model.specs.ArchiveSteps.{named}
use Rattle.plain_sessions.specs.declared.changes.Change.TheVariants.{Grow}
use Rattle.plain_sessions.specs.Archiving.{appended}
use Rattle.plain_store.proofs.Spelled.{done_spelled}
use Rattle.plain_store.proofs.Stopping.{does_refuse, refusal_fits, does_stop, stop_fits}
use Rattle.plain_store.proofs.ArchiveLemmas.{fits_anyway, writer_changed, append_not_writer, append_refused, append_goes}
use Rattle.plain_store.proofs.plain.Plain.append.Goals as goal

pub returns-in_err-w-clause-does : goal.returns-in_err-w-clause-does
returns-in_err-w-clause-does c =
    let r = c.in_err-w.field-0.0 in
    does_refuse _ c.from_residual.result r _ c.from_residual.ensures.1 (append_not_writer c.args.self.now c.args.lane c.args.number c.args.entries.now r (c.in_err-w.ensures.test))

pub returns-in_err-w-clause-spelled : goal.returns-in_err-w-clause-spelled
returns-in_err-w-clause-spelled c =
    refusal_fits c.from_residual.result c.in_err-w.field-0.0 c.from_residual.ensures.1 c.in_err-w.ensures.fits

pub returns-in_err-pieces-clause-does : goal.returns-in_err-pieces-clause-does
returns-in_err-pieces-clause-does c =
    let w = c.in_ok-w.w.now in
    let writes = c.in_ok-w.ensures.test in
    does_stop (λ (pieces : Vec Bytes Global). pieces.items) _ c.from_residual-in_err-pieces.result c.in_err-pieces.field-0.0 (appended w c.args.number (map named c.args.entries.now)) _ c.from_residual-in_err-pieces.ensures.1 c.in_err-pieces.ensures.gives
    (append_refused c.args.self.now c.args.lane c.args.number c.args.entries.now w writes)

pub returns-in_err-pieces-clause-spelled : goal.returns-in_err-pieces-clause-spelled
returns-in_err-pieces-clause-spelled c =
    stop_fits c.from_residual-in_err-pieces.result c.in_err-pieces.field-0.0 c.from_residual-in_err-pieces.ensures.1 c.in_err-pieces.ensures.fits

pub change-requires-clause-fits : goal.change-requires-clause-fits
change-requires-clause-fits c =
    fits_anyway (Grow c.args.number c.in_ok-pieces.pieces) (session c.args.self.now c.args.lane) (λ w. tt)

pub returns-clause-does : goal.returns-clause-does
returns-clause-does c =
    let w = c.in_ok-w.w.now in
    let writes = c.in_ok-w.ensures.test in
    append_goes c.args.self.now c.args.lane c.args.number c.args.entries.now w writes c.in_ok-pieces.pieces.items c.in_ok-pieces.ensures.gives
    ∙ ap (λ a. Ok (a, Done)) (sym (c.in_ok-change.ensures.ok ∙ writer_changed c.args.self.now c.args.lane w writes (Grow c.args.number c.in_ok-pieces.pieces)))

pub returns-clause-spelled : goal.returns-clause-spelled
returns-clause-spelled c = done_spelled
