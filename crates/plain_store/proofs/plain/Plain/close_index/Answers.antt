use Rattle.std.proofs.Common.{◌∙◌, ap, sym, Ok}
use Rattle.wire_commands.specs.declared.reply.Reply.TheVariants.{Done}
use Rattle.plain_sessions.specs.declared.changes.Change.TheVariants.{Close}
use Rattle.plain_sessions.specs.Archiving.{closed_of}
use Rattle.plain_store.proofs.Spelled.{done_spelled}
use Rattle.plain_store.proofs.Stopping.{does_refuse, refusal_fits, does_stop, stop_fits}
use Rattle.plain_store.proofs.ArchiveLemmas.{writer_fits, writer_changed, close_not_writer, close_refused, close_goes}
use Rattle.plain_store.proofs.plain.Plain.close_index.Goals as goal

pub returns-in_err-w-clause-does : goal.returns-in_err-w-clause-does
returns-in_err-w-clause-does c =
    let r = c.in_err-w.field-0.0 in
    does_refuse _ c.from_residual.result r _ c.from_residual.ensures.1 (close_not_writer c.args.self.now c.args.lane c.args.number c.args.count c.args.size c.args.csum.now r (c.in_err-w.ensures.test))

pub returns-in_err-w-clause-spelled : goal.returns-in_err-w-clause-spelled
returns-in_err-w-clause-spelled c =
    refusal_fits c.from_residual.result c.in_err-w.field-0.0 c.from_residual.ensures.1 c.in_err-w.ensures.fits

pub returns-in_err-file-clause-does : goal.returns-in_err-file-clause-does
returns-in_err-file-clause-does c =
    let w = c.in_ok-w.w.now in
    let writes = c.in_ok-w.ensures.test in
    does_stop (λ f. f) _ c.from_residual-in_err-file.result c.in_err-file.field-0.0 (closed_of w c.args.number c.args.count c.args.size c.args.csum.now) _ c.from_residual-in_err-file.ensures.1 c.in_err-file.ensures.gives
    (close_refused c.args.self.now c.args.lane c.args.number c.args.count c.args.size c.args.csum.now w writes)

pub returns-in_err-file-clause-spelled : goal.returns-in_err-file-clause-spelled
returns-in_err-file-clause-spelled c =
    stop_fits c.from_residual-in_err-file.result c.in_err-file.field-0.0 c.from_residual-in_err-file.ensures.1 c.in_err-file.ensures.fits

pub change-requires-clause-fits : goal.change-requires-clause-fits
change-requires-clause-fits c =
    let w = c.in_ok-w.w.now in
    let writes = c.in_ok-w.ensures.test in
    writer_fits c.args.self.now c.args.lane w writes (Close c.args.number c.in_ok-file.file) c.in_ok-file.ensures.stands

pub returns-clause-does : goal.returns-clause-does
returns-clause-does c =
    let w = c.in_ok-w.w.now in
    let writes = c.in_ok-w.ensures.test in
    close_goes c.args.self.now c.args.lane c.args.number c.args.count c.args.size c.args.csum.now w writes c.in_ok-file.file c.in_ok-file.ensures.gives
    ∙ ap (λ a. Ok (a, Done)) (sym (c.in_ok-change.ensures.ok ∙ writer_changed c.args.self.now c.args.lane w writes (Close c.args.number c.in_ok-file.file)))

pub returns-clause-spelled : goal.returns-clause-spelled
returns-clause-spelled c = done_spelled
