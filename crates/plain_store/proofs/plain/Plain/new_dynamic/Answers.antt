use Rattle.std.proofs.Common.{◌∙◌, ap, sym, Ok, arith}
use Rattle.store_model.specs.Store.{Begun}
use Rattle.wire_commands.specs.declared.reply.Reply.TheVariants.{Number}
use Rattle.plain_sessions.specs.declared.changes.Change.TheVariants.{Begin}
use Rattle.plain_sessions.specs.Archiving.{begun_of}
use Rattle.plain_store.proofs.Spelled.{number_spelled}
use Rattle.plain_store.proofs.Stopping.{does_refuse, refusal_fits, does_stop, stop_fits}
use Rattle.plain_store.proofs.ArchiveLemmas.{writer_changed, writer_fits, new_not_writer, new_refused, new_goes}
use Rattle.plain_store.proofs.plain.Plain.new_dynamic.Goals as goal

pub returns-in_err-w-clause-does : goal.returns-in_err-w-clause-does
returns-in_err-w-clause-does c =
    let r = c.in_err-w.field-0.0 in
    does_refuse _ c.from_residual.result r _ c.from_residual.ensures.1 (new_not_writer c.args.self.now c.args.lane c.args.moment c.args.name.now r (c.in_err-w.ensures.test))

pub returns-in_err-w-clause-spelled : goal.returns-in_err-w-clause-spelled
returns-in_err-w-clause-spelled c =
    refusal_fits c.from_residual.result c.in_err-w.field-0.0 c.from_residual.ensures.1 c.in_err-w.ensures.fits

pub returns-in_err-begun-clause-does : goal.returns-in_err-begun-clause-does
returns-in_err-begun-clause-does c =
    let w = c.in_ok-w.w.now in
    let writes = c.in_ok-w.ensures.test in
    does_stop (λ b. b) _ c.from_residual-in_err-begun.result c.in_err-begun.field-0.0 (begun_of w c.args.name.now c.args.moment) _ c.from_residual-in_err-begun.ensures.1 c.in_err-begun.ensures.gives
    (new_refused c.args.self.now c.args.lane c.args.moment c.args.name.now w writes)

pub returns-in_err-begun-clause-spelled : goal.returns-in_err-begun-clause-spelled
returns-in_err-begun-clause-spelled c =
    stop_fits c.from_residual-in_err-begun.result c.in_err-begun.field-0.0 c.from_residual-in_err-begun.ensures.1 c.in_err-begun.ensures.fits

pub change-requires-clause-fits : goal.change-requires-clause-fits
change-requires-clause-fits c =
    let w = c.in_ok-w.w.now in
    let writes = c.in_ok-w.ensures.test in
    writer_fits c.args.self.now c.args.lane w writes (Begin c.in_ok-begun.begun) c.in_ok-begun.ensures.room

pub returns-clause-does : goal.returns-clause-does
returns-clause-does c =
    let w = c.in_ok-w.w.now in
    let writes = c.in_ok-w.ensures.test in
    new_goes c.args.self.now c.args.lane c.args.moment c.args.name.now w writes c.in_ok-begun.begun c.in_ok-begun.ensures.gives
    ∙ ap (λ a. Ok (a, Number c.in_ok-begun.begun.number)) (sym (c.in_ok-change.ensures.ok ∙ writer_changed c.args.self.now c.args.lane w writes (Begin c.in_ok-begun.begun)))
    ∙ ap (λ (b : Begun). Ok (c.change.new.self, Number b.number)) (sym c.begun.view_is)

pub returns-clause-spelled : goal.returns-clause-spelled
returns-clause-spelled c =
    let same = ap (λ (b : Begun). b.number) c.begun.view_is in
    number_spelled c.begun.inside.number (omega (arith, same, c.in_ok-begun.ensures.number))
