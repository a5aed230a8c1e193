use Rattle.std.proofs.Common.{◌<◌, length, refl, arith}
use Rattle.wire_commands.specs.declared.command.Command.TheVariants.{CloseReader}
use Rattle.wire_commands.specs.declared.reply.Reply.TheVariants.{Done}
use Rattle.store_history.specs.declared.act.Act.TheVariants.{Plain}
use Rattle.store_model.specs.Store.{ended}
use Rattle.core_state.proofs.Commanding.{changed_does, reader_shown, unread_does}
use Rattle.core_state.proofs.Soundness.{disk_idle}
use Rattle.core_state.proofs.Texts.{done_has_text}
use Rattle.core_reader.proofs.CloseSteps.{close_unread, closes}
use Rattle.core_reader.proofs.closing.close_reader.Goals as goal

pub returns-in_err-reader-clause-does : goal.returns-in_err-reader-clause-does
returns-in_err-reader-clause-does g c =
    unread_does g.D.Disk c.args.parts.now c.args.at (Plain CloseReader) _ _ c.from_residual.ensures.1 c.requires
    c.in_err-reader.ensures.value c.in_err-reader.ensures.text (λ state. refl) (λ s. close_unread s c.args.at.lane c.args.at.moment _)

pub returns-clause-does : goal.returns-clause-does
returns-clause-does g c =
    changed_does g.D.Disk c.args.parts.now _ c.args.at (Plain CloseReader) Done c.end_session.ensures.disk done_has_text refl tt
    (λ s h.
    let (r, at, is) = reader_shown c.args.parts.now s c.args.at.lane _ h.shows c.requires c.in_ok-reader.ensures.value in
    let l : c.args.at.lane < length s.sessions = omega (arith, ((h.shows).sound).lanes, c.requires) in
    (ended s c.args.at.lane, closes s c.args.at.lane c.args.at.moment r at, c.end_session.ensures.shows s h.shows, disk_idle _ s c.args.at.lane l h.files))
