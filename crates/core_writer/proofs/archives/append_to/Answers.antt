use Rattle.std.proofs.Common.{◌∙◌, ap, sym}
use Rattle.core_state.specs.Named.{is_named}
use Rattle.core_state.proofs.NamedLemmas.{writer_named}
use Rattle.core_writer.proofs.AppendLemmas.{append_stopped, append_done}
use Rattle.core_writer.proofs.archives.append_to.Goals as goal

pub grow-requires : goal.grow-requires
grow-requires c = (writer_named c.in-Writer.w (sym (ap is_named c.in-Writer.is) ∙ c.requires.named)).1

pub returns-in_err-grow-in-Writer : goal.returns-in_err-grow-in-Writer
returns-in_err-grow-in-Writer c = λ moment.
    append_stopped moment c.args.number c.args.entries.now c.args.session.now c.in-Writer.w c.requires.named c.in-Writer.is c.grow.new.session c.grow.result
    c.grow.ensures.does c.grow.ensures.settled c.grow.ensures.plain _ _ c.from_residual.ensures.1 c.in_err-grow-in-Writer.was c.in_err-grow-in-Writer.ensures.text c.grow.ensures.uncalled

pub returns : goal.returns
returns c = λ moment.
    append_done moment c.args.number c.args.entries.now c.args.session.now c.in-Writer.w c.requires.named c.in-Writer.is c.grow.new.session c.grow.result
    c.grow.ensures.does c.grow.ensures.settled c.grow.ensures.plain _ c.in_ok-grow-in-Writer.was
