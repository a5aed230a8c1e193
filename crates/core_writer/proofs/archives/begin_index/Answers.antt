use Rattle.std.proofs.Common.{◌∙◌, ap, sym, arith}
use Rattle.core_state.specs.Named.{is_named}
use Rattle.core_state.proofs.NamedLemmas.{writer_named}
use Rattle.core_writer.proofs.BeginLemmas.{begin_unnamed, begin_stopped, begin_done}
use Rattle.core_writer.proofs.archives.begin_index.Goals as goal

pub returns-in_err-name-in-Writer : goal.returns-in_err-name-in-Writer
returns-in_err-name-in-Writer c =
    begin_unnamed c.args.moment c.args.index c.args.name.now c.args.session.now c.in-Writer.w c.requires.named c.in-Writer.is _ _ c.from_residual.ensures.1 c.in_err-name-in-Writer.ensures.stops

pub begin-requires-clause-settled : goal.begin-requires-clause-settled
begin-requires-clause-settled c = (writer_named c.in-Writer.w (sym (ap is_named c.in-Writer.is) ∙ c.requires.named)).1

pub returns-in_err-number-in-Writer : goal.returns-in_err-number-in-Writer
returns-in_err-number-in-Writer c =
    begin_stopped c.args.moment c.args.index c.args.name.now c.args.session.now c.in-Writer.w c.requires.named c.in-Writer.is c.begin.new.session c.begin.result _ c.in_ok-name-in-Writer.ensures.name.0
    c.begin.ensures.does c.begin.ensures.settled c.begin.ensures.plain _ _ c.from_residual-in_err-number-in-Writer.ensures.1 c.in_err-number-in-Writer.was c.in_err-number-in-Writer.ensures.text c.begin.ensures.uncalled

pub returns : goal.returns
returns c =
    begin_done c.args.moment c.args.index c.args.name.now c.args.session.now c.in-Writer.w c.requires.named c.in-Writer.is c.begin.new.session c.begin.result _ c.in_ok-name-in-Writer.ensures.name.0
    c.begin.ensures.does c.begin.ensures.settled c.begin.ensures.plain _ (omega arith) c.requires.in_time c.in_ok-number-in-Writer.was
