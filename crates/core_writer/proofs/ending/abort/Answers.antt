use Rattle.std.proofs.Common.{refl}
use Rattle.wire_commands.specs.declared.command.Command.TheVariants.{Abort}
use Rattle.store_history.specs.declared.act.Act.TheVariants.{Plain}
use Rattle.core_state.proofs.Commanding.{unwritten_does, unwritten_leaves, writer_shown}
use Rattle.core_writer.proofs.AbortLemmas.{not_writing, abort_failed_does, abort_failed_leaves, abort_does, abort_leaves}
use Rattle.core_writer.proofs.ending.abort.Goals as goal

pub returns-in_err-writer-clause-does : goal.returns-in_err-writer-clause-does
returns-in_err-writer-clause-does g c =
    unwritten_does g.D.Disk c.args.parts.now c.args.at (Plain Abort) _ _ c.from_residual.ensures.1 c.requires c.in_err-writer.ensures.value c.in_err-writer.ensures.text
    (λ state. refl) (λ s. not_writing s c.args.at.lane c.args.at.moment _)

pub returns-in_err-writer-clause-leaves : goal.returns-in_err-writer-clause-leaves
returns-in_err-writer-clause-leaves g c =
    unwritten_leaves g.D.Disk c.args.parts.now c.args.at (Plain Abort) _ _ c.from_residual.ensures.1 c.in_err-writer.ensures.value (λ writes. writes)

pub returns-in_err-end-clause-does : goal.returns-in_err-end-clause-does
returns-in_err-end-clause-does g c =
    abort_failed_does g.D.Disk c.args.parts.now _ c.args.at c.end.result _ _ c.from_residual-in_err-end.ensures.1 c.in_err-end.was c.end.ensures.does

pub returns-in_err-end-clause-leaves : goal.returns-in_err-end-clause-leaves
returns-in_err-end-clause-leaves g c =
    abort_failed_leaves g.D.Disk c.args.parts.now _ c.args.at c.end.result _ _ c.from_residual-in_err-end.ensures.1 c.in_err-end.was c.end.ensures.leaves

pub returns-clause-does : goal.returns-clause-does
returns-clause-does g c =
    abort_does g.D.Disk c.args.parts.now _ c.args.at c.end.result c.in_ok-end.was c.end.ensures.does
    (λ s h. let f = writer_shown c.args.parts.now s c.args.at.lane _ h.shows c.requires c.in_ok-writer.ensures.value in (f.0, f.1))

pub returns-clause-leaves : goal.returns-clause-leaves
returns-clause-leaves g c = abort_leaves g.D.Disk c.args.parts.now _ c.args.at c.end.result c.in_ok-end.was c.end.ensures.leaves
