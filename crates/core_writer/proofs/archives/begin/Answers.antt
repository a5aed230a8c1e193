use Rattle.std.proofs.Common.{IfErr, sym, subst, arith}
use Rattle.snapshot_files.specs.Reads.{StopHasText}
use Rattle.core_writer.specs.declared.archives.NewIndex.TheVariants.{Dynamic, Fixed}
use Rattle.core_writer.proofs.BeginLemmas.{stop_text}
use Rattle.core_writer.proofs.archives.begin.Goals as goal

pub returns-in-Dynamic-clause-text : goal.returns-in-Dynamic-clause-text
returns-in-Dynamic-clause-text c =
    subst (λ r. IfErr r StopHasText) (sym c.answered.ensures)
    (stop_text Dynamic c.args.session.now c.new_dynamic.new.self c.args.name c.args.moment c.new_dynamic.result tt c.new_dynamic.ensures.does)

pub returns-in-Fixed-clause-text : goal.returns-in-Fixed-clause-text
returns-in-Fixed-clause-text c =
    subst (λ r. IfErr r StopHasText) (sym c.answered-in-Fixed.ensures)
    (stop_text (Fixed c.in-Fixed.size c.in-Fixed.chunk_size) c.args.session.now c.new_fixed.new.self c.args.name c.args.moment c.new_fixed.result (omega arith) c.new_fixed.ensures.does)
