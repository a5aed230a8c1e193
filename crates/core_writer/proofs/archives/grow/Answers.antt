use Rattle.std.proofs.Common.{IfErr, sym, subst}
use Rattle.snapshot_files.specs.Reads.{StopHasText}
use Rattle.core_writer.proofs.AppendRefusals.{stop_text}
use Rattle.core_writer.proofs.archives.grow.Goals as goal

pub returns-clause-text : goal.returns-clause-text
returns-clause-text c =
    subst (λ r. IfErr r StopHasText) (sym c.answered.ensures)
    (stop_text c.args.session.now c.append.new.self c.args.number _ c.append.result c.append.ensures.does c.append.ensures.text)
