use Rattle.std.proofs.Common.{IfErr, sym, subst}
use Rattle.snapshot_files.specs.Reads.{StopHasText}
use Rattle.core_writer.proofs.CloseLemmas.{stop_text}
use Rattle.core_writer.proofs.archives.close.Goals as goal

pub returns-clause-text : goal.returns-clause-text
returns-clause-text c =
    subst (λ r. IfErr r StopHasText) (sym c.answered.ensures)
    (stop_text c.args.number c.args.count c.args.size c.args.csum.now (λ text. text.items) c.args.session.now c.close_index.new.self c.close_index.result c.close_index.ensures.does c.close_index.ensures.text)
