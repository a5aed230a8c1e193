use Rattle.std.proofs.Common.{◌∙◌, sym, subst}
use Rattle.store_model.specs.WriterCalls as calls
use Rattle.backup_session.specs.Session.{held}
use Rattle.core_writer.specs.Does.{DoesPlainly}
use Rattle.core_writer.proofs.Answered.{answered_plainly}
use Rattle.core_writer.proofs.uploads.take.Goals as goal

pub returns-clause-plain : goal.returns-clause-plain
returns-clause-plain c = λ contents is.
    let s = c.args.session.now in
    subst (λ r. DoesPlainly (λ u. u) (held s.writer) s c.blob.new.self r (λ w. calls.put_data w c.args.name contents)) (sym c.answered.ensures)
    (answered_plainly (λ u. u) (held s.writer) s c.blob.new.self c.blob.result (λ w. calls.put_data w c.args.name contents) (c.blob.ensures.plain contents (c.as_slice-bytes.ensures ∙ is)))
