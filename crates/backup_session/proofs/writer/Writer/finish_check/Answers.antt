use Rattle.std.proofs.Common.{ap, subst, ◌∙◌}
use Rattle.std.specs.Prelude.{Result}
use Rattle.store_stops.specs.Outcomes.{IfAnswered}
use Rattle.store_types.specs.declared.refusal.Refusal.{Refusal}
use Rattle.store_files.specs.Manifest.{Manifest}
use Rattle.backup_session.specs.Session.{Writing}
use Rattle.backup_session.specs.Answers.{TellsManifest}
use Rattle.backup_session.specs.Finish.{finish_check}
use Rattle.backup_session.specs.Kept.{HoldsBlob}
use Rattle.backup_session.proofs.FinishChecks.{finish-agrees}
use Rattle.backup_session.proofs.Lifting.{writer_is}
use Rattle.backup_session.proofs.writer.Writer.finish_check.Goals as goal

pub returns-clause-plain : goal.returns-clause-plain
returns-clause-plain c = λ w shows.
    let same = writer_is c.self.inside.pending c.self.inside.state c.args.self.now c.self.view_is c.requires ∙ shows.same in
    let holds = subst (λ (v : Writing). HoldsBlob v.manifest) same c.finish_check.ensures.blob in
    subst (λ (r : Result Manifest Refusal). IfAnswered c.finish_check.result (TellsManifest r))
    (ap finish_check same ∙ finish-agrees w holds) c.finish_check.ensures.does
