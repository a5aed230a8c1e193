use Rattle.std.proofs.Common.{sym, subst}
use Rattle.std.specs.Prelude.{IsNone}
use Rattle.store_model.specs.Job.{Job, next}
use Rattle.job_steps.proofs.StateLemmas.{over_only}
use Rattle.job_steps.proofs.job.Job.report.Goals as goal

pub unreachable-requires : goal.unreachable-requires
unreachable-requires c =
    let over = over_only c.self.inside.state (subst (λ (j : Job). IsNone (next j)) (sym c.self.view_is) c.requires) in
    c.in_default.not-Over over.0 over.1
