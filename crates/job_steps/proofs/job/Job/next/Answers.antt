use Rattle.std.proofs.Common.{◌≡◌, false, Some, sym, ap, subst, ◌∙◌}
use Rattle.std.specs.Prelude.{IsSome}
use Rattle.store_model.specs.Job.{Job, next}
use Rattle.job_steps.specs.Checks.{stops}
use Rattle.job_steps.specs.States.{job_in}
use Rattle.job_steps.proofs.StateLemmas.{chunk_asked, on_err}
use Rattle.job_steps.proofs.VerifyLemmas.{asks_chunk, goes_on_checking}
use Rattle.job_steps.proofs.job.Job.next.Goals as goal

pub returns-in_err-step-in-Checking-clause-memory : goal.returns-in_err-step-in-Checking-clause-memory
returns-in_err-step-in-Checking-clause-memory c =
    let checking = c.in-Checking.checking in
    let so = ap job_in (sym c.in-Checking.is) ∙ c.self.view_is in
    on_err c.from_residual-in_err-step-in-Checking.result
    (subst (λ (j : Job). IsSome (next j) × (stops j ≡ false)) so (chunk_asked checking, goes_on_checking checking))

pub returns-in_ok-step-in-Checking-clause-step : goal.returns-in_ok-step-in-Checking-clause-step
returns-in_ok-step-in-Checking-clause-step c =
    let checking = c.in-Checking.checking in
    let so = ap job_in (sym c.in-Checking.is) ∙ c.self.view_is in
    ap Some c.in_ok-step-in-Checking.ensures ∙ sym (asks_chunk checking) ∙ ap next so
