use Rattle.std.proofs.Common.{sym, ap, subst, ◌∙◌}
use Rattle.std.specs.Prelude.{IfSome, IsSome}
use Rattle.store_model.specs.Job.{Job, next}
use Rattle.store_model.specs.Jobs.{take_more}
use Rattle.store_model.specs.JobReplies.{IsReplyTo}
use Rattle.job_steps.specs.Replies.{EndsInText}
use Rattle.job_steps.specs.States.{job_in}
use Rattle.job_steps.specs.Visits.{IsPartRead}
use Rattle.job_steps.proofs.job.Job.take.Goals as goal

pub take-requires-clause-asked : goal.take-requires-clause-asked
take-requires-clause-asked g c κs lives =
    let before = ap job_in c.replace-state.ensures.value ∙ c.self.view_is in
    subst (λ (j : Job). IsSome (next j)) (sym before) c.requires.asked

pub take-requires-clause-form : goal.take-requires-clause-form
take-requires-clause-form g c κs lives =
    let before = ap job_in c.replace-state.ensures.value ∙ c.self.view_is in
    subst (λ (j : Job). IfSome (next j) (λ step. IsReplyTo step c.args.reply)) (sym before) c.requires.form

pub take-requires-clause-ends : goal.take-requires-clause-ends
take-requires-clause-ends g c κs lives = subst EndsInText (sym (ap job_in c.replace-state.ensures.value)) c.self.invariant

pub returns-in-Ok-clause-ok : goal.returns-in-Ok-clause-ok
returns-in-Ok-clause-ok g c =
    let before = ap job_in c.replace-state.ensures.value ∙ c.self.view_is in
    ap job_in c.replace.ensures.after ∙ c.in-Ok.ensures.ok ∙ ap (λ (j : Job). take_more j c.args.reply) before

pub returns-in-Err-clause-err : goal.returns-in-Err-clause-err
returns-in-Err-clause-err g c =
    let before = ap job_in c.replace-state.ensures.value ∙ c.self.view_is in
    (ap job_in c.replace-in-Err.ensures.after ∙ c.in-Err.ensures.err.0 ∙ before, subst (λ (j : Job). IsPartRead (next j) c.args.reply) before c.in-Err.ensures.err.1)
