use Rattle.std.proofs.Common.{◌≡◌, ◌+◌, take, drop, sym, ap, subst, ◌∙◌}
use Rattle.std.specs.Prelude.{IfErr, IfOk}
use Rattle.store_model.specs.Job.{Job, next}
use Rattle.store_model.specs.Jobs as jobs
use Rattle.store_model.specs.Jobs.{take_more}
use Rattle.job_steps.specs.declared.job.State.{State}
use Rattle.job_steps.specs.Replies.{EndsInText}
use Rattle.job_steps.specs.Rows.{row_at}
use Rattle.job_steps.specs.States.{job_in}
use Rattle.job_steps.specs.Visits.{IsPartRead}
use Rattle.job_steps.proofs.StateLemmas.{kept_reading}
use Rattle.job_steps.proofs.Texts.{forgot_in_text, grouped_in_text}
use Rattle.job_steps.proofs.VerifyLemmas.{checked_is, read_is}
use Rattle.job_steps.proofs.job.State.take.Goals as goal

pub returns-in-Grouping-clause-ends : goal.returns-in-Grouping-clause-ends
returns-in-Grouping-clause-ends g c =
    let grouping = c.in-Grouping.grouping in
    let form = (rw c.in-Grouping.is at c.requires.form) in
    subst EndsInText (sym c.grouped.ensures) (grouped_in_text grouping.keep grouping.dry c.args.reply form.1 c.requires.text)

pub returns-in-Forgetting-clause-ends : goal.returns-in-Forgetting-clause-ends
unfolding jobs.take
returns-in-Forgetting-clause-ends g c =
    let f = c.in-Forgetting.forgetting in
    let rows = f.rows.items in
    let ends = (rw c.in-Forgetting.is at c.requires.ends) in
    subst EndsInText (sym c.forgot.ensures)
    (forgot_in_text (take f.place rows) (row_at rows f.place).snapshot (drop (f.place + 1) rows) c.args.reply ends c.requires.text)

pub returns-in-Reading-clause-ok : goal.returns-in-Reading-clause-ok
returns-in-Reading-clause-ok g c =
    let so = read_is c.in-Reading.reading c.args.reply ∙ ap (λ (s : State). take_more (job_in s) c.args.reply) (sym c.in-Reading.is) in
    subst (λ (j : Job). IfOk c.take.result (λ state. job_in state ≡ j)) so c.take.ensures.ok

pub returns-in-Reading-clause-err : goal.returns-in-Reading-clause-err
returns-in-Reading-clause-err g c =
    subst (λ (s : State). IfErr c.take.result (λ state. (job_in state ≡ job_in s) × IsPartRead (next (job_in s)) c.args.reply)) (sym c.in-Reading.is)
    (kept_reading c.in-Reading.reading c.args.reply c.take.result c.take.ensures.err)

pub returns-in-Checking-clause-ok : goal.returns-in-Checking-clause-ok
returns-in-Checking-clause-ok g c =
    c.checked.ensures.job ∙ checked_is c.in-Checking.checking c.args.reply ∙ ap (λ (s : State). take_more (job_in s) c.args.reply) (sym c.in-Checking.is)
