use Rattle.std.proofs.Common.{◌≡◌, sym, ap, subst, ◌∙◌}
use Rattle.std.specs.Prelude.{IfOk}
use Rattle.store_model.specs.Job.{Job}
use Rattle.store_model.specs.VerifyJob.{file_done}
use Rattle.plain_lanes.specs.Jobs.{shown_job}
use Rattle.plain_lanes.specs.Visits.{shown_visit}
use Rattle.plain_lanes.proofs.VerifyLemmas.{unreadable_done, checked_ended}
use Rattle.plain_lanes.proofs.verify.unchecked.Goals as goal

pub returns-then-is_unreadable-clause-job : goal.returns-then-is_unreadable-clause-job
returns-then-is_unreadable-clause-job c =
    let v = shown_visit c.args.visit in
    let told =
    ap (file_done v c.args.row) c.first_fault-fault.ensures.first
    ∙ unreadable_done v c.args.row c.args.fault c.args.reply (sym c.is_unreadable.ensures ∙ c.if-is_unreadable.true) in
    subst (λ (x : Job). IfOk c.file_done.result (λ job. shown_job job ≡ x)) told c.file_done.ensures.job

pub returns-clause-job : goal.returns-clause-job
returns-clause-job c =
    c.ended.ensures.job ∙ checked_ended (shown_visit c.args.visit) c.args.row c.args.fault c.args.reply (sym c.is_unreadable.ensures ∙ c.if-is_unreadable.false)
