use Rattle.std.proofs.Common.{◌≡◌, sym, subst, ◌∙◌}
use Rattle.std.specs.Prelude.{IfOk}
use Rattle.store_model.specs.Job.{Job}
use Rattle.plain_lanes.specs.Jobs.{shown_job}
use Rattle.plain_lanes.specs.Visits.{shown_visit}
use Rattle.plain_lanes.proofs.VerifyLemmas.{fault_read, ended_read}
use Rattle.plain_lanes.proofs.verify.unread.Goals as goal

pub returns-in_default-clause-job : goal.returns-in_default-clause-job
returns-in_default-clause-job c =
    c.ended.ensures.job ∙ ended_read (shown_visit c.args.visit) c.args.row c.args.reply (sym c.fault_told.ensures.fault ∙ c.in_default.is)

pub returns-clause-job : goal.returns-clause-job
returns-clause-job c =
    let told = fault_read (shown_visit c.args.visit) c.args.row c.args.reply c.in-Some.fault (sym c.fault_told.ensures.fault ∙ c.in-Some.is) in
    subst (λ (x : Job). IfOk c.file_done.result (λ job. shown_job job ≡ x)) told c.file_done.ensures.job
