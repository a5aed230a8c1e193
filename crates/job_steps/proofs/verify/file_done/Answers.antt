use Rattle.std.proofs.Common.{◌+◌, ap, ◌∙◌}
use Rattle.store_model.specs.Job.{Visit}
use Rattle.store_model.specs.VerifyJob.{file_done, next_file}
use Rattle.job_steps.specs.Visits.{shown_visit}
use Rattle.job_steps.proofs.VerifyLemmas.{later_kept}
use Rattle.job_steps.proofs.verify.file_done.Goals as goal

pub returns-clause-job : goal.returns-clause-job
unfolding file_done
returns-clause-job c =
    let v = shown_visit c.args.visit in
    let counted : Visit = record v { files = v.files + 1 } in
    c.next_file.ensures.job
    ∙ ap (next_file (shown_visit c.count_file.new.self)) (ap (λ (x : Visit). x.later) c.count_file.ensures.counts ∙ later_kept counted c.args.row c.args.fault)
    ∙ ap (λ (x : Visit). next_file x v.later) c.count_file.ensures.counts
