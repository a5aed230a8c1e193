use Rattle.std.proofs.Common.{Some, ap, ◌∙◌}
use Rattle.std.specs.Option.{option_or}
use Rattle.wire_commands.specs.declared.rows.FileFault.TheVariants as faults
use Rattle.store_model.specs.VerifyJob.{file_done}
use Rattle.job_steps.specs.Visits.{shown_visit}
use Rattle.job_steps.proofs.stages.Checking.unreadable.Goals as goal

pub returns-clause-job : goal.returns-clause-job
returns-clause-job g c =
    let s = c.args.self in
    c.file_done.ensures.job
    ∙ ap (file_done (shown_visit s.visit) s.row)
    (c.first_of-fault.ensures.first ∙ ap (λ f. option_or f (Some faults.Unreadable)) (c.first_of-before.ensures.first ∙ c.test.ensures.fault s.fault))
