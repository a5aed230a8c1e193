use Rattle.std.proofs.Common.{sym, ap, ◌∙◌}
use Rattle.job_steps.specs.Checks.{checked_by}
use Rattle.job_steps.proofs.stages.Checking.checked.Goals as goal

pub returns-in-Data-clause-job : goal.returns-in-Data-clause-job
returns-in-Data-clause-job g c = c.held.ensures.job ∙ ap (checked_by c.args.self) (sym c.in-Data.is)
