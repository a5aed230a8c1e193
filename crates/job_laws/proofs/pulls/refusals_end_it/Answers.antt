use Rattle.job_laws.proofs.Refused.{refusals_end}
use Rattle.job_laws.proofs.pulls.refusals_end_it.Goals as goal

pub returns : goal.returns
returns c = refusals_end
