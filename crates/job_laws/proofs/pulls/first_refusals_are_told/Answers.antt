use Rattle.job_laws.proofs.FirstRefusals.{first_refusal_told}
use Rattle.job_laws.proofs.pulls.first_refusals_are_told.Goals as goal

pub returns : goal.returns
returns c = first_refusal_told
