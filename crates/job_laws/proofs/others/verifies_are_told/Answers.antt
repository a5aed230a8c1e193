use Rattle.job_laws.proofs.Told.{verifies_are_told}
use Rattle.job_laws.proofs.others.verifies_are_told.Goals as goal

pub returns : goal.returns
returns c = verifies_are_told
