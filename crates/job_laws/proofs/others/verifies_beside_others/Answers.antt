use Rattle.job_laws.proofs.Besides.{verifies_beside_others}
use Rattle.job_laws.proofs.others.verifies_beside_others.Goals as goal

pub returns : goal.returns
returns c = verifies_beside_others
