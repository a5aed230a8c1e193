use Rattle.job_laws.proofs.Leaving.{others_leave_readers}
use Rattle.job_laws.proofs.others.others_leave_readers.Goals as goal

pub returns : goal.returns
returns c = others_leave_readers
