use Rattle.job_laws.proofs.BadFiles.{bad_files_end}
use Rattle.job_laws.proofs.pulls.bad_files_end_it.Goals as goal

pub returns : goal.returns
returns c = bad_files_end
