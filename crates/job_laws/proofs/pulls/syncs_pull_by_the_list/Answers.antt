use Rattle.job_laws.proofs.ByTheList.{pulls_by_the_list}
use Rattle.job_laws.proofs.pulls.syncs_pull_by_the_list.Goals as goal

pub returns : goal.returns
returns c = pulls_by_the_list
