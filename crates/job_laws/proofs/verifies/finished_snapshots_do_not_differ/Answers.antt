use Rattle.job_laws.proofs.Finished.{finished_snapshots_do_not_differ}
use Rattle.job_laws.proofs.verifies.finished_snapshots_do_not_differ.Goals as goal

pub returns : goal.returns
returns c = finished_snapshots_do_not_differ
