use Rattle.pbs_server.proofs.Acknowledged.{found_stay}
use Rattle.pbs_server.proofs.laws.found_snapshots_stay.Goals as goal

pub returns : goal.returns
returns c = found_stay
