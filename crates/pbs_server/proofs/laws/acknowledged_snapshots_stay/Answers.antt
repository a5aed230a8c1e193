use Rattle.pbs_server.proofs.Acknowledged.{acknowledged_stay}
use Rattle.pbs_server.proofs.laws.acknowledged_snapshots_stay.Goals as goal

pub returns : goal.returns
returns c = acknowledged_stay
