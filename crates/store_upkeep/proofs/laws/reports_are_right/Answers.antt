use Rattle.store_upkeep.proofs.Started.{reports_right}
use Rattle.store_upkeep.proofs.laws.reports_are_right.Goals as goal

pub returns : goal.returns
returns c = reports_right
