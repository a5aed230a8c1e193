use Rattle.store_upkeep.proofs.Unvisited.{visits_last}
use Rattle.store_upkeep.proofs.laws.visits_come_last.Goals as goal

pub returns : goal.returns
returns c = visits_last
