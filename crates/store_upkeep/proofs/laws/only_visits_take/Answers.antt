use Rattle.store_upkeep.proofs.Taking.{only_visits}
use Rattle.store_upkeep.proofs.laws.only_visits_take.Goals as goal

pub returns : goal.returns
returns c = only_visits
