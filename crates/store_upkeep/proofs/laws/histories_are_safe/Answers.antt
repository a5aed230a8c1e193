use Rattle.store_upkeep.proofs.Going.{histories_safe}
use Rattle.store_upkeep.proofs.laws.histories_are_safe.Goals as goal

pub returns : goal.returns
returns c = histories_safe
