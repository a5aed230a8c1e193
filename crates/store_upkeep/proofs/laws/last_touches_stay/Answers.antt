use Rattle.store_upkeep.proofs.Lasting.{last_touches}
use Rattle.store_upkeep.proofs.laws.last_touches_stay.Goals as goal

pub returns : goal.returns
returns c = last_touches
