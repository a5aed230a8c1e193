use Rattle.store_upkeep.proofs.Taking.{there_or_sent}
use Rattle.store_upkeep.proofs.laws.there_or_sent.Goals as goal

pub returns : goal.returns
returns c = there_or_sent
