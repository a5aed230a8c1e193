use Rattle.store_upkeep.proofs.Stocking.{needed_there}
use Rattle.store_upkeep.proofs.laws.needed_chunks_are_there.Goals as goal

pub returns : goal.returns
returns c = needed_there
