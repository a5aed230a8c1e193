use Rattle.store_upkeep.proofs.Stocking.{taken_unneeded}
use Rattle.store_upkeep.proofs.laws.taken_chunks_are_not_needed.Goals as goal

pub returns : goal.returns
returns c = taken_unneeded
