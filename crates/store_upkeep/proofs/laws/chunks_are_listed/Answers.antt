use Rattle.store_upkeep.proofs.Listing.{lists_chunks}
use Rattle.store_upkeep.proofs.laws.chunks_are_listed.Goals as goal

pub returns : goal.returns
returns c = lists_chunks
