use Rattle.store_upkeep.proofs.Listing.{counts_one}
use Rattle.store_upkeep.proofs.laws.counts_are_one.Goals as goal

pub returns : goal.returns
returns c = counts_one
