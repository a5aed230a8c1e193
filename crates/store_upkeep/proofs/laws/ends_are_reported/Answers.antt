use Rattle.store_upkeep.proofs.Reporting.{ends_reported}
use Rattle.store_upkeep.proofs.laws.ends_are_reported.Goals as goal

pub returns : goal.returns
returns c = ends_reported
