use Rattle.store_upkeep.proofs.Whole.{sweeps_leave}
use Rattle.store_upkeep.proofs.laws.whole_sweeps_leave_right.Goals as goal

pub returns : goal.returns
returns c = sweeps_leave
