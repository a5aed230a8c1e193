use Rattle.seat_history.proofs.Joining.{one_lane}
use Rattle.seat_history.proofs.laws.one_lane_owns.Goals as goal

pub returns : goal.returns
returns c = one_lane
