use Rattle.seat_history.proofs.Joining.{joined_keeps}
use Rattle.seat_history.proofs.laws.joins_keep_lanes.Goals as goal

pub returns : goal.returns
returns c = joined_keeps
