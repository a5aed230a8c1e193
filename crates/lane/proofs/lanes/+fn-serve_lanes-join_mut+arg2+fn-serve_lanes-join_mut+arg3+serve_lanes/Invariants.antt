use Rattle.std.proofs.Common.{length}
use Rattle.lane.proofs.lanes.+fn-serve_lanes-join_mut+arg2+fn-serve_lanes-join_mut+arg3+serve_lanes.Given as goal

abbrev pub decreases-join_mut+arg2 : goal.decreases-join_mut+arg2
decreases-join_mut+arg2 g l = length l.front.now

abbrev pub decreases-join_mut+arg3 : goal.decreases-join_mut+arg3
decreases-join_mut+arg3 g l = length l.back.now

abbrev pub decreases-serve_lanes : goal.decreases-serve_lanes
decreases-serve_lanes g l = length l.ports.now
