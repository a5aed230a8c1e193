use Rattle.lane.proofs.Drops.{pull_wants}
use Rattle.lane.proofs.pulling.PullTask.next_act.Goals as goal

pub returns-in-Err : goal.returns-in-Err
returns-in-Err g c = pull_wants c.args.self.now c.in-Err.ensures.memory
