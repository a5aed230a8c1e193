use Rattle.lane.proofs.Stepping.{act_wants}
use Rattle.lane.proofs.jobs.JobTask.next_act.Goals as goal

pub returns-in-Err : goal.returns-in-Err
returns-in-Err g c = act_wants c.args.self.now c.requires (c.in-Err.ensures.memory).0 (c.in-Err.ensures.memory).1
