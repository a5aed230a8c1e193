use Rattle.replay.proofs.Beginning.{end_replies}
use Rattle.replay.proofs.comparison.Comparison.end.Goals as goal

pub returns-in-Ok : goal.returns-in-Ok
returns-in-Ok c = end_replies c.args.self.now _ c.in-Ok.is
