use Rattle.replay_laws.proofs.Equal.{runs_replay_equal}
use Rattle.replay_laws.proofs.laws.clean_runs_replay_equal.Goals as goal

pub returns : goal.returns
returns c = runs_replay_equal
