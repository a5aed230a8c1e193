use Rattle.replay.proofs.ByInput.{by_clean_endings}
use Rattle.replay.proofs.laws.clean_runs_are_replayed.Goals as goal

pub returns : goal.returns
returns c = by_clean_endings
