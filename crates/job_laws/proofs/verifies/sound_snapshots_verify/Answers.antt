use Rattle.job_laws.proofs.Sound.{sound_snapshots_verify}
use Rattle.job_laws.proofs.verifies.sound_snapshots_verify.Goals as goal

pub returns : goal.returns
returns c = sound_snapshots_verify
