use Rattle.snapshot_files.proofs.Leavers.{stands_cleaned}
use Rattle.snapshot_files.proofs.laws.opening_keeps.Goals as goal

pub returns : goal.returns
returns c = λ read left snapshots may stands. stands_cleaned read left snapshots stands may
