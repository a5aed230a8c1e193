use Rattle.snapshot_files.proofs.Loading.{loaded}
use Rattle.snapshot_files.proofs.laws.stands_is_loaded.Goals as goal

pub returns : goal.returns
returns c = λ m snapshots stands. loaded m snapshots stands
