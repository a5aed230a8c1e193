use Rattle.std.proofs.Common.{length}
use Rattle.plain_snapshots.proofs.loading.+files_in.Given as goal

abbrev pub decreases-files_in : goal.decreases-files_in
decreases-files_in l = length l.names.now
