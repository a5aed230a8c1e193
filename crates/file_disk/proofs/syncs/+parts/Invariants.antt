use Rattle.std.proofs.Common.{◌+◌, ◌*◌, length}
use Rattle.file_disk.proofs.syncs.+parts.Given as goal

abbrev pub decreases-join+arg3 : goal.decreases-join+arg3
decreases-join+arg3 g l = 2 * length l.rest.now + 2

abbrev pub decreases-sync_parts : goal.decreases-sync_parts
decreases-sync_parts g l = 2 * length l.folders.now + 1
