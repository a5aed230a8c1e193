use Rattle.std.proofs.Common.{◌≡◌, ◌++◌, length}
use Rattle.store_model.specs.SyncJob.{appends}
use Rattle.plain_lanes.proofs.uploads.push_appends.Given as goal

abbrev pub invariant-loop-left : goal.invariant-loop-left
invariant-loop-left l = l.commands.items ++ appends (length l.left) l.left ≡ l.fn.commands.items ++ appends (length l.entries) l.entries

abbrev pub decreases-loop-left : goal.decreases-loop-left
decreases-loop-left l = length l.left
