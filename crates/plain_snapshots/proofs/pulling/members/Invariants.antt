use Rattle.std.proofs.Common.{◌≡◌, take}
use Rattle.store_model.specs.Store.{in_group}
use Rattle.plain_snapshots.proofs.pulling.members.Given as goal

abbrev pub invariant-loop-snapshot : goal.invariant-loop-snapshot
invariant-loop-snapshot l = l.found.items ≡ in_group l.group (take l.snapshot-index l.snapshots)
