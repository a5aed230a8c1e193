use Rattle.std.proofs.Common.{◌≡◌, vec_len}
use Rattle.store_model.specs.Load.{in_order}
use Rattle.plain_snapshots.proofs.Sorting.{placed}
use Rattle.plain_snapshots.proofs.loading.in_order.Given as goal

abbrev pub decreases-loop-snapshot : goal.decreases-loop-snapshot
decreases-loop-snapshot l = vec_len l.snapshots

abbrev pub invariant-loop-snapshot : goal.invariant-loop-snapshot
invariant-loop-snapshot l = placed l.snapshots.items l.sorted.items ≡ in_order l.fn.snapshots.items
