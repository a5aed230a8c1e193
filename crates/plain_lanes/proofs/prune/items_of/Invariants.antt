use Rattle.std.proofs.Common.{◌≡◌, ◌≤◌, map, take}
use Rattle.std.specs.Prelude.{All}
use Rattle.store_types.specs.Times.{last_moment}
use Rattle.store_model.specs.PruneJob.{item_of}
use Rattle.plain_lanes.proofs.prune.items_of.Given as goal

abbrev pub invariant-loop-snapshot : goal.invariant-loop-snapshot
invariant-loop-snapshot l = (l.items.items ≡ map item_of (take l.snapshot-index l.snapshots)) × All (λ item. item.time ≤ last_moment) l.items.items
