use Rattle.std.proofs.Common.{◌≡◌, take}
use Rattle.std.specs.Prelude.{option_map}
use Rattle.store_types.specs.Names.{group_of_key}
use Rattle.store_model.specs.Store.{latest_in}
use Rattle.plain_snapshots.proofs.snapshot.latest_in.Given as goal

abbrev pub invariant-loop-snapshot : goal.invariant-loop-snapshot
invariant-loop-snapshot l =
    option_map (λ latest. latest.now) l.latest ≡ latest_in (group_of_key l.key) (take l.snapshot-index l.snapshots)
