use Rattle.std.proofs.Common.{◌≡◌, take}
use Rattle.std.specs.List.{filter_map, list_any}
use Rattle.store_model.specs.Load.{entry_snapshot}
use Rattle.plain_snapshots.specs.Loading.{is_damaged}
use Rattle.plain_snapshots.proofs.loading.whole_in.Given as goal

abbrev pub invariant-loop-stored : goal.invariant-loop-stored
invariant-loop-stored l =
    (l.snapshots.items ≡ filter_map (entry_snapshot l.folder) (take l.stored-index l.stored-items))
    × (l.damaged ≡ list_any (is_damaged l.folder) (take l.stored-index l.stored-items))
