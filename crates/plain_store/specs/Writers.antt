-- The tests of a writer's commands, one after another.
use Rattle.std.specs.Prelude.{List, length, nat_lt, Option, Result, Ok}
use Rattle.store_types.specs.declared.names.SnapshotKey.{SnapshotKey}
use Rattle.store_types.specs.declared.refusal.Refusal.{Refusal}
use Rattle.store_types.specs.declared.refusal.Refusal.TheVariants.{GroupBusy, TooMany}
use Rattle.store_types.specs.Chain.Refusing.{◌>>=◌, unless, if_none}
use Rattle.store_types.specs.Names.{group_of_key}
use Rattle.store_files.specs.Archive.{Snapshot}
use Rattle.store_model.specs.Store.{Store, group_holder, in_group, latest_in}
use Rattle.store_model.specs.WriterSteps.{want_newer}

-- the snapshot's group has room for one more
abbrev pub want_room_in : SnapshotKey → List Snapshot → Result (Unit {0}) Refusal
want_room_in key snapshots = unless (TooMany 4096) (nat_lt (length (in_group (group_of_key key) snapshots)) 4096)

-- the base of a writer of the snapshot, where it may begin
abbrev pub base_of : Store → SnapshotKey → Result (Option SnapshotKey) Refusal
base_of s key = do
  _ ← if_none GroupBusy (group_holder s (group_of_key key))
  _ ← want_newer key.time (latest_in (group_of_key key) s.snapshots)
  _ ← want_room_in key s.snapshots
  Ok (latest_in (group_of_key key) s.snapshots)
