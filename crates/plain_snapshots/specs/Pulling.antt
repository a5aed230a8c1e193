-- Which snapshots of a group a SYNC pulls.
use Rattle.std.specs.Prelude.{List, filter, map, take, Option, None, option_map}
use Rattle.std.specs.Borrow.{Bor}
use Rattle.std.specs.List.{last_or}
use Rattle.store_types.specs.declared.names.SnapshotKey.{SnapshotKey}
use Rattle.store_files.specs.Archive.{Snapshot}
use Rattle.store_model.specs.Stands.{group_limit}
use Rattle.store_model.specs.SyncJob.{is_later}

-- the newest of those that GROUP tells
abbrev pub newest_of : List Snapshot → Option SnapshotKey
newest_of members = last_or None (take group_limit (map (λ x. x.key) members))

abbrev pub shown_newest : Option (Bor SnapshotKey) → Option SnapshotKey
shown_newest newest = option_map (λ key. key.now) newest

-- those that are later
abbrev pub later_of : Option (Bor SnapshotKey) → List Snapshot → List Snapshot
later_of newest members = filter (is_later (shown_newest newest)) members
