-- What is found in the catalogue.
use Rattle.std.specs.Prelude.{ℕ, ◌≤◌, Bool, true, List, map, filter, length, Option, None, Some, is_none, is_some, option_map}
use Rattle.std.specs.Borrow.{Bor}
use Rattle.std.specs.List.{find, last_or}
use Rattle.std.specs.Option.{ForSome}
use Rattle.std.specs.Str.{bytes_eq}
use Rattle.store_types.specs.declared.names.GroupKey.{GroupKey}
use Rattle.store_types.specs.declared.names.SnapshotKey.{SnapshotKey}
use Rattle.store_types.specs.Names.{group_of_key, key_lt, same_group, same_key}
use Rattle.core_state.specs.declared.kept.Listed.{Listed}
use Rattle.core_state.specs.declared.kept.Kept.{Kept}
use Rattle.core_state.specs.declared.kept.StoredFile.{StoredFile}

-- the key that is lent, where one is
abbrev pub lent_key : Option (Bor SnapshotKey) → Option SnapshotKey
lent_key key = option_map (λ k. k.now) key

-- the finished snapshot with this key
abbrev pub kept_named : SnapshotKey → List Listed → Option Kept
kept_named key catalogue = option_map (λ x. x.kept) (find (λ x. same_key (x.kept).key key) catalogue)

-- where the file of that name stands
abbrev pub path_named : List ℕ → List StoredFile → Option (List ℕ)
path_named name files = option_map (λ f. f.path) (find (λ f. bytes_eq f.name name) files)

-- where the file of that name stands in what is kept of its snapshot
abbrev pub path_of_kept : List ℕ → Option Kept → Option (List ℕ)
path_of_kept name None = None
path_of_kept name (Some k) = path_named name k.files

-- where the snapshot's file stands
abbrev pub path_in : SnapshotKey → List ℕ → List Listed → Option (List ℕ)
path_in key name catalogue = path_of_kept name (kept_named key catalogue)

-- the name of the file that makes it damaged leaves room for a temporary one's ending
abbrev pub IsShortNamed : Kept → Type 0
IsShortNamed k = ForSome k.unreadable (λ name. length name ≤ 251)

-- ---- damage

abbrev pub unreadable_of : Option Listed → Option (List ℕ)
unreadable_of None = None
unreadable_of (Some x) = (x.kept).unreadable

-- the file that makes the first damaged snapshot so
abbrev pub first_unreadable : List Listed → Option (List ℕ)
first_unreadable catalogue = unreadable_of (find (λ x. is_some (x.kept).unreadable) catalogue)

-- ---- behind a key

-- behind this one, if any
abbrev pub is_behind : Option SnapshotKey → Kept → Bool
is_behind None k = true
is_behind (Some key) k = key_lt key k.key

-- ---- a group

abbrev pub is_in : GroupKey → Kept → Bool
is_in group k = same_group (group_of_key k.key) group

-- the group's snapshots, the oldest first
abbrev pub kept_in : GroupKey → List Kept → List Kept
kept_in group kept = filter (is_in group) kept

abbrev pub latest_kept : GroupKey → List Kept → Option SnapshotKey
latest_kept group kept = last_or None (map (λ x. x.key) (kept_in group kept))

-- no file is known to make it damaged
abbrev pub is_whole : Kept → Bool
is_whole x = is_none x.unreadable

-- the group's latest whole snapshot
abbrev pub latest_whole : GroupKey → List Kept → Option SnapshotKey
latest_whole group kept = latest_kept group (filter is_whole kept)

-- how many snapshots of the catalogue the group has, damaged ones too
abbrev pub count_of : GroupKey → List Listed → ℕ
count_of group catalogue = length (filter (λ x. is_in group x.kept) catalogue)

-- the group's latest snapshot in the catalogue
abbrev pub latest_of : GroupKey → List Listed → Option SnapshotKey
latest_of group catalogue = latest_kept group (map (λ x. x.kept) catalogue)

-- its latest whole one
abbrev pub whole_of : GroupKey → List Listed → Option SnapshotKey
whole_of group catalogue = latest_whole group (map (λ x. x.kept) catalogue)
