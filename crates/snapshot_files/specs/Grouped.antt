-- The snapshots of a group that a datastore's files have.
use Rattle.std.specs.Prelude.{◌≡◌, ◌↔◌, ℕ, Bool, true, ◌&&◌, List, [], ◌∷◌, ◌++◌, map, false, Option, Some, None, IsSome, IsTrue, IfOk, OnOk, Result, String, Vec, codes, string_bytes}
use Rattle.std.specs.declared.alloc.Global.{Global}
use Rattle.std.specs.List.{All, Contains, cons_option, filter_map}
use Rattle.std.specs.List.Sorted.{IsPermutation, IsSortedBy}
use Rattle.std.specs.FinMap.{get}
use Rattle.disk_trait.specs.declared.disk.Disk.{Ghosts}
use Rattle.disk_trait.specs.Files.{Files}
use Rattle.store_types.specs.declared.names.GroupKey.{GroupKey}
use Rattle.store_types.specs.declared.names.SnapshotKey.{SnapshotKey}
use Rattle.store_types.specs.Names.{IsKey, group_of_key, group_text, key_lt, same_group}
use Rattle.store_files.specs.Folder.{manifest_path}
use Rattle.store_model.specs.Load.{key_of_manifest}

-- the group's folder
abbrev pub group_folder : GroupKey → List ℕ
group_folder group = group_text group ++ codes "/"

abbrev pub is_in : GroupKey → SnapshotKey → Bool
is_in group key = same_group (group_of_key key) group

-- each is above the one before it
abbrev pub keys_ascend : List SnapshotKey → Bool
keys_ascend [] = true
keys_ascend (x ∷ []) = true
keys_ascend (x ∷ y ∷ xs) = key_lt x y && keys_ascend (y ∷ xs)

-- These are the group's snapshots whose manifest is there, whatever it holds, each once and in their order.
pub record GroupKeys (files : Files) (group : GroupKey) (keys : List SnapshotKey) : Type 0 where
  pub rising : IsTrue (keys_ascend keys)
  pub each : All IsKey keys
  pub exactly : (key : SnapshotKey) → IsKey key
      → Contains keys key ↔ (IsTrue (is_in group key) × IsSome (get files (manifest_path key)))

abbrev pub ListsGroup : {D E : Type 0} → Ghosts D → D → GroupKey → Result (Vec SnapshotKey Global) E → Type 0
ListsGroup d disk group result = d.honest disk → IfOk result (λ keys. GroupKeys (d.content disk) group keys.items)

-- it is in the grammar, and of the group
abbrev pub IsOfGroup : GroupKey → SnapshotKey → Type 0
IsOfGroup group key = IsKey key × IsTrue (is_in group key)

-- ---- by names

-- the key that a name of a manifest names, where it is of the group
abbrev pub of_group : GroupKey → Option SnapshotKey → Option SnapshotKey
of_group group None = None
of_group group (Some key) = elim (is_in group key) [ true ↦ Some key | false ↦ None ]

abbrev pub key_among : GroupKey → List ℕ → Option SnapshotKey
key_among group name = of_group group (key_of_manifest name)

-- the key of this name is behind those before
abbrev pub AddsKey : {A E : Type 0} → List SnapshotKey → List SnapshotKey → GroupKey → List ℕ → Result A E → Type 0
AddsKey old new group name result = OnOk result (new ≡ old ++ cons_option (key_among group name) [])

-- and all are of the group, where those before are
abbrev pub StaysOfGroup : {A E : Type 0} → List SnapshotKey → List SnapshotKey → GroupKey → Result A E → Type 0
StaysOfGroup old new group result = All (IsOfGroup group) old → OnOk result (All (IsOfGroup group) new)

abbrev pub keys_among : GroupKey → List (String Global) → List SnapshotKey
keys_among group names = filter_map (key_among group) (map string_bytes names)

-- the same keys, and none stands behind a greater one
pub record AreOrdered (keys ordered : List SnapshotKey) : Type 0 where
  pub same : IsPermutation keys ordered
  pub rising : IsSortedBy key_lt ordered
