-- The snapshots that a datastore's files have, and which of them are damaged.
use Rattle.std.specs.Prelude.{◌≡◌, ◌≢◌, ◌≤◌, ◌↔◌, ℕ, Bool, true, not, ◌&&◌, List, [], ◌∷◌, ◌++◌, map, filter, length, nat_le, eqb, if◌then◌else◌, Option, Some, None, is_some, option_map, codes, IsSome, IfSome, IsTrue, Result, OnOk, IfOk, String, Vec, string_bytes}
use Rattle.std.specs.declared.alloc.Global.{Global}
use Rattle.std.specs.List.{All, AllPairs, Contains, starts_with, cons_option, filter_map}
use Rattle.std.specs.List.Sorted.{IsPermutation, IsSortedBy}
use Rattle.std.specs.FinMap.{get, keys}
use Rattle.disk_trait.specs.declared.disk.Disk.{Ghosts}
use Rattle.disk_trait.specs.Files.{Files}
use Rattle.store_types.specs.declared.names.SnapshotKey.{SnapshotKey}
use Rattle.store_types.specs.Names.{IsKey, key_lt}
use Rattle.store_types.specs.Chain.Reading.{◌>>=◌}
use Rattle.store_files.specs.Manifest.{Manifest}
use Rattle.manifest.specs.declared.facts.FileFact.{FileFact}
use Rattle.manifest.specs.declared.facts.Manifest.{Manifest as ReadManifest}
use Rattle.manifest.specs.Least.{lesser}
use Rattle.manifest.specs.Views.{manifest_view}
use Rattle.store_files.specs.Folder.{file_path}
use Rattle.store_files.specs.Folder.{manifest_path}
use Rattle.store_model.specs.Load.{read_manifest, key_of_manifest}

-- its manifest, where that reads, and the name of the file that makes it damaged
pub record FoundSnapshot : Type 0 where
  pub key : SnapshotKey
  pub manifest : Option Manifest
  pub unreadable : Option (List ℕ)

-- ---- damage

-- the name, where the snapshot has no such file
abbrev pub missing_name : Files → SnapshotKey → List ℕ → Option (List ℕ)
missing_name files key name = if is_some (get files (file_path key name)) then None else Some name

-- the snapshot has no such file
abbrev pub lacks_file : Files → SnapshotKey → List ℕ → Bool
lacks_file files key name = not (is_some (get files (file_path key name)))

-- the lesser of a name and this one, where the snapshot has no such file
abbrev pub with_missing : Files → SnapshotKey → Option (List ℕ) → List ℕ → Option (List ℕ)
with_missing files key first name = lesser first (missing_name files key name)

-- the first of these names, in byte order, of which the snapshot has no file
abbrev pub first_missing : Files → SnapshotKey → List (List ℕ) → Option (List ℕ)
first_missing files key [] = None
first_missing files key (name ∷ names) = lesser (missing_name files key name) (first_missing files key names)

-- of the files that are listed
abbrev pub first_missing_file : SnapshotKey → List FileFact → Files → Option (List ℕ)
first_missing_file key listed files = first_missing files key (map (λ f. f.name) listed)

-- the manifest's name where it cannot be read or lists more than 63 files, else that of the first listed file that is missing
abbrev pub unreadable_by : Files → SnapshotKey → Option Manifest → Option (List ℕ)
unreadable_by files key None = Some (manifest_path key)
unreadable_by files key (Some listed) =
    if nat_le (length listed.files) 63 then option_map (file_path key) (first_missing files key (map (λ f. f.name) listed.files))
    else Some (manifest_path key)

-- by the manifest that was read
abbrev pub unreadable_in : SnapshotKey → Option ReadManifest → Files → Option (List ℕ)
unreadable_in key listed files = unreadable_by files key (option_map manifest_view listed)

-- the snapshot whose manifest reads so, whatever snapshot it names
abbrev pub found_with : Files → SnapshotKey → Option Manifest → FoundSnapshot
found_with files key manifest = record { key = key; manifest = manifest; unreadable = unreadable_by files key manifest }

-- the snapshot, where its manifest is there
unfoldable pub found_at : Files → SnapshotKey → Option FoundSnapshot
found_at files key = do
  bytes ← get files (manifest_path key)
  Some (found_with files key (read_manifest bytes))

-- of an honest disk: what the manifest at the name says, where a file is there
abbrev pub ReadsListed : {D E : Type 0} → Ghosts D → D → List ℕ → Result (Option (Option ReadManifest)) E → Type 0
ReadsListed d disk name result =
    d.honest disk → IfOk result (λ found. option_map (λ listed. option_map manifest_view listed) found ≡ option_map read_manifest (get (d.content disk) name))

-- ---- all of them

-- each is above the one before it
abbrev pub found_rise : List FoundSnapshot → Bool
found_rise [] = true
found_rise (x ∷ []) = true
found_rise (x ∷ y ∷ xs) = key_lt x.key y.key && found_rise (y ∷ xs)

-- These are the snapshots whose manifest is there, whatever it holds, each once and in their order.
pub record Lists (files : Files) (found : List FoundSnapshot) : Type 0 where
  pub rising : IsTrue (found_rise found)
  pub each : All (λ x. IsKey x.key × (found_at files x.key ≡ Some x)) found
  pub exactly : (key : SnapshotKey) → IsKey key → Contains (map (λ x. x.key) found) key ↔ IsSome (get files (manifest_path key))

-- Its key is in the grammar, and the file's name leaves room for a temporary one's ending.
abbrev pub HasNames : FoundSnapshot → Type 0
HasNames x = IsKey x.key × IfSome x.unreadable (λ name. length name ≤ 251)

-- ---- in order

-- its key is the lesser
abbrev pub found_lt : FoundSnapshot → FoundSnapshot → Bool
found_lt x y = key_lt x.key y.key

-- They are the same, and none stands behind a greater one.
pub record IsInOrder (found sorted : List FoundSnapshot) : Type 0 where
  pub same : IsPermutation found sorted
  pub rising : IsSortedBy found_lt sorted

-- ---- by names

-- No name stands twice, and that of each manifest that is there is among them.
pub record NamesManifests (files : Files) (names : List (List ℕ)) : Type 0 where
  pub once : AllPairs (λ a b. a ≢ b) names
  pub each : (key : SnapshotKey) → IsKey key → IsSome (get files (manifest_path key)) → Contains names (manifest_path key)

-- of such names of an honest disk, these are all its snapshots
abbrev pub ListsNamed : {D E : Type 0} → Ghosts D → D → List (String Global) → Result (Vec FoundSnapshot Global) E → Type 0
ListsNamed d disk names result =
    d.honest disk → NamesManifests (d.content disk) (map string_bytes names) → IfOk result (λ all. Lists (d.content disk) all.items)

-- the snapshot whose manifest has this name
unfoldable pub found_named : Files → List ℕ → Option FoundSnapshot
found_named files name = do
  key ← key_of_manifest name
  bytes ← get files name
  Some (found_with files key (read_manifest bytes))

-- the snapshots whose manifests have these names
abbrev pub found_by : Files → List (String Global) → List FoundSnapshot
found_by files names = filter_map (found_named files) (map string_bytes names)

-- of an honest disk: the snapshot of this name is behind those before
abbrev pub FindsInto : {D A E : Type 0} → Ghosts D → D → List FoundSnapshot → List FoundSnapshot → List ℕ → Result A E → Type 0
FindsInto d disk old new name result = d.honest disk → OnOk result (new ≡ old ++ cons_option (found_named (d.content disk) name) [])

abbrev pub names_under : List ℕ → Files → List (List ℕ)
names_under folder files = filter (λ name. starts_with eqb name folder) (keys files)

-- all names in the folders of snapshots
abbrev pub folder_names : Files → List (List ℕ)
folder_names files = names_under (codes "ct/") files ++ names_under (codes "host/") files ++ names_under (codes "vm/") files
