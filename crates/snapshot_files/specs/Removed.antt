-- How names are told to leave, and go one after another.
use Rattle.std.specs.Prelude.{◌≡◌, ◌≢◌, ℕ, Bool, true, false, List, ◌∷◌, ◌++◌, Option, Some, None, is_some, map, Result, OnOk, IfOk, IsErrOf, String, string_bytes}
use Rattle.std.specs.List.{All, Contains}
use Rattle.std.specs.BTreeSet.{BTreeSet, contains_text}
use Rattle.std.specs.declared.alloc.Global.{Global}
use Rattle.std.specs.FinMap.{get, keys}
use Rattle.disk_trait.specs.declared.disk.Disk.{Ghosts}
use Rattle.disk_trait.specs.Effects.{StepsOn}
use Rattle.disk_trait.specs.declared.disk.DiskError.{DiskError}
use Rattle.disk_trait.specs.declared.disk.DiskError.TheVariants.{Failed}
use Rattle.store_types.specs.declared.names.SnapshotKey.{SnapshotKey}
use Rattle.store_types.specs.Names.{IsKey}
use Rattle.store_files.specs.Folder.{Files, manifest_path}
use Rattle.snapshot_files.specs.Leaving.{IsFileOf, IsLeaving, MayClean}

-- it is cut at its last slash, or has none
abbrev pub SplitsLast : List ℕ → Option (List ℕ × List ℕ) → Type 0
SplitsLast q None = All (λ b. b ≢ 47) q
SplitsLast q (Some split) = (q ≡ split.0 ++ 47 ∷ split.1) × All (λ b. b ≢ 47) split.1

-- the snapshot whose file has this name
abbrev pub TellsSnapshot : List ℕ → Option SnapshotKey → Type 0
TellsSnapshot q None = (key : SnapshotKey) → IsKey key → IsFileOf key q → ⊥
TellsSnapshot q (Some key) = IsKey key × IsFileOf key q

-- the set has the names of the manifests that are there
abbrev pub HasManifests : BTreeSet (String Global) → Files → Type 0
HasManifests manifests read = (key : SnapshotKey) → IsKey key → contains_text manifests (manifest_path key) ≡ is_some (get read (manifest_path key))

-- these are the names at which something stands
abbrev pub AreNames : List (String Global) → Files → Type 0
AreNames names read = map string_bytes names ≡ keys read

-- these are all names of an honest disk
abbrev pub NamesAll : {D : Type 0} → Ghosts D → D → List (String Global) → Type 0
NamesAll d disk names = d.honest disk → AreNames names (d.content disk)

-- the set has the manifests' names, where these are the names at which something stands
abbrev pub KnowsManifests : {E : Type 0} → List (String Global) → Result (BTreeSet (String Global)) E → Type 0
KnowsManifests names result = IfOk result (λ manifests. (read : Files) → AreNames names read → HasManifests manifests read)

-- whether the file of this name leaves
abbrev pub TellsLeaving : Files → List ℕ → Bool → Type 0
TellsLeaving read q leaves = (leaves ≡ true → IsLeaving read q) × (leaves ≡ false → IsLeaving read q → ⊥)

-- by the manifests that are there
abbrev pub TellsByManifests : {E : Type 0} → BTreeSet (String Global) → List ℕ → Result Bool E → Type 0
TellsByManifests manifests q result = IfOk result (λ leaves. (read : Files) → HasManifests manifests read → TellsLeaving read q leaves)

-- ---- what a crash may leave, by the manifests that were there

abbrev pub MayLeave : BTreeSet (String Global) → Files → Files → Type 0
MayLeave manifests old new = (read : Files) → HasManifests manifests read → MayClean read old new

-- ---- what is there, once the names are gone through

-- one of these that leaves is gone
abbrev pub Goes : Files → List (List ℕ) → Files → Type 0
Goes read names new = (q : List ℕ) → Contains names q → IsLeaving read q → get new q ≡ None

-- at Ok an honest disk reads so
abbrev pub OkGoes : {D A E : Type 0} → Ghosts D → D → D → BTreeSet (String Global) → List (List ℕ) → Result A E → Type 0
OkGoes d old new manifests names result = d.honest old → OnOk result ((read : Files) → HasManifests manifests read → Goes read names (d.content new))

abbrev pub OkAllGo : {D A E : Type 0} → Ghosts D → D → D → BTreeSet (String Global) → List (String Global) → Result A E → Type 0
OkAllGo d old new manifests names result = OkGoes d old new manifests (map string_bytes names) result

-- unless it failed, an honest disk reads as before, without some of the files that leave
abbrev pub OnlyLoses : {D A : Type 0} → Ghosts D → D → D → BTreeSet (String Global) → Result A DiskError → Type 0
OnlyLoses d old new manifests result = d.honest old → (IsErrOf result Failed → ⊥) → MayLeave manifests (d.content old) (d.content new)

-- ---- of the whole folder

-- each image since is one of the moment before, without some of the files that opening takes away by what was read
abbrev pub StepsClean : {D : Type 0} → Ghosts D → D → D → Type 0
StepsClean d old new = StepsOn d old new (λ b c. d.honest old → MayClean (d.content old) b c)
