-- What a snapshot that is forgotten leaves.
use Rattle.std.specs.Prelude.{◌≡◌, ◌⊎◌, ℕ, List, [], ◌∷◌, map, Option, None}
use Rattle.std.specs.List.{Contains, cons_option}
use Rattle.std.specs.FinMap.{get, remove}
use Rattle.disk_trait.specs.declared.disk.Disk.{Ghosts}
use Rattle.disk_trait.specs.Effects.{NowAfter}
use Rattle.disk_trait.specs.Files.{Files}
use Rattle.store_types.specs.declared.names.SnapshotKey.{SnapshotKey}
use Rattle.store_files.specs.Folder.{file_path, manifest_path}

-- without what stands at these names
abbrev pub without : List (List ℕ) → Files → Files
without [] files = files
without (name ∷ names) files = without names (remove files name)

-- What stood at these names may be gone, and all else is as it was.
abbrev pub MayLose : List (List ℕ) → Files → Files → Type 0
MayLose names old new = (q : List ℕ) → (get new q ≡ get old q) ⊎ ((get new q ≡ None) × Contains names q)

-- all is as it was; or the manifest is gone, and of the files what stood there or nothing is left
abbrev pub Forgets : List ℕ → List (List ℕ) → Files → Files → Type 0
Forgets manifest paths old new = (new ≡ old) ⊎ ((get new manifest ≡ None) × MayLose (manifest ∷ paths) old new)

-- all that was read is there but for the manifest, which is gone, and for these files, of which some may be gone
abbrev pub ForgetsFirm : Files → List ℕ → List (List ℕ) → Files → Files → Type 0
ForgetsFirm read manifest paths old new = (old ≡ read) × (get new manifest ≡ None) × MayLose (manifest ∷ paths) old new

-- ---- a name, where there is one

abbrev pub without_it : Option (List ℕ) → Files → Files
without_it name files = without (cons_option name []) files

abbrev pub MayLoseIt : Option (List ℕ) → Files → Files → Type 0
MayLoseIt name old new = MayLose (cons_option name []) old new

-- ---- a snapshot's files

abbrev pub without_files : SnapshotKey → List (List ℕ) → Files → Files
without_files key names files = without (manifest_path key ∷ map (file_path key) names) files

abbrev pub ForgetsSnapshot : SnapshotKey → List (List ℕ) → Files → Files → Type 0
ForgetsSnapshot key names old new = Forgets (manifest_path key) (map (file_path key) names) old new

-- ---- on a disk

-- a crash now leaves all that was read, without the manifest and some of these files
abbrev pub NowForgotten : {D : Type 0} → Ghosts D → D → D → List ℕ → List (List ℕ) → Type 0
NowForgotten d old new manifest paths = NowAfter d old new (ForgetsFirm (d.content old) manifest paths)

-- and so of a snapshot's manifest and files
abbrev pub NowLacksSnapshot : {D : Type 0} → Ghosts D → D → D → SnapshotKey → List (List ℕ) → Type 0
NowLacksSnapshot d old new key names = NowForgotten d old new (manifest_path key) (map (file_path key) names)
