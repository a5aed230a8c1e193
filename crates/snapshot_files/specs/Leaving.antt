-- Which files opening takes away, and what it leaves of a map.
use Rattle.std.specs.Prelude.{◌≡◌, ◌⊎◌, ℕ, List, None, IsTrue}
use Rattle.std.specs.FinMap.{get}
use Rattle.file_install.specs.Install.{temporary}
use Rattle.store_types.specs.declared.names.SnapshotKey.{SnapshotKey}
use Rattle.store_types.specs.FileNames.{is_file_name}
use Rattle.store_types.specs.Names.{IsKey}
use Rattle.store_files.specs.Folder.{Files, file_path, manifest_path}

-- it has the name of a file that is being installed
abbrev pub IsTemporary : List ℕ → Type 0
IsTemporary q = (name : List ℕ) × (q ≡ temporary name)

-- it has the name of a file of the snapshot
abbrev pub IsFileOf : SnapshotKey → List ℕ → Type 0
IsFileOf key q = (name : List ℕ) × IsTrue (is_file_name name) × (q ≡ file_path key name)

-- it has the name of a file of a snapshot that was not finished: its manifest is not there
abbrev pub IsOrphan : Files → List ℕ → Type 0
IsOrphan read q = (key : SnapshotKey) × IsKey key × IsFileOf key q × (get read (manifest_path key) ≡ None)

-- by what was read, opening takes the file of this name away
abbrev pub IsLeaving : Files → List ℕ → Type 0
IsLeaving read q = IsTemporary q ⊎ IsOrphan read q

-- ---- what is left

-- Of the files that opening takes away some may be gone, and all else is as it was.
abbrev pub MayClean : Files → Files → Files → Type 0
MayClean read old new = (q : List ℕ) → (get new q ≡ get old q) ⊎ ((get new q ≡ None) × IsLeaving read q)

-- They are gone, and all else is as it was.
pub record Cleans (old new : Files) : Type 0 where
  pub only : MayClean old old new
  pub gone : (q : List ℕ) → IsLeaving old q → get new q ≡ None
