-- A file of a writer that is put.
use Rattle.std.specs.Prelude.{◌≡◌, ◌<◌, ℕ, List, [], ◌∷◌, length, slice_get, if◌then◌else◌, Some, Result, OnOk, IsErrOf}
use Rattle.std.specs.List.{remove}
use Rattle.std.specs.Str.{bytes_eq}
use Rattle.disk_trait.specs.Disk.{Serves}
use Rattle.disk_trait.specs.Effects.{LeavesSame, SameContent}
use Rattle.disk_trait.specs.Files.{Files}
use Rattle.disk_trait.specs.declared.disk.Disk.{Ghosts}
use Rattle.disk_trait.specs.declared.disk.DiskError.{DiskError}
use Rattle.disk_trait.specs.declared.disk.DiskError.TheVariants.{NoMemory, Failed}
use Rattle.file_install.specs.Install.{installed}
use Rattle.store_types.specs.FileNames.{manifest_name}
use Rattle.store_types.specs.Names.{name_lt}
use Rattle.core_state.specs.declared.kept.StoredFile.{StoredFile}
use Rattle.core_state.specs.Changes.{Change, LeavesChange, stays, installs}

-- at its place in the order of names
abbrev pub insert_stored : StoredFile → List StoredFile → List StoredFile
insert_stored new [] = new ∷ []
insert_stored new (f ∷ fs) = if name_lt new.name f.name then new ∷ f ∷ fs else f ∷ insert_stored new fs

-- it stands at this place, and the others are those before
abbrev pub IsInserted : StoredFile → List StoredFile → List StoredFile → ℕ → Type 0
IsInserted file old new place = (place < length new) × (slice_get new place ≡ Some file) × (remove new place ≡ old)

-- the file at this place, where one is, stands at the path
abbrev pub IsPathAt : List StoredFile → ℕ → List ℕ → Type 0
IsPathAt files place path = (file : StoredFile) → slice_get files place ≡ Some file → path ≡ file.path

-- the manifest is not put: its text stays in memory
abbrev pub with_put : StoredFile → List ℕ → Files → Files
with_put file text m = if bytes_eq file.name manifest_name then m else installed m file.path text

abbrev pub put_change : StoredFile → List ℕ → Change
put_change file text = if bytes_eq file.name manifest_name then stays else installs file.path text

-- The file is installed, unless it is the manifest. Want of memory changes nothing.
pub record PutsFile {D : Type 0} (d : Ghosts D) (old new : D) (file : StoredFile) (text : List ℕ) (result : Result (Unit {0}) DiskError) : Type 0 where
  pub serves : Serves d.honest d.faults old new (IsErrOf result Failed)
  pub crash : LeavesChange d old new (put_change file text)
  pub put : d.honest old → OnOk result (d.content new ≡ with_put file text (d.content old))
  pub same : IsErrOf result NoMemory → SameContent d old new
  pub unmoved : IsErrOf result NoMemory → LeavesSame d old new
