-- Names in the datastore folder that are none of the store's.
use Rattle.std.specs.Prelude.{◌≡◌, ◌≢◌, ℕ, List}
use Rattle.std.specs.FinMap.{get}
use Rattle.disk_trait.specs.declared.disk.Disk.{Ghosts}
use Rattle.file_install.specs.Install.{temporary}
use Rattle.store_types.specs.declared.names.SnapshotKey.{SnapshotKey}
use Rattle.store_files.specs.Folder.{chunk_name, file_path}
use Rattle.store_history.specs.Saved.{book_name}

-- no path below a snapshot's folder, whatever its key and the file's name, no chunk's, not the book's, and no temporary one
pub record IsForeign (q : List ℕ) : Type 0 where
  pub file : (key : SnapshotKey) (name : List ℕ) → q ≢ file_path key name
  pub chunk : (digest : List ℕ) → q ≢ chunk_name digest
  pub book : q ≢ book_name
  pub lasting : (name : List ℕ) → q ≢ temporary name

-- what stands at such names stays
abbrev pub KeepsForeign : {D : Type 0} → Ghosts D → D → D → Type 0
KeepsForeign d old new = (q : List ℕ) → IsForeign q → get (d.content new) q ≡ get (d.content old) q
