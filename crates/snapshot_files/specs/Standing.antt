-- What calls on the files of snapshots make of the list of snapshots that a disk stands for.
use Rattle.disk_trait.specs.declared.disk.Disk.{Ghosts}
use Rattle.std.specs.Prelude.{◌≡◌, ◌≢◌, ◌<◌, ◌⊎◌, ℕ, List, Some, length, IsTrue}
use Rattle.std.specs.List.{All}
use Rattle.std.specs.FinMap.{get}
use Rattle.disk_trait.specs.Files.{Files}
use Rattle.disk_trait.specs.Disk.{LeavesOnly, Now}
use Rattle.store_types.specs.declared.names.SnapshotKey.{SnapshotKey}
use Rattle.store_types.specs.FileNames.{is_file_name, manifest_name}
use Rattle.store_types.specs.Names.{IsKey, group_of_key}
use Rattle.store_files.specs.Archive.{File, Snapshot, file_text}
use Rattle.store_files.specs.Folder.{file_path, manifest_path}
use Rattle.store_model.specs.Store.{in_group, insert_snapshot, without_snapshot}
use Rattle.store_model.specs.Stands.{StandsFor, IsSnapshot, HoldsPieces, group_limit}

-- Where all that a crash may leave stood for the first list, each image since stands for one of both. Once it is done, the second alone
-- is what each image stands for, and the disk as it reads, as far as the first was.
pub record Moves {D : Type 0} (d : Ghosts D) (old new : D) (done : Type 0) (first second : List Snapshot) : Type 0 where
  pub images : Now d.calls d.images old (λ m. StandsFor m first) → LeavesOnly d.calls d.images old new (λ m. StandsFor m first ⊎ StandsFor m second)
  pub content : done → d.honest old → StandsFor (d.content old) first → StandsFor (d.content new) second
  pub firm : done → Now d.calls d.images old (λ m. StandsFor m first) → Now d.calls d.images new (λ m. StandsFor m second)

-- at the path is a file, other than the manifest, of a snapshot that the list lacks
pub record IsOfNew (snapshots : List Snapshot) (key : SnapshotKey) (name path : List ℕ) : Type 0 where
  pub is : path ≡ file_path key name
  pub grammar : IsKey key × IsTrue (is_file_name name)
  pub other : name ≢ manifest_name
  pub lacks : All (λ x. x.key ≢ key) snapshots

-- a file stands there; of the manifest, it has the text that is put
abbrev pub IsReady : Files → SnapshotKey → List ℕ → File → Type 0
IsReady m key manifest f = ((f.name ≢ manifest_name) → get m (file_path key f.name) ≡ Some (file_text f.content)) × ((f.name ≡ manifest_name) → file_text f.content ≡ manifest)

-- at the path is the manifest, with this text, of a snapshot that the list lacks and that is there but for it
pub record Completes (read : Files) (snapshots : List Snapshot) (x : Snapshot) (path text : List ℕ) : Type 0 where
  pub is : path ≡ manifest_path x.key
  pub fits : IsSnapshot x
  pub lacks : All (λ y. y.key ≢ x.key) snapshots
  pub room : length (in_group (group_of_key x.key) snapshots) < group_limit
  pub ready : All (IsReady read x.key text) x.files
  pub pieces : HoldsPieces read x

-- ---- what the calls make of each list that is stood for

-- where the file is one of a snapshot that the list lacks, the list stays
abbrev pub StandsWithFile : {D : Type 0} → Ghosts D → D → D → List ℕ → Type 0 → Type 0
StandsWithFile d old new path done =
    (snapshots : List Snapshot) (key : SnapshotKey) (name : List ℕ) → IsOfNew snapshots key name path → Moves d old new done snapshots snapshots

-- where the manifest completes a snapshot, that joins the list
abbrev pub StandsFinished : {D : Type 0} → Ghosts D → D → D → List ℕ → List ℕ → Type 0 → Type 0
StandsFinished d old new path manifest done =
    (snapshots : List Snapshot) (x : Snapshot) → Completes (d.content old) snapshots x path manifest → Moves d old new done snapshots (insert_snapshot x snapshots)

-- the snapshot of this key, with files of these names, leaves the list
abbrev pub StandsForgotten : {D : Type 0} → Ghosts D → D → D → SnapshotKey → List (List ℕ) → Type 0 → Type 0
StandsForgotten d old new key names done =
    (snapshots : List Snapshot) → All (λ name. IsTrue (is_file_name name)) names → Moves d old new done snapshots (without_snapshot key snapshots)
