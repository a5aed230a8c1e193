-- What a crash leaves of a disk that was not opened.
use Rattle.std.specs.Prelude.{◌≤◌, ℕ, List}
use Rattle.disk_trait.specs.Disk.{Same}
use Rattle.disk_trait.specs.Effects.{StepsOn}
use Rattle.disk_trait.specs.declared.disk.Disk.{Ghosts}
use Rattle.store_files.specs.Archive.{Snapshot}
use Rattle.store_files.specs.Folder.{Files}
use Rattle.store_model.specs.Stands.{StandsFor as Stands}
use Rattle.snapshot_files.specs.Opened.{Opens}
use Rattle.core_opening.specs.declared.opening.OpenFault.{OpenFault}
use Rattle.core_opening.specs.declared.opening.OpenFault.TheVariants.{NotSynced, DiskFault, NoMemory}

-- It was synced, and then not opened: from such a moment on, too.
pub record StopsSynced {D : Type 0} (d : Ghosts D) (old new : D) : Type 0 where
  pub opens : Opens d old new
  pub stops : (L : List Snapshot) → Stands (d.content old) L → (t : ℕ) (c : Files) → opens.start ≤ t → d.images new t c → Stands c L

-- What a crash leaves where it was not opened: as before, where the disk could not be synced.
abbrev pub StopsOpening : {D : Type 0} → Ghosts D → D → D → OpenFault → Type 0
StopsOpening d old new NotSynced = StepsOn d old new Same
StopsOpening d old new DiskFault = StopsSynced d old new
StopsOpening d old new NoMemory = StopsSynced d old new
