-- A disk that was synced, and then opened or not.
use Rattle.std.proofs.Common.{◌≡◌, Err, IsErrOf, refl, sym, subst, ◌∙◌}
use Rattle.disk_trait.specs.declared.disk.Disk.{Ghosts}
use Rattle.disk_trait.specs.declared.disk.DiskError.{DiskError}
use Rattle.disk_trait.specs.declared.disk.DiskError.TheVariants.{NoMemory as Wanting, Failed}
use Rattle.snapshot_files.specs.Opened.{Opens}
use Rattle.snapshot_files.proofs.Leavers.{stands_cleaned}
use Rattle.core_opening.specs.declared.opening.OpenFault.{OpenFault}
use Rattle.core_opening.specs.declared.opening.OpenFault.TheVariants.{DiskFault, NoMemory}
use Rattle.core_opening.specs.Opening.{TellsDisk, fault_of}
use Rattle.core_opening.specs.Stops.{StopsOpening, StopsSynced}

-- the disk's fault is told where it failed
pub of_disk : (A : Type 0) (e : DiskError) (fault : OpenFault) → fault ≡ fault_of e → TellsDisk fault → IsErrOf {T = A} (Err e) Failed
of_disk A Wanting fault is told = absurd (subst TellsDisk is told)
of_disk A Failed fault is told = refl

not_wanting : DiskFault ≡ NoMemory → ⊥
not_wanting e = cc

-- and want of memory where it was wanting
pub of_memory : (A : Type 0) (e : DiskError) (fault : OpenFault) → fault ≡ fault_of e → fault ≡ NoMemory → IsErrOf {T = A} (Err e) Wanting
of_memory A Wanting fault is wanting = refl
of_memory A Failed fault is wanting = absurd (not_wanting (sym is ∙ wanting))

stops_synced : {D : Type 0} (d : Ghosts D) (old new : D) → Opens d old new → StopsSynced d old new
stops_synced d old new opens = record {
  opens = opens;
  stops = λ L stands t c from image. stands_cleaned (d.content old) c L stands (opens.since t c from image);
}

stops_at : {D : Type 0} (d : Ghosts D) (old new : D) (e : DiskError) → Opens d old new → StopsOpening d old new (fault_of e)
stops_at d old new Wanting opens = stops_synced d old new opens
stops_at d old new Failed opens = stops_synced d old new opens

-- once it was synced
pub stops_opening : {D : Type 0} (d : Ghosts D) (old new : D) (e : DiskError) (fault : OpenFault) → fault ≡ fault_of e → Opens d old new → StopsOpening d old new fault
stops_opening d old new e fault is opens = subst (StopsOpening d old new) (sym is) (stops_at d old new e opens)
