-- What is loaded from a disk.
use Rattle.std.specs.Prelude.{◌≡◌, Result, IfOk, IsErrOf}
use Rattle.disk_trait.specs.declared.disk.Disk.{Ghosts}
use Rattle.disk_trait.specs.declared.disk.DiskError.{DiskError}
use Rattle.disk_trait.specs.declared.disk.DiskError.TheVariants.{Failed}
use Rattle.disk_trait.specs.Disk.{Serves}
use Rattle.store_model.specs.Store.{Store, store_of}
use Rattle.store_model.specs.Load.{load}

-- the disk serves, and fails where the call does
abbrev pub ServesOrFails : {D A : Type 0} → Ghosts D → D → D → Result A DiskError → Type 0
ServesOrFails d old new result = Serves d.honest d.faults old new (IsErrOf result Failed)

-- the store is that of the snapshots that an honest disk has
abbrev pub LoadsStore : {D E : Type 0} → Ghosts D → D → Result Store E → Type 0
LoadsStore d disk result = d.honest disk → IfOk result (λ store. store ≡ store_of (load (d.content disk)))
