-- What opening does to a disk.
use Rattle.std.specs.Prelude.{◌<◌, ◌≤◌, ◌⊎◌, ℕ, Result, OnOk, IfOk, IsErrOf}
use Rattle.disk_trait.specs.declared.disk.Disk.{Ghosts}
use Rattle.disk_trait.specs.declared.disk.DiskError.{DiskError}
use Rattle.disk_trait.specs.declared.disk.DiskError.TheVariants.{NoMemory}
use Rattle.disk_trait.specs.Disk.{LeavesOnly, one_up}
use Rattle.disk_trait.specs.Files.{Files}
use Rattle.chunk_store.specs.Listed.{Lists as ListsDigests}
use Rattle.snapshot_files.specs.Scanned.{Lists}
use Rattle.snapshot_files.specs.declared.opening.Inventory.{Inventory}
use Rattle.snapshot_files.specs.Leaving.{MayClean, Cleans}

-- it was an image of the moment before, or it is what was read without some of the files that opening takes away
abbrev pub LeavesOne : {D : Type 0} → Ghosts D → D → Files → Type 0
LeavesOne d old c = d.images old (d.calls old) c ⊎ MayClean (d.content old) (d.content old) c

-- The disk was synced by the first call, and then opened. Each image since is one of the moment before, or what was read without some of the files
-- that opening takes away: up to a moment the former, and from it on the latter. On an honest disk that moment is no later than the one behind
-- the first call.
pub record Opens {D : Type 0} (d : Ghosts D) (old new : D) : Type 0 where
  pub all : LeavesOnly d.calls d.images old new (LeavesOne d old)
  pub start : ℕ
  pub started : (d.calls old ≤ start) × (start ≤ d.calls new)
  pub first : d.honest old → start ≤ one_up (d.calls old)
  pub until : (t : ℕ) (c : Files) → d.calls old ≤ t → t < start → d.images new t c → d.images old (d.calls old) c
  pub since : (t : ℕ) (c : Files) → start ≤ t → d.images new t c → MayClean (d.content old) (d.content old) c

-- at Ok an honest disk reads so
abbrev pub CleansDisk : {D A E : Type 0} → Ghosts D → D → D → Result A E → Type 0
CleansDisk d old new result = d.honest old → OnOk result (Cleans (d.content old) (d.content new))

-- for want of memory some of those files may be gone
abbrev pub WantsMemory : {D A : Type 0} → Ghosts D → D → D → Result A DiskError → Type 0
WantsMemory d old new result = d.honest old → IsErrOf result NoMemory → MayClean (d.content old) (d.content old) (d.content new)

-- ---- what is listed

-- exactly the snapshots whose manifest is there on an honest disk, as it reads when it was opened
abbrev pub FindsSnapshots : {D E : Type 0} → Ghosts D → D → D → Result Inventory E → Type 0
FindsSnapshots d old new result = d.honest old → IfOk result (λ i. Lists (d.content new) i.snapshots.items)

-- exactly the digests under whose names a file stands
abbrev pub FindsChunks : {D E : Type 0} → Ghosts D → D → D → Result Inventory E → Type 0
FindsChunks d old new result = d.honest old → IfOk result (λ i. ListsDigests (d.content new) i.chunks.items)
