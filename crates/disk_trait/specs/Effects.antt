-- What a function over a disk does to it, with the disk's ghost members as one thing.
use Rattle.std.specs.Prelude.{◌≡◌, ◌<◌, ◌-◌, ◌^◌, ◌⊎◌, ◌≢◌, ℕ, List, Bool, Option, Result, IfOk, OnOk}
use Rattle.disk_trait.specs.Files.{Files}
use Rattle.disk_trait.specs.Disk.{Serves, Steps, After, Now, Same}
use Rattle.disk_trait.specs.Calls.{FillsAt, TellsThere, PutsWhole, MovesFile, DropsFile, WantKeeps, NoneKeeps}
use Rattle.disk_trait.specs.declared.disk.Disk.{Ghosts}
use Rattle.disk_trait.specs.declared.disk.DiskError.{DiskError}

-- each image since is one of the moment before, after a step
abbrev pub StepsOn : {D : Type 0} → Ghosts D → D → D → (Files → Files → Type 0) → Type 0
StepsOn d old new step = Steps d.calls d.images old new step

-- It was not called, or each image since is one of the moment before, after a step.
abbrev pub LeavesBy : {D : Type 0} → Ghosts D → D → D → (Files → Files → Type 0) → Type 0
LeavesBy d old new step = (new ≡ old) ⊎ Steps d.calls d.images old new step

-- what a crash leaves is as before
abbrev pub LeavesSame : {D : Type 0} → Ghosts D → D → D → Type 0
LeavesSame d old new = LeavesBy d old new Same

-- an honest disk reads as before, whatever it holds
abbrev pub SameContent : {D : Type 0} → Ghosts D → D → D → Type 0
SameContent d old new = d.honest old → d.content new ≡ d.content old

-- The disk was read alone: on an honest disk all stays, in what a crash leaves too.
pub record OnlyReads {D : Type 0} (d : Ghosts D) (old new : D) (failed : Type 0) : Type 0 where
  pub serves : Serves d.honest d.faults old new failed
  pub crash : LeavesSame d old new
  pub same : SameContent d old new

-- an honest disk reads as before, and a crash leaves what it left
abbrev pub KeepsFiles : {D : Type 0} → Ghosts D → D → D → Type 0
KeepsFiles d old new = SameContent d old new × Steps d.calls d.images old new Same

-- where Ok is answered, an honest disk reads as before
abbrev pub OkKeepsContent : {D A E : Type 0} → Ghosts D → D → D → Result A E → Type 0
OkKeepsContent d old new result = d.honest old → OnOk result (d.content new ≡ d.content old)

-- a crash now leaves only what is read
abbrev pub IsDurable : {D : Type 0} → Ghosts D → D → Type 0
IsDurable d disk = Now d.calls d.images disk (λ c. c ≡ d.content disk)

-- each image of this moment is one of the moment before, after a step
abbrev pub NowAfter : {D : Type 0} → Ghosts D → D → D → (Files → Files → Type 0) → Type 0
NowAfter d old new step = Now d.calls d.images new (After d.calls d.images old step)

-- ---- what one call of the disk does

abbrev pub DiskFills : {D E : Type 0} → Ghosts D → D → List ℕ → ℕ → List ℕ → List ℕ → Result (Option ℕ) E → Type 0
DiskFills d disk name offset old new result = FillsAt d.honest d.content disk name offset old new result

abbrev pub DiskTells : {D E : Type 0} → Ghosts D → D → List ℕ → Result Bool E → Type 0
DiskTells d disk name result = TellsThere d.honest d.content disk name result

abbrev pub DiskPuts : {D A E : Type 0} → Ghosts D → D → D → List ℕ → List ℕ → Result A E → Type 0
DiskPuts d old new name bytes result = PutsWhole d.honest d.content old new name bytes result

abbrev pub Renames : {D E : Type 0} → Ghosts D → D → D → List ℕ → List ℕ → Result Bool E → Type 0
Renames d old new from to result = MovesFile d.honest d.content old new from to result

abbrev pub DiskDrops : {D A E : Type 0} → Ghosts D → D → D → List ℕ → Result A E → Type 0
DiskDrops d old new name result = DropsFile d.honest d.content old new name result

abbrev pub DiskWantKeeps : {D A : Type 0} → Ghosts D → D → D → Result A DiskError → Type 0
DiskWantKeeps d old new result = WantKeeps d.honest d.content d.calls d.images d.faults old new result

abbrev pub DiskNoneKeeps : {D E : Type 0} → Ghosts D → D → D → Result Bool E → Type 0
DiskNoneKeeps d old new result = NoneKeeps d.honest d.content d.calls d.images d.faults old new result

-- ---- a disk that a crash left of another

-- it is one of the other's images, below the greatest number
abbrev pub IsImage : {D E : Type 0} → Ghosts D → D → Result D E → Type 0
IsImage d disk result = d.calls disk < 2 ^ 64 - 1 → IfOk result (λ left. d.images disk (d.calls disk) (d.content left))

-- it reads so
abbrev pub ReadsAs : {D : Type 0} → Ghosts D → Files → D → Type 0
ReadsAs d files left = d.content left ≡ files

-- it reads as the other, by any choice but 0 and 2
abbrev pub IsPlainlyLeft : {D E : Type 0} → Ghosts D → ℕ → D → Result D E → Type 0
IsPlainlyLeft d choice disk result = choice ≢ 0 → choice ≢ 2 → IfOk result (λ left. d.content left ≡ d.content disk)

-- each of its images is what it reads
abbrev pub LeavesOnlyRead : {D : Type 0} → Ghosts D → D → Type 0
LeavesOnlyRead d disk = (t : ℕ) (c : Files) → d.images disk t c → c ≡ d.content disk
