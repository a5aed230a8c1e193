-- The remote of a run: what stands there, and that it is read alone.
use Rattle.std.specs.Prelude.{◌≡◌, ◌⊎◌, ◌≤◌, ◌↔◌, ◌==◌, ◌&&◌, ◌||◌, ℕ, Bool, false, not, List, [], ◌∷◌, filter, length, Option, Some, None}
use Rattle.disk_trait.specs.Effects.{LeavesSame, SameContent}
use Rattle.disk_trait.specs.declared.disk.Disk.{Ghosts}
use Rattle.store_types.specs.declared.order.Entry.{Entry}
use Rattle.store_types.specs.declared.order.TheConstants.{COMMAND_KIND, FAULT_KIND, REMOTE_FAULT_KIND}
use Rattle.store_files.specs.Archive.{Snapshot}
use Rattle.store_model.specs.Stands.{StandsFor as Stands}
use Rattle.store_history.specs.declared.act.Act.{Act}
use Rattle.store_history.specs.declared.act.Answer.{Answer}
use Rattle.store_history.specs.declared.act.Event.{Event}
use Rattle.store_history.specs.Acts.{family_of, is_reaching}

-- ---- what it has

-- An honest remote stands for these snapshots, or there is none.
abbrev pub ShowsRemote : {E : Type 0} → Ghosts E → Option E → Option (List Snapshot) → Type 0
ShowsRemote e None None = Unit {0}
ShowsRemote e (Some remote) (Some snapshots) = e.honest remote × Stands (e.content remote) snapshots
ShowsRemote e _ _ = ⊥

-- ---- which acts read it

-- the acts that read the remote
abbrev pub is_remotes : Act → Bool
is_remotes act = is_reaching (family_of act)

-- The act may have read it: not where its tests refused it, which has kind 0, nor for an earlier fault of the disk, which has kind 5.
abbrev pub reads_remote : Act → Answer → Bool
reads_remote act answer = is_remotes act && not ((answer.entry).kind == COMMAND_KIND || (answer.entry).kind == FAULT_KIND)

-- none of these acts reads it
abbrev pub ReadNoRemote : List Event → Type 0
ReadNoRemote [] = Unit {0}
ReadNoRemote (v ∷ vs) = (reads_remote v.act v.answer ≡ false) × ReadNoRemote vs

-- it stands for these snapshots, or none of these acts reads it
abbrev pub ShowsRead : {E : Type 0} → Ghosts E → Option E → Option (List Snapshot) → List Event → Type 0
ShowsRead e remote snapshots events = ShowsRemote e remote snapshots ⊎ ReadNoRemote events

-- ---- what is left of it

-- It is honest where it was, an honest one reads as before, a crash leaves of it what it left, and its count of faults never falls.
pub record IsRead {E : Type 0} (e : Ghosts E) (old new : E) : Type 0 where
  pub kept : e.honest old ↔ e.honest new
  pub same : SameContent e old new
  pub crash : LeavesSame e old new
  pub count : e.faults old ≤ e.faults new

-- it is there where it was
abbrev pub RemoteStays : {E : Type 0} → Ghosts E → Option E → Option E → Type 0
RemoteStays e None None = Unit {0}
RemoteStays e (Some old) (Some new) = IsRead e old new
RemoteStays e _ _ = ⊥

abbrev pub faults_of : {E : Type 0} → Ghosts E → Option E → ℕ
faults_of e None = 0
faults_of e (Some remote) = e.faults remote

-- how many entries of an order are reads of the remote that failed
abbrev pub failed_reads : List Entry → ℕ
failed_reads order = length (filter (λ x. x.kind == REMOTE_FAULT_KIND) order)
