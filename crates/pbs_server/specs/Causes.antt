-- Why sessions are answered so, on any disk.
use Rattle.std.specs.Prelude.{◌≡◌, ◌≢◌, ◌+◌, ◌-◌, ◌<◌, ◌≤◌, ◌^◌, ◌↔◌, ◌⊎◌, ℕ, Bool, true, false, List, [], ◌∷◌, ◌++◌, length, Option, Some, None}
use Rattle.std.specs.List.{All}
use Rattle.port_traits.specs.declared.source.Source as sources
use Rattle.port_traits.specs.declared.sink.Sink as sinks
use Rattle.port_traits.specs.Faults.{Rose}
use Rattle.disk_trait.specs.declared.disk.DiskError.{DiskError}
use Rattle.disk_trait.specs.declared.disk.DiskError.TheVariants as disks
use Rattle.store_types.specs.declared.order.Entry.{Entry}
use Rattle.store_types.specs.declared.refusal.Refusal.{Refusal}
use Rattle.store_model.specs.declared.ending.Ending.{Ending}
use Rattle.store_model.specs.declared.ending.Ending.TheVariants as endings
use Rattle.store_model.specs.Lanes.{broken}
use Rattle.store_history.specs.declared.act.Event.{Event}
use Rattle.store_history.specs.History.{own}
use Rattle.store_history.specs.LaneRun.{ahead, Position, begin, next_at}
use Rattle.store_history.specs.SoFar.{Leads}
use Rattle.store_history.specs.RemoteDisk.{failed_reads}
use Rattle.store_history.specs.declared.port.LaneReport.{LaneReport}
use Rattle.store_history.specs.declared.port.Port.{Port}
use Rattle.lane.specs.Entries.{has_kind}
use Rattle.lane.specs.AtOnce.{AreEnds}
use Rattle.lane.specs.Served.{Run}
use Rattle.pbs_server.specs.declared.status.Status.{Status}
use Rattle.pbs_server.specs.declared.status.Status.TheVariants as statuses

-- The order of so many sessions: each entry is of one of their lanes, and has one count of the disk's calls beside it. An entry of kind 5 comes
-- only where the disk's count of faults rose, and as many of kind 7 at most as the remote's rose by, while this is below its greatest value.
pub record IsOrder (sessions : ℕ) (order : List Entry) (calls : List ℕ) (disk disk' remote remote' : ℕ) : Type 0 where
  pub lanes : All (λ e. e.lane < sessions) order
  pub beside : length calls ≡ length order
  pub faults : has_kind 5 order ≡ true → Rose disk disk'
  pub reads : remote' < 2 ^ 64 - 1 → failed_reads order + remote ≤ remote'

-- What is told of the save of the book: nothing after an entry of a fault of the disk; and the disk is said to have failed in it only where
-- its count of faults rose.
pub record SaveIsTold (order : List Entry) (not_saved : Option DiskError) (disk disk' : ℕ) : Type 0 where
  pub halted : has_kind 5 order ≡ true → not_saved ≡ None
  pub faults : not_saved ≡ Some disks.Failed → Rose disk disk'

-- the disk did not fail, neither in an act nor as the book was saved
pub record NoDiskFault (order : List Entry) (not_saved : Option DiskError) : Type 0 where
  pub acts : has_kind 5 order ≡ false
  pub saving : not_saved ≢ Some disks.Failed

-- neither memory was wanting nor did the disk, the remote or the journal fail, and the book was saved
pub record IsCalm (order : List Entry) (not_saved : Option DiskError) (journal_failed : Bool) : Type 0 where
  pub memory : has_kind 2 order ≡ false
  pub disk : has_kind 5 order ≡ false
  pub remote : has_kind 7 order ≡ false
  pub saved : not_saved ≡ None
  pub journal : journal_failed ≡ false

-- The events before the lane's end led to a place of its input at which no command stands.
pub record ReachesNoCommand (input : List ℕ) (events : List Event) : Type 0 where
  pub before : List Event
  pub ends : List Event
  pub split : events ≡ before ++ ends
  pub ended : AreEnds ends
  pub last : Position
  pub leads : Leads (begin input) before last
  pub refusal : Refusal
  pub next : next_at last ≡ ahead (broken refusal)

-- the lane itself did not fail, and did not end by want of memory
abbrev pub HasNotFailed : Ending → Type 0
HasNotFailed endings.Clean = Unit {0}
HasNotFailed (endings.Broken place) = Unit {0}
HasNotFailed e = ⊥

-- ---- of one lane among them

-- from this lane on, the commands of one lead to a place without a command, by its own among these events
abbrev pub SomeReaches : ℕ → List Run → List Event → Type 0
SomeReaches k [] events = ⊥
SomeReaches k (x ∷ xs) events = ReachesNoCommand x.input (own k events) ⊎ SomeReaches (k + 1) xs events

-- a lane ended so, and what its port counts rose in this call
abbrev pub SomeFailed : {P : Type 0} → (P → ℕ) → Ending → List P → List P → List LaneReport → Type 0
SomeFailed faults ending (o ∷ os) (n ∷ ns) (r ∷ rs) = ((r.ending ≡ ending) × Rose (faults o) (faults n)) ⊎ SomeFailed faults ending os ns rs
SomeFailed faults ending _ _ _ = ⊥

-- a lane ended for it, and took so many bytes
abbrev pub SomeTooLong : List LaneReport → Type 0
SomeTooLong [] = ⊥
SomeTooLong (r ∷ rs) = ((r.ending ≡ endings.SourceTooLong) × (r.taken ≡ 2 ^ 40)) ⊎ SomeTooLong rs

-- ---- the whole

-- The causes of the statuses of sessions that were served. A fault comes only where the count of that object rose.
pub record HasCause {S K : Type 0} (source : sources.Ghosts S) (sink : sinks.Ghosts K) (status : Status) (order : List Entry) (not_saved : Option DiskError) (journal_failed : Bool)
    (old new : List (Port S K)) (reports : List LaneReport) (runs : List Run) (events : List Event) (disk disk' remote remote' : ℕ) : Type 0 where
  pub ok : (status ≡ statuses.Ok) ↔ (All (λ r. r.ending ≡ endings.Clean) reports × IsCalm order not_saved journal_failed)
  pub bad_frame : (status ≡ statuses.BadFrame) ↔ (SomeReaches 0 runs events × All (λ r. HasNotFailed r.ending) reports × IsCalm order not_saved journal_failed)
  pub disk_fault : status ≡ statuses.DiskFault → Rose disk disk'
  pub remote_fault : status ≡ statuses.RemoteFault → Rose remote remote'
  pub source_fault : status ≡ statuses.SourceFault → SomeFailed (λ p. source.faults p.source) endings.SourceFault old new reports
  pub sink_fault : status ≡ statuses.SinkFault → SomeFailed (λ p. sink.faults p.sink) endings.SinkFault old new reports ⊎ (journal_failed ≡ true)
  pub no_memory : (status ≡ statuses.NoMemory) ↔ ((has_kind 2 order ≡ true) ⊎ (not_saved ≡ Some disks.NoMemory))
  pub too_long : status ≡ statuses.SourceTooLong → SomeTooLong reports
