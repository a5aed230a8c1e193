-- The acts of a collector after its start.
use Rattle.disk_trait.specs.declared.disk.Disk.{Ghosts}
use Rattle.std.specs.Prelude.{◌≡◌, ◌<◌, ◌≤◌, ◌⊎◌, ◌∷◌, [], ℕ, true, false, List, Option, Some, None, IsSome, IsSomeAnd, IfSome, IfErr, Result, Ok, Err, IsErrOf}
use Rattle.disk_trait.specs.Disk.{Serves}
use Rattle.port_traits.specs.Readings.{Readings}
use Rattle.store_types.specs.declared.names.Digest32.{Digest32}
use Rattle.store_types.specs.Times.{last_moment}
use Rattle.store_types.specs.declared.refusal.Refusal.{Refusal}
use Rattle.store_types.specs.declared.refusal.Refusal.TheVariants.{WrongState}
use Rattle.store_types.specs.declared.order.TheConstants.{COMMAND_KIND, PART_KIND, MEMORY_KIND, STOP_KIND, FAULT_KIND}
use Rattle.store_files.specs.Book.{Book, FitsBook, book_text}
use Rattle.store_files.specs.Folder.{chunk_name}
use Rattle.wire_commands.specs.declared.reply.Reply.TheVariants as replies
use Rattle.wire_commands.specs.HasText.{ReplyHasText}
use Rattle.store_model.specs.Store.{Store}
use Rattle.atime_book.specs.Touches.{NoneAfter, as_of}
use Rattle.gc_plan.specs.Plan.{is_over as is_plan_over}
use Rattle.gc_plan.specs.declared.GcReport.{GcReport}
use Rattle.store_history.specs.Saved.{book_name}
use Rattle.store_history.specs.declared.act.Answer.{Answer}
use Rattle.store_upkeep.specs.Safety.{IsNeeded}
use Rattle.store_history.specs.Sweeping.{Swept, is_over, passed, report_of}
use Rattle.core_state.specs.declared.collector.Collector.{Collector}
use Rattle.core_state.specs.declared.collector.Early.{Early}
use Rattle.core_state.specs.declared.collector.Early.TheVariants.{Unreadable}
use Rattle.core_state.specs.declared.entering.Admitted.TheVariants.{Answered}
use Rattle.core_state.specs.declared.entering.Place.{Place}
use Rattle.core_state.specs.declared.parts.Parts.{Parts}
use Rattle.core_state.specs.declared.state.Core.{Core}
use Rattle.store_stops.specs.declared.stop.Stop.{Stop}
use Rattle.store_stops.specs.declared.stop.Stop.TheVariants.{Refused, NoMemory, DiskFailed}
use Rattle.core_state.specs.declared.upkeep.Upkeep.{Upkeep}
use Rattle.core_state.specs.Begins.{AdmittedHasText, IsAdmitted, Refuses}
use Rattle.core_state.specs.Changes.{Change, LeavesChange, after, drops, installs, stays}
use Rattle.core_state.specs.Collectors.{is_cut, is_on, refusal_of, steps_left}
use Rattle.core_state.specs.Entering.{held_by}
use Rattle.core_state.specs.Passes.{KeepsPlan, PassTouches}
use Rattle.core_state.specs.Settles.{IsEntered, Settles}
use Rattle.core_state.specs.States.{state_of}
use Rattle.core_state.specs.Stops.{told}
use Rattle.snapshot_files.specs.Reads.{StopHasText}
use Rattle.core_state.specs.Unchanged.{SameKept}
use Rattle.core_state.specs.Upkeeps.{touches_kept}
use Rattle.core_state.specs.Wanted.{session_at}
use Rattle.core_collect.specs.Beside.{IsSweepable, StandsBeside, passed_touches}
use Rattle.core_collect.specs.Calls.{OpenCalls}
use Rattle.core_collect.specs.Ending.{Reports, TellsEarly, early_in, report_reply}
use Rattle.core_collect.specs.Marking.{next_unreadable}
use Rattle.core_collect.specs.Passing.{CoreFails, CorePasses, EndsWhole, FailsByPlan, PassesOrEnds}
use Rattle.core_collect.specs.Visiting.{goes}

-- ---- an open collector, on any disk

-- a mark or a visit without a reply, and the end with its report
abbrev pub Outcome : Type 0
Outcome = Result (Option GcReport) Stop

-- A mark or a visit may take a chunk out that goes, the end saves the book, and where the disk failed it may be either.
abbrev pub MayChange : Book → Collector → ℕ → Change → Outcome → Type 0
MayChange book c moment change (Ok None) = (change ≡ stays) ⊎ ((x : Digest32) × (goes book c.plan x ≡ true) × (change ≡ drops (chunk_name x.0 ∷ [])))
MayChange book c moment change (Ok (Some report)) = change ≡ installs book_name (book_text (as_of moment book))
MayChange book c moment change (Err DiskFailed) =
    (change ≡ stays) ⊎ (((x : Digest32) × (goes book c.plan x ≡ true) × (change ≡ drops (chunk_name x.0 ∷ []))) ⊎ (change ≡ installs book_name (book_text (as_of moment book))))
MayChange book c moment change (Err stop) = change ≡ stays

-- a mark or a visit touches some chunks, or takes one out; nothing else does
abbrev pub MayTouch : Change → Upkeep → Upkeep → ℕ → Outcome → Type 0
MayTouch change u v moment (Ok None) = PassTouches change (touches_kept u) (touches_kept v) moment
MayTouch change u v moment result = v ≡ u

-- an index did not decode, or was not as it was opened
abbrev pub IsIndex : Early → Type 0
IsIndex (Unreadable path) = Unit {0}
IsIndex early = ⊥

-- and stands at this path
abbrev pub path_of_early : Option Early → Option (List ℕ)
path_of_early (Some (Unreadable path)) = Some path
path_of_early ended = None

abbrev pub path_ended : Option Collector → Option (List ℕ)
path_ended None = None
path_ended (Some c) = path_of_early c.ended

-- it goes on, but where that is so
abbrev pub MayEnd : Collector → Outcome → Type 0
MayEnd c (Ok None) = IfSome c.ended IsIndex
MayEnd c result = c.ended ≡ None

abbrev pub GoesDown : Collector → Collector → Outcome → Type 0
GoesDown c e (Ok None) = steps_left (Some e) < steps_left (Some c)
GoesDown c e result = Unit {0}

-- what the end saves is a book
abbrev pub FitsSaved : Book → ℕ → Outcome → Type 0
FitsSaved book moment (Ok (Some report)) = FitsBook (as_of moment book)
FitsSaved book moment result = Unit {0}

-- unless the disk failed, what its start fixed is as before
abbrev pub KeepsFixed : Collector → Collector → Outcome → Type 0
KeepsFixed c e (Err DiskFailed) = Unit {0}
KeepsFixed c e result = KeepsPlan c.plan e.plan

-- By the collector's own plan: a mark or a visit is its next, and an end comes where all was visited, with its report.
abbrev pub ByPlan : {D : Type 0} → Ghosts D → Parts D → Upkeep → Upkeep → Collector → Collector → ℕ → Change → Outcome → Type 0
ByPlan d old u v c e moment change (Ok None) =
    (is_plan_over c.plan ≡ false) × (v ≡ record u { book = v.book })
    × PassesOrEnds d old.disk old.catalogue.listed u.book v.book c e moment change e.ended
ByPlan d old u v c e moment change (Ok (Some report)) = (is_plan_over c.plan ≡ true) × Reports u.book c.plan report
ByPlan d old u v c e moment change (Err DiskFailed) = FailsByPlan d old.disk old.catalogue.listed u.book c moment change
ByPlan d old u v c e moment change (Err stop) = Unit {0}

-- ---- and for what a history tells

-- the digest of a chunk that is taken out is not needed
abbrev pub Spares : Store → Change → Type 0
Spares s change = (x : Digest32) → change ≡ drops (chunk_name x.0 ∷ []) → IsNeeded s x.0 → ⊥

-- a mark or a visit is the sweep's next, and the end comes where the sweep is over, with its report
abbrev pub IsTheSweeps : {D : Type 0} → Ghosts D → Parts D → Upkeep → ℕ → Collector → Store → Swept → ℕ → Outcome → Type 0
IsTheSweeps d new v acts e s w moment (Ok None) =
    IsSomeAnd w.sweep (λ sweep. (is_over sweep ≡ false) × (e.ended ≡ None)
    × StandsBeside d new v acts (Some e) s (passed_touches w sweep moment) (Some (passed w sweep sweep.unmarked)))
IsTheSweeps d new v acts e s w moment (Ok (Some report)) =
    IsSomeAnd w.sweep (λ sweep. (is_over sweep ≡ true) × (report_reply report ≡ report_of w sweep)) × StandsBeside d new v acts (Some e) s w.touches w.sweep
IsTheSweeps d new v acts e s w moment (Err NoMemory) = StandsBeside d new v acts (Some e) s w.touches w.sweep
IsTheSweeps d new v acts e s w moment (Err DiskFailed) = d.honest new.disk
IsTheSweeps d new v acts e s w moment (Err (Refused refusal)) = ⊥

-- ---- the next act of an open collector

pub record CollectDoes {D : Type 0} (d : Ghosts D) (old new : Parts D) (u v : Upkeep) (c e : Collector) (at : Place) (result : Outcome) : Type 0 where
  pub serves : Serves d.honest d.faults old.disk new.disk (IsErrOf result DiskFailed)
  pub kept : SameKept old new
  pub unrefused : (refusal : Refusal) → result ≡ Err (Refused refusal) → ⊥
  pub change : Change
  pub may_change : MayChange u.book c at.moment change result
  pub content : (IsErrOf result DiskFailed → ⊥) → d.honest old.disk → d.content new.disk ≡ after change (d.content old.disk)
  pub crash : LeavesChange d old.disk new.disk change
  pub touches : MayTouch change u v at.moment result
  pub by_plan : ByPlan d old u v c e at.moment change result
  -- no chunk is touched after the act's moment
  pub early : (before : ℕ) → before ≤ at.moment → NoneAfter u.book before → NoneAfter v.book at.moment
  pub fits : (before : ℕ) → before ≤ at.moment → at.moment ≤ last_moment → NoneAfter u.book before → FitsSaved u.book at.moment result
  pub lane : e.lane ≡ c.lane
  pub ends : MayEnd e result
  pub further : GoesDown c e result
  pub same : KeepsFixed c e result
  -- an honest disk's index that is next does not decode or is not as it was opened, or there is none such
  pub unread : result ≡ Ok None → d.honest old.disk → path_of_early e.ended ≡ next_unreadable (d.content old.disk) old.catalogue.listed c
  pub calls : result ≡ Ok None → OpenCalls d old new c
  pub tells : (acts : ℕ) (s : Store) (w : Swept) → StandsBeside d old u acts (Some c) s w.touches w.sweep → IsSweepable s w
      → IsTheSweeps d new v acts e s w at.moment result × Spares s change

-- ---- the next act of the lane's collector

-- refused: the lane's collector is not open, and nothing has changed
pub record IsRefused {D : Type 0} (old new : Parts D) (u v : Upkeep) (b c : Option Collector) (at : Place) (result : Outcome) : Type 0 where
  pub result_is : result ≡ Err (Refused (WrongState (state_of (session_at old at.lane))))
  pub parts : new ≡ old
  pub upkeep : v ≡ u
  pub collector : c ≡ b

pub record PassDoes {D : Type 0} (d : Ghosts D) (old new : Parts D) (u v : Upkeep) (b c : Option Collector) (at : Place) (result : Outcome) : Type 0 where
  pub refused : is_on at.lane b ≡ false → IsRefused old new u v b c at result
  pub collects : (x : Collector) → b ≡ Some x → is_on at.lane b ≡ true → IsSomeAnd c (λ y. CollectDoes d old new u v x y at result)
  pub text : IfErr result StopHasText

-- ---- its entry

abbrev pub EntersPass : {D E C : Type 0} → Ghosts D → Core D E C → Core D E C → Place → Outcome → Answer → Type 0
EntersPass d old new at (Ok None) answer = IsEntered d old new at.lane at.moment 1 None answer
EntersPass d old new at (Ok (Some report)) answer = IsEntered d old new at.lane at.moment 4 (Some (report_reply report)) answer
EntersPass d old new at (Err stop) answer = Settles d old new at.lane at.moment (told (Err stop)) answer

-- between the beginning of the act and its entry parts, upkeep and collector change alone
pub record KeepsOthers {D E C : Type 0} (mid acted : Core D E C) : Type 0 where
  pub journal : acted.journal ≡ mid.journal
  pub clock : acted.clock ≡ mid.clock
  pub fault : acted.fault ≡ mid.fault
  pub remote : acted.remote ≡ mid.remote
  pub last : acted.last ≡ mid.last

-- it was done on the core as it was begun
pub record HasPassed {D E C : Type 0} (d : Ghosts D) (readings : C → Option Readings) (old new : Core D E C) (lane : ℕ) (answer : Answer) : Type 0 where
  pub mid : Core D E C
  pub acted : Core D E C
  pub at : Place
  pub result : Outcome
  pub admitted : IsAdmitted readings old mid lane at
  pub filled : (3 ≤ held_by mid.journal lane) × (0 < (mid.journal).spare)
  pub others : KeepsOthers mid acted
  pub passes : PassDoes d mid.parts acted.parts mid.upkeep acted.upkeep mid.collector acted.collector at result
  pub enters : EntersPass d acted new at result answer
  pub text : IfSome answer.reply ReplyHasText

pub data GoesOn {D E C : Type 0} (d : Ghosts D) (readings : C → Option Readings) (old new : Core D E C) (lane : ℕ) (answer : Answer) : Type 0 where
  not_begun : Refuses d readings old new lane answer → AdmittedHasText (Answered answer) → GoesOn d readings old new lane answer
  has_passed : HasPassed d readings old new lane answer → GoesOn d readings old new lane answer

-- The end of a collector that was ended early, or the next act of one that goes on.
pub record TakesNext {D E C : Type 0} (d : Ghosts D) (readings : C → Option Readings) (old new : Core D E C) (lane : ℕ) (answer : Answer) : Type 0 where
  pub ends : is_cut lane old.collector ≡ true → TellsEarly d readings old new lane answer × IfSome answer.reply ReplyHasText
  pub goes : is_cut lane old.collector ≡ false → GoesOn d readings old new lane answer

-- ---- what is told

-- the lane's collector is not open: it is refused, memory was wanting, or the disk failed before
abbrev pub IsAlone : Option ℕ → ℕ → Type 0
IsAlone fault kind = (kind ≡ COMMAND_KIND) ⊎ ((kind ≡ MEMORY_KIND) ⊎ ((kind ≡ FAULT_KIND) × IsSome fault))

-- What it answers by what the core keeps, on any disk.
pub record StepTells {D E C : Type 0} (d : Ghosts D) (old new : Core D E C) (lane : ℕ) (answer : Answer) : Type 0 where
  -- it is refused with the lane's session, where the lane's collector is not open
  pub refused : (answer.entry).kind ≡ COMMAND_KIND → (is_on lane old.collector ≡ false) × (answer.reply ≡ Some (replies.Refused (WrongState (state_of (session_at old.parts lane)))))
  -- and there it is no mark, no visit and no end, whatever another lane's does
  pub open_alone : is_on lane old.collector ≡ false → IsAlone old.fault (answer.entry).kind
  -- a mark or a visit is the next by the collector's own plan
  pub passes : is_cut lane old.collector ≡ false → (answer.entry).kind ≡ PART_KIND
      → IsSomeAnd old.collector (λ c. IsSomeAnd new.collector (λ e. CorePasses d old new c e (answer.entry).moment))
  -- and so is what the disk may have lost or kept where it failed in this act
  pub failed : is_cut lane old.collector ≡ false → (answer.entry).kind ≡ FAULT_KIND → old.fault ≡ None
      → IsSomeAnd old.collector (λ c. CoreFails d old new c (answer.entry).moment)
  -- the end of a collector replies what ended it early, or comes where all was visited and replies its report
  pub ends : is_cut lane old.collector ≡ true → (answer.entry).kind ≡ STOP_KIND → IsSomeAnd (early_in old.collector) (λ early. answer.reply ≡ Some (replies.Refused (refusal_of early)))
  pub reports : is_cut lane old.collector ≡ false → (answer.entry).kind ≡ STOP_KIND
      → IsSomeAnd old.collector (λ c. EndsWhole (old.upkeep).book c answer.reply)
  -- what such an end saved is a book
  pub fits : is_cut lane old.collector ≡ false → (answer.entry).kind ≡ STOP_KIND → NoneAfter (old.upkeep).book old.last → FitsBook (as_of (answer.entry).moment (old.upkeep).book)
  -- An honest disk's index that does not decode ends it early as it comes to be marked, so does a page of its next entries that is not as it was
  -- opened, and nothing else does so in a mark or a visit.
  pub unread : is_cut lane old.collector ≡ false → (answer.entry).kind ≡ PART_KIND → d.honest (old.parts).disk
      → IsSomeAnd old.collector (λ c. path_ended new.collector ≡ next_unreadable (d.content (old.parts).disk) (old.parts).catalogue.listed c)
  -- a mark of an index whose pages are at hand reads two pages at most
  pub calls : is_cut lane old.collector ≡ false → (answer.entry).kind ≡ PART_KIND → IsSomeAnd old.collector (OpenCalls d old.parts new.parts)
