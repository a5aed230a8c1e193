-- What a core behind the turn stands for, on any disk.
use Rattle.disk_trait.specs.declared.disk.Disk.{Ghosts}
use Rattle.disk_trait.specs.Disk.{Rose}
use Rattle.std.specs.Prelude.{ℕ, ◌≡◌, ◌≤◌, ◌<◌, ◌^◌, ◌↔◌, false, List, [], ◌∷◌, ◌++◌, length, map, Option, None, Some, IsSome}
use Rattle.port_traits.specs.declared.clock.Clock as clocks
use Rattle.turn_lock.specs.State.{SeatState, TableId}
use Rattle.store_history.specs.declared.act.Event.{Event}
use Rattle.store_history.specs.History.{entries}
use Rattle.core_state.specs.declared.state.Core.{Core}
use Rattle.core_state.specs.Entering.{SameEntries}
use Rattle.core_state.specs.History.{History}
use Rattle.listing_views.specs.declared.listed.Listed.{Listed}
use Rattle.listing_views.specs.Rows.{rows_behind}
use Rattle.store_types.specs.declared.names.SnapshotKey.{SnapshotKey}
use Rattle.core_admin.specs.Listings.{rows_behind as listed_behind}
use Rattle.shared_store.specs.Applied.{HasApplied}
use Rattle.shared_store.specs.Views.{AreQuiet, list_row, rows_of}
use Rattle.core_state.specs.Records.{Reaches, Records}
use Rattle.store_history.specs.Answered.{AreKept}

-- the seat is of this turn, and does not have it
abbrev pub CanAct : TableId → SeatState Event → Type 0
CanAct turn seat = (seat.turn ≡ turn) × (seat.holding ≡ false)

abbrev pub with_events : History → List Event → History
with_events h events = record h { events = events }

-- the disk's count of calls as the last of these events was answered, or where there is none this one
abbrev pub last_calls : ℕ → List Event → ℕ
last_calls calls [] = calls
last_calls calls (v ∷ vs) = last_calls v.calls vs

-- but for entries that are to be had without memory
pub record SameCore {D E C : Type 0} (old new : Core D E C) : Type 0 where
  pub parts : new.parts ≡ old.parts
  pub remote : new.remote ≡ old.remote
  pub clock : new.clock ≡ old.clock
  pub entries : SameEntries old.journal new.journal
  pub upkeep : new.upkeep ≡ old.upkeep
  pub collector : new.collector ≡ old.collector
  pub last : new.last ≡ old.last
  pub fault : new.fault ≡ old.fault

-- The event's act was done, once there was room for its entry. Its number is the disk's count of calls then.
pub record WasDone {D E C : Type 0} (d : Ghosts D) (e : Ghosts E) (clock : clocks.Ghosts C) (old : Core D E C) (v : Event) (new : Core D E C) : Type 0 where
  pub found : Core D E C
  pub room : SameCore old found
  pub lane : ℕ
  pub applied : HasApplied d e clock found new lane v.act v.answer
  pub calls_are : v.calls ≡ d.calls (new.parts).disk

-- The acts of these events were done, one after another, and nothing else.
abbrev pub WereDone : {D E C : Type 0} → Ghosts D → Ghosts E → clocks.Ghosts C → Core D E C → List Event → Core D E C → Type 0
WereDone {D} {E} {C} d e clock old [] new = SameCore old new
WereDone {D} {E} {C} d e clock old (v ∷ vs) new = (next : Core D E C) × WasDone d e clock old v next × WereDone d e clock next vs new

-- From a first core, which recorded a history without events, the core came to these events. Whatever history without events the first core
-- recorded, the core reaches that one with these events: it records it, and stands for it where the first core stood for its own. The
-- disk has failed only where its count of faults rose, is honest where it was, and was called by these events alone.
pub record ComesTo {D E C : Type 0} (d : Ghosts D) (e : Ghosts E) (clock : clocks.Ghosts C) (is_first : Core D E C → Type 0) (core : Core D E C) (events : List Event) : Type 0 where
  pub first : Core D E C
  pub is : is_first first
  pub began : History
  pub recorded : Records clock.readings first began
  pub none : began.events ≡ []
  pub short : length events < 2 ^ 63
  pub entries_are : (core.journal).entries.items ≡ entries events
  pub reaches : (h : History) → Records clock.readings first h → h.events ≡ [] → Reaches d e clock.readings first h core (with_events h events)
  pub kept : d.honest (first.parts).disk ↔ d.honest (core.parts).disk
  pub count : d.faults (first.parts).disk ≤ d.faults (core.parts).disk
  pub fault : IsSome core.fault → Rose (d.faults (first.parts).disk) (d.faults (core.parts).disk)
  -- act by act, from one core to the next
  pub done : WereDone d e clock first events core
  pub at_rest : d.calls (core.parts).disk ≡ last_calls (d.calls (first.parts).disk) events

-- some core came to these events
abbrev pub HasCome : {D E C : Type 0} → Ghosts D → Ghosts E → clocks.Ghosts C → (Core D E C → Type 0) → List Event → Type 0
HasCome {D} {E} {C} d e clock is_first events = (core : Core D E C) × ComesTo d e clock is_first core events

-- what a view may show after these events: the rows of a core that came to them
pub record CameTo {D E C : Type 0} (d : Ghosts D) (e : Ghosts E) (clock : clocks.Ghosts C) (is_first : Core D E C → Type 0) (events : List Event) (rows : List Listed) : Type 0 where
  pub core : Core D E C
  pub comes : ComesTo d e clock is_first core events
  pub rows_are : rows ≡ rows_of (core.parts).catalogue.listed

-- The core came to these events. What is shown after the first of them are its rows, and no event behind these changed the listing.
pub record StandsFor {D E C : Type 0} (d : Ghosts D) (e : Ghosts E) (clock : clocks.Ghosts C) (is_first : Core D E C → Type 0) (core : Core D E C) (posted : Option (List Event × List Listed)) (events : List Event) : Type 0 where
  pub comes : ComesTo d e clock is_first core events
  pub shown : List Event
  pub rest : List Event
  pub whole : shown ++ rest ≡ events
  pub quiet : AreQuiet rest
  pub posted_is : posted ≡ Some (shown, rows_of (core.parts).catalogue.listed)

-- a first core, which recorded some history without events
pub record IsFresh {D E C : Type 0} (clock : clocks.Ghosts C) (core : Core D E C) : Type 0 where
  pub began : History
  pub recorded : Records clock.readings core began
  pub none : began.events ≡ []

-- Each of these events has its place, a kind that it may have, and an answer that fits it, from some last moment on.
abbrev pub AreAnswered : List Event → Type 0
AreAnswered events = (since : ℕ) × AreKept 0 None since events

-- the first 1,024 rows behind a key, of a core that came to these events: those that LIST tells
pub record ShowsBehind {D E C : Type 0} (d : Ghosts D) (e : Ghosts E) (clock : clocks.Ghosts C) (is_first : Core D E C → Type 0) (after : Option SnapshotKey) (events : List Event) (told : List Listed) : Type 0 where
  pub core : Core D E C
  pub comes : ComesTo d e clock is_first core events
  pub told_is : told ≡ rows_behind after (rows_of (core.parts).catalogue.listed)
  pub as_list : map list_row told ≡ listed_behind after (core.parts).catalogue.listed
