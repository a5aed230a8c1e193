-- Sessions on a core that came of an opened one: the history that it came to, and what was entered.
use Rattle.disk_trait.specs.declared.disk.Disk.{Ghosts}
use Rattle.disk_trait.specs.declared.disk.DiskError.{DiskError}
use Rattle.disk_trait.specs.Disk.{Rose}
use Rattle.std.proofs.Common.{◌≡◌, ◌≤◌, ◌<◌, ◌+◌, ℕ, Bool, true, false, List, [], ◌∷◌, map, length, Option, None, Some, IsSome, refl, sym, ap, subst, ◌∙◌, arith, ◌↔◌}
use Rattle.std.specs.Prelude.{is_some}
use Rattle.std.specs.List.{All, last_or}
use Rattle.std.proofs.lemmas.List.{length-map}
use Rattle.std.proofs.lemmas.List.Elements.{All-nil, All-cons}
use Rattle.port_traits.specs.declared.clock.Clock as clocks
use Rattle.port_traits.specs.declared.source.Source as sources
use Rattle.port_traits.specs.declared.sink.Sink as sinks
use Rattle.store_types.specs.declared.order.Entry.{Entry}
use Rattle.store_history.specs.declared.act.Event.{Event}
use Rattle.store_history.specs.History.{Opening, entry, entries, kind, moment}
use Rattle.store_history.specs.Legal.{moment_after}
use Rattle.store_history.specs.Woven.{AreLanes}
use Rattle.core_state.specs.declared.state.Core.{Core}
use Rattle.store_history.specs.Answered.{fault_after, AreKept}
use Rattle.core_state.specs.History.{History, began}
use Rattle.core_state.specs.Records.{Reaches, Records}
use Rattle.store_history.specs.RemoteDisk.{failed_reads, faults_of}
use Rattle.core_state.specs.Upkeeps.{touches_kept}
use Rattle.core_opening.specs.Opening.{HasBook, RecordsOpened}
use Rattle.seat_history.specs.Lanes.{LastsAreWants}
use Rattle.shared_store.specs.Comes.{IsFresh, WereDone, with_events, last_calls}
use Rattle.store_history.specs.declared.port.LaneReport.{LaneReport}
use Rattle.store_history.specs.declared.port.Port.{Port}
use Rattle.lane.specs.Entries.{has_kind}
use Rattle.lane.proofs.Caused.{rose_later}
use Rattle.lane.specs.Together.{RanTogether}
use Rattle.pbs_server.specs.declared.status.Status.TheVariants as statuses
use Rattle.pbs_server.specs.AtRest.{ActsLeave, SaveLeaves}
use Rattle.pbs_server.specs.Causes.{IsOrder}
use Rattle.pbs_server.specs.Saving.{EndsSaved}
use Rattle.pbs_server.specs.Statuses.{endings_of, some_tells}
use Rattle.pbs_server.proofs.ActByAct.{all_done}
use Rattle.pbs_server.proofs.BookSaved.{five_fails, no_five, save_leaves}
use Rattle.pbs_server.proofs.Lanes.{wants_entered}

-- ---- the core that was opened

pub opened_fresh : {D E C : Type 0} (clock : clocks.Ghosts C) (at : C) (core : Core D E C) → RecordsOpened clock.readings at core → IsFresh clock core
opened_fresh clock at core opened =
    let o : Opening = record { snapshots = []; moment = core.last; touches = []; calls = 0; chunks = [] } in
    record { began = began o None (clock.readings at); recorded = opened o None refl; none = refl }

-- ---- what is entered

abbrev IsBelow : ℕ → Entry → Type 0
IsBelow n x = x.lane < n

lanes_below : (n : ℕ) (es : List Event) → AreLanes n es → All (λ x. x.lane < n) (entries es)
lanes_below n [] are = All-nil (IsBelow n)
lanes_below n (v ∷ vs) are = All-cons (IsBelow n) (entry v) (entries vs) are.0 (lanes_below n vs are.1)

lasts_are : (place : ℕ) (fault : Option ℕ) (before : ℕ) (es : List Event) → AreKept place fault before es → LastsAreWants es
lasts_are place fault before [] kept = tt
lasts_are place fault before (v ∷ vs) kept = ((kept.0).last, lasts_are (place + 1) (fault_after place (kind v) fault) (moment v) vs kept.1)

-- the last of the numbers beside the entries
last_called : (calls : ℕ) (es : List Event) → last_or (Some calls) (map (λ e. e.calls) es) ≡ Some (last_calls calls es)
last_called calls [] = refl
last_called calls (v ∷ vs) = last_called v.calls vs

-- a count that rose before is risen still
rose_still : (a b c : ℕ) → Rose a b → b ≤ c → Rose a c
rose_still a b c rose le = omega (arith, rose, le)

-- ---- from the first core

module _ {D E C S K : Type 0} (d : Ghosts D) (e : Ghosts E) (clock : clocks.Ghosts C) (source : sources.Ghosts S) (sink : sinks.Ghosts K) (first core : Core D E C) (old new : List (Port S K)) (reports : List LaneReport)
    (x : RanTogether d e clock source sink (λ c. c ≡ first) old new core reports) (h : History) (begun : Records clock.readings first h) (none : h.events ≡ []) where
  -- as it is told of the core by the history that it kept
  pub reached : Reaches d e clock.readings first h core (with_events h x.events)
  reached =
      let comes = x.comes in
      subst (λ c. Reaches d e clock.readings c h core (with_events h x.events)) comes.is
      (comes.reaches h (subst (λ c. Records clock.readings c h) (sym comes.is) begun) none)

  no_entries : (first.journal).entries.items ≡ []
  no_entries = begun.entries ∙ ap entries none

  -- the disk is as honest
  pub kept : d.honest (first.parts).disk ↔ d.honest (core.parts).disk
  kept = subst (λ (c : Core D E C). d.honest (c.parts).disk ↔ d.honest (core.parts).disk) (x.comes).is (x.comes).kept

  -- the disk's count of faults never falls, and an entry of kind 5 comes only where it rose
  pub count : d.faults (first.parts).disk ≤ d.faults (core.parts).disk
  count = subst (λ (c : Core D E C). d.faults (c.parts).disk ≤ d.faults (core.parts).disk) (x.comes).is (x.comes).count

  told : {order : List Entry} {b : Bool} → order ≡ (core.journal).entries.items → has_kind 5 order ≡ b → has_kind 5 (entries x.events) ≡ b
  told entries_are five = sym (ap (has_kind 5) (entries_are ∙ (reached.records).entries)) ∙ five

  fails : has_kind 5 (entries x.events) ≡ true → Rose (d.faults (first.parts).disk) (d.faults (core.parts).disk)
  fails five =
      subst (λ (c : Core D E C). Rose (d.faults (c.parts).disk) (d.faults (core.parts).disk)) (x.comes).is
      ((x.comes).fault (subst (λ (o : Option ℕ). IsSome o) (sym (reached.records).fault) (five_fails 0 None x.events five)))

  -- as the last act was answered, each act has done what it does to the disk
  pub rests : (order : List Entry) (calls : List ℕ) → order ≡ (core.journal).entries.items → calls ≡ (core.journal).calls.items
      → first.fault ≡ None → (d.honest (first.parts).disk → HasBook d first)
      → ActsLeave d (first.parts).disk x.events order calls (core.parts).disk (touches_kept core.upkeep)
  rests order calls entries_are calls_are unfailed booked = record {
    before = touches_kept first.upkeep;
    book = λ honest. (first.upkeep, booked honest, refl);
    each = all_done d e clock first core x.events false (sym (ap is_some unfailed))
        (subst (λ (c : Core D E C). WereDone d e clock c x.events core) (x.comes).is (x.comes).done);
    calls_are =
        ap (last_or (Some (d.calls (first.parts).disk))) (calls_are ∙ (reached.records).calls)
        ∙ last_called (d.calls (first.parts).disk) x.events
        ∙ sym (ap (λ n. Some n) ((x.comes).at_rest ∙ ap (λ (c : Core D E C). last_calls (d.calls (c.parts).disk) x.events) (x.comes).is));
    serves = record { kept = kept; count = count; cause = λ five. fails (told entries_are five) };
  }

  -- and then the book was saved
  pub saves : (saved : Core D E C) (order : List Entry) (not_saved : Option DiskError) → order ≡ (core.journal).entries.items → EndsSaved d core saved not_saved
      → SaveLeaves d order not_saved (moment_after (h.opening).moment x.events) (touches_kept core.upkeep) (core.parts).disk (saved.parts).disk
  saves saved order not_saved entries_are ends =
      let r = reached.records in
      save_leaves d core saved order not_saved ends
      (λ five. subst (λ (o : Option ℕ). IsSome o) (sym r.fault) (five_fails 0 None x.events (told entries_are five)))
      (λ none. r.fault ∙ no_five 0 x.events (told entries_are none))
      r.early (moment_after (h.opening).moment x.events) r.last

  -- where a lane ended by want of memory, the order has an entry of it
  pub memory : some_tells statuses.NoMemory (endings_of reports) ≡ true → has_kind 2 (entries x.events) ≡ true
  memory = wants_entered source sink 0 old new reports x.runs x.events x.each (lasts_are 0 None (h.opening).moment x.events (reached.records).kept)

  -- What was entered from the first entry on is the order. Before it the disk was opened, and after it the book was saved.
  pub order_is : (last : D) (order : List Entry) (calls : List ℕ) (disk disk' : D) (remote remote' : Option E)
      → first.remote ≡ remote → remote' ≡ core.remote → order ≡ (core.journal).entries.items → calls ≡ (core.journal).calls.items
      → d.faults disk ≤ d.faults (first.parts).disk → d.faults (core.parts).disk ≤ d.faults last → disk' ≡ last
      → IsOrder (length old) order calls (d.faults disk) (d.faults disk') (faults_of e remote) (faults_of e remote')
  order_is last order calls disk disk' remote remote' handed back entries_are calls_are later saved disk_after = record {
    lanes = subst (λ es. All (λ e. e.lane < length old) es) (sym all) (lanes_below (length old) x.events x.lanes);
    beside = ap length calls_are ∙ ap length (reached.records).calls ∙ length-map x.events (λ (v : Event). v.calls) ∙ sym (length-map x.events entry) ∙ ap length (sym all);
    faults = λ five. subst (λ n. Rose (d.faults disk) n) (sym (ap d.faults disk_after))
        (rose_still (d.faults disk) (d.faults (core.parts).disk) (d.faults last)
        (rose_later (d.faults disk) (d.faults (first.parts).disk) (d.faults (core.parts).disk) later (fails (sym (ap (has_kind 5) all) ∙ five))) saved);
    reads = λ lt.
        let as_first : faults_of e first.remote ≡ faults_of e remote = ap (faults_of e) handed in
        let last_is : faults_of e remote' ≡ faults_of e core.remote = ap (faults_of e) back in
        let few = (reached.remote).failed (omega (arith, lt, last_is)) in
        let before : failed_reads (first.journal).entries.items ≡ 0 = ap failed_reads no_entries in
        let behind : failed_reads order ≡ failed_reads (core.journal).entries.items = ap failed_reads entries_are in
        omega (arith, as_first, last_is, few, before, behind);
  }
    where
      all : order ≡ entries x.events
      all = entries_are ∙ (reached.records).entries
