-- The start of a collector, entered: what it leaves of the core, and that the collector shows the history's sweep.
use Rattle.disk_trait.specs.declared.disk.Disk.{Ghosts}
use Rattle.std.proofs.Common.{◌≡◌, ◌<◌, ◌≤◌, ◌↔◌, ◌++◌, ℕ, max, Bool, true, false, cond, is_some, length, List, [], ◌∷◌, option_map, Option, Some, None, IsSome, IsSomeAnd, Result, Ok, Err, refl, sym, ap, subst, ◌∙◌, arith}
use Rattle.std.specs.FinMap.{get}
use Rattle.port_traits.specs.declared.clock.Clock as clocks
use Rattle.store_types.specs.Chain.Refusing.{◌>>=◌, if_none}
use Rattle.store_types.specs.declared.refusal.Refusal.{Refusal}
use Rattle.store_types.specs.declared.refusal.Refusal.TheVariants as refusals
use Rattle.store_types.specs.declared.refusal.Refusal.TheVariants.{CollectorBusy, DiskFault, Unreadable}
use Rattle.store_types.specs.declared.refusal.SessionState.TheVariants as states
use Rattle.store_types.specs.declared.order.TheConstants.{COMMAND_KIND, MEMORY_KIND, START_KIND, FAULT_KIND}
use Rattle.store_files.specs.Archive.{Snapshot}
use Rattle.store_files.specs.Folder.{IsDigest, chunk_name}
use Rattle.store_model.specs.Store.{Store}
use Rattle.wire_commands.specs.declared.reply.Reply.TheVariants as replies
use Rattle.disk_trait.specs.declared.disk.DiskError.TheVariants as disks
use Rattle.store_history.specs.declared.act.Act.TheVariants.{Start}
use Rattle.store_history.specs.declared.act.Answer.{Answer}
use Rattle.store_history.specs.declared.act.Event.{Event}
use Rattle.store_history.specs.Acts.{class_of, sweeping}
use Rattle.store_history.specs.History.{World, after, kind_of, lane as lane_of, moment, moved, opened}
use Rattle.store_history.specs.Legal.{may_open}
use Rattle.store_history.specs.LastTouches.{LastTouches, SameTouches, touches_by_entry}
use Rattle.store_history.specs.Sweeping.{Swept, new_sweep, swept_after, swept_at, swept_by, while_open}
use Rattle.store_history.proofs.SweptLonger.{is_swept_longer, swept_longer}
use Rattle.core_state.specs.Found.{first_unreadable}
use Rattle.core_state.specs.declared.collector.Collector.{Collector}
use Rattle.core_state.specs.declared.entering.Admitted.TheVariants.{At}
use Rattle.core_state.specs.declared.entering.Place.{Place}
use Rattle.core_state.specs.declared.kept.Listed.{Listed}
use Rattle.core_state.specs.declared.kept.Session.{Session}
use Rattle.core_state.specs.declared.kept.Session.TheVariants.{Idle, Reader, Writer}
use Rattle.core_state.specs.declared.parts.Parts.{Parts}
use Rattle.core_state.specs.declared.state.Core.{Core}
use Rattle.store_stops.specs.declared.stop.Stop.{Stop}
use Rattle.store_stops.specs.declared.stop.Stop.TheVariants as stops
use Rattle.core_state.specs.Applies.{ActApplies, ActKeeps}
use Rattle.core_state.specs.Begins.{FillsUp, IsAdmitted, Refuses, halted, short}
use Rattle.core_state.specs.Closing.{closes_by}
use Rattle.core_state.specs.Collectors.{collector_by}
use Rattle.core_state.specs.Entering.{held_by}
use Rattle.core_state.specs.History.{History, StandsFor, event_of, then_event, world}
use Rattle.core_state.specs.KeepsTouches.{KeepsTouches, swept_of, touches_of_history}
use Rattle.core_state.specs.Numbers.{AreNumbered}
use Rattle.store_history.specs.Replies.{refuses_start}
use Rattle.core_state.specs.Settles.{IsEntered, Settles}
use Rattle.core_state.specs.Stops.{told}
use Rattle.snapshot_files.specs.Reads.{StopHasText}
use Rattle.core_state.specs.Sweeps.{ShowsOpen, ShowsSweep}
use Rattle.core_state.specs.Upkeeps.{touches_kept}
use Rattle.core_state.specs.Heads.{idle_in}
use Rattle.core_state.specs.Kept.{KeptAt, kept_at}
use Rattle.core_state.specs.Wanted.{session_at}
use Rattle.core_state.proofs.HeadLemmas.{idle_in_refuses, refuses_some, refuses_then}
use Rattle.core_state.proofs.Entered.{world_more}
use Rattle.core_state.proofs.Recorded.{numbers_more}
use Rattle.core_state.proofs.Started.{start_short_stands, start_told_stands}
use Rattle.core_state.proofs.Starts.{start_opened_applies, start_opened_keeps, start_settled_applies, start_settled_keeps}
use Rattle.core_state.proofs.Touching.{entry_touches_same, same_back, same_then}
use Rattle.core_state.proofs.Unswept.{fits_other, unswept_touches}
use Rattle.core_collect.specs.Starting.{GivesCollector, IsNewCollector, StartTells, start_told}
use Rattle.core_collect.proofs.StartLemmas.{started_shows}
use Rattle.core_collect.proofs.StartRefused.{start_told_is}

no_sweep : class_of Start ≡ sweeping → ⊥
no_sweep e = cc

-- ---- one event more

opened_sweep : (R : Option (List Snapshot)) (w : World) (s : Swept) (answer : Answer) (calls : ℕ) → (answer.entry).kind ≡ START_KIND
    → (swept_after R w s (event_of Start answer calls)).sweep ≡ Some (new_sweep w.store (answer.entry).moment)
unfolding swept_after after moved
opened_sweep R w s answer calls is =
    let e = event_of Start answer calls in
    ap (λ n. while_open (moved R w (lane_of e) (moment e) Start (kind_of n)).collecting (swept_by w s e (class_of Start) (kind_of n))) is

opened_store : (R : Option (List Snapshot)) (w : World) (answer : Answer) (calls : ℕ) → (answer.entry).kind ≡ START_KIND → (after R w (event_of Start answer calls)).store ≡ w.store
unfolding after moved
opened_store R w answer calls is =
    let e = event_of Start answer calls in
    ap (λ n. (moved R w (lane_of e) (moment e) Start (kind_of n)).store) is

dated_one : (b : Bool) (when : ℕ) (last : Option ℕ) → is_some (cond b (option_map (λ last. max last when) last) last) ≡ is_some last
dated_one true when None = refl
dated_one true when (Some m) = refl
dated_one false when last = refl

-- ---- it opens

-- the core's book and plan are those of the history with the start more
module _ {D E C : Type 0} (d : Ghosts D) (clock : clocks.Ghosts C) (old new : Core D E C) (k : ℕ) (c : Collector) (answer : Answer) (keeps : ActKeeps d old new k Start answer)
    (kind_is : (answer.entry).kind ≡ START_KIND) (place : answer.place ≡ length (old.journal).entries.items) (entered : (new.journal).entries.items ≡ (old.journal).entries.items ++ answer.entry ∷ [])
    (parts : new.parts ≡ old.parts) (fault : new.fault ≡ old.fault) (collector : new.collector ≡ Some c) (is_new : IsNewCollector old.parts k (answer.entry).moment c)
    (h : History) (s : StandsFor d clock.readings old h) (touches : KeepsTouches d old h) where
  abbrev e : Event
  e = event_of Start answer (d.calls (new.parts).disk)

  abbrev then_h : History
  then_h = then_event h e

  abbrev plain : LastTouches
  plain = touches_by_entry Start answer.reply (answer.entry).moment (touches_of_history h)

  longer : swept_of then_h ≡ swept_after h.remote (world h) (swept_of h) e
  longer = swept_longer h.remote h.opening h.events e

  unswept : SameTouches (swept_after h.remote (world h) (swept_of h) e).touches plain
  unswept = unswept_touches h.remote (world h) (swept_of h) e no_sweep

  after_is : SameTouches plain (touches_of_history then_h)
  after_is = subst (SameTouches plain) (sym (ap (λ (w : Swept). w.touches) longer)) (same_back (swept_after h.remote (world h) (swept_of h) e).touches plain unswept)

  touched : SameTouches (touches_kept new.upkeep) plain
  touched = same_then (touches_kept new.upkeep) (touches_by_entry Start answer.reply (answer.entry).moment (touches_kept old.upkeep)) plain (keeps.upkeep refl)
      (entry_touches_same Start answer.reply (answer.entry).moment (touches_kept old.upkeep) (touches_of_history h) touches.touches)

  numbers : AreNumbered (length (new.journal).entries.items) (new.parts).catalogue.listed
  numbers = numbers_more old new k Start answer place entered keeps.listed touches.numbers

  catalogue : (new.parts).catalogue.listed ≡ (old.parts).catalogue.listed
  catalogue = ap (λ p. p.catalogue.listed) parts

  snapshots : ((world then_h).store).snapshots ≡ ((world h).store).snapshots
  snapshots = ap (λ (w : World). (w.store).snapshots) (world_more h e) ∙ ap (λ (x : Store). x.snapshots) (opened_store h.remote (world h) answer (d.calls (new.parts).disk) kind_is)

  sweep : (swept_of then_h).sweep ≡ Some (new_sweep (world h).store (answer.entry).moment)
  sweep = ap (λ (w : Swept). w.sweep) longer ∙ opened_sweep h.remote (world h) (swept_of h) answer (d.calls (new.parts).disk) kind_is

  shown : ShowsSweep (length (new.journal).entries.items) (old.parts).catalogue.listed ((world h).store).snapshots c (new_sweep (world h).store (answer.entry).moment)
  shown = started_shows old.parts (world h).store (length (new.journal).entries.items) k (answer.entry).moment c s.shows
      (subst (AreNumbered (length (new.journal).entries.items)) catalogue numbers) is_new

  shows_open : ShowsOpen (length (new.journal).entries.items) (new.parts).catalogue.listed ((world then_h).store).snapshots new.collector (swept_of then_h).sweep
  shows_open =
      subst (λ o. ShowsOpen (length (new.journal).entries.items) (new.parts).catalogue.listed ((world then_h).store).snapshots o (swept_of then_h).sweep) (sym collector)
      (subst (λ o. IsSomeAnd o (ShowsSweep (length (new.journal).entries.items) (new.parts).catalogue.listed ((world then_h).store).snapshots c)) (sym sweep)
      (subst (λ q. ShowsSweep (length (new.journal).entries.items) q ((world then_h).store).snapshots c (new_sweep (world h).store (answer.entry).moment)) (sym catalogue)
      (subst (λ ss. ShowsSweep (length (new.journal).entries.items) (old.parts).catalogue.listed ss c (new_sweep (world h).store (answer.entry).moment)) (sym snapshots) shown)))

  there : (x : List ℕ) → is_some ((touches_of_history then_h).last x) ≡ is_some ((touches_of_history h).last x)
  there x = sym (ap is_some (after_is.last x)) ∙ dated_one ((touches_of_history h).undated x) (answer.entry).moment ((touches_of_history h).last x)

  present : new.fault ≡ None → (x : List ℕ) → IsDigest x → IsSome (get (d.content (new.parts).disk) (chunk_name x)) ↔ IsSome ((touches_of_history then_h).last x)
  present none x digest =
      subst (λ (p : Parts D). IsSome (get (d.content p.disk) (chunk_name x)) ↔ IsSome ((touches_of_history then_h).last x)) (sym parts)
      (subst (λ b. IsSome (get (d.content (old.parts).disk) (chunk_name x)) ↔ (b ≡ true)) (sym (there x)) (touches.present (sym fault ∙ none) x digest))

  pub opened_touches : KeepsTouches d new then_h
  opened_touches = record {
    touches = same_then (touches_kept new.upkeep) plain (touches_of_history then_h) touched after_is;
    present = present;
    sweep = shows_open;
    is_swept = is_swept_longer h.remote (opened h.opening) (swept_at h.opening) h.events e touches.is_swept
        (fits_other (world h) (swept_of h) (lane_of e) answer.reply (class_of Start) (kind_of (answer.entry).kind) no_sweep);
    numbers = numbers;
  }

-- ---- what refuses it

start_refusal : (c : Option Collector) (k : KeptAt) (refusal : Refusal) → start_told c k ≡ Err refusal → refuses_start refusal ≡ true
unfolding start_told
start_refusal c k refusal is =
    refuses_then IsIts (idle_in k) _ (idle_in_refuses IsIts k (λ state. refl))
    (λ u. refuses_then IsIts (if_none (λ (y : Collector). CollectorBusy y.lane) c) _ (refuses_some IsIts (λ (y : Collector). CollectorBusy y.lane) c (λ y. refl))
    (λ u. refuses_some IsIts Unreadable (first_unreadable k.catalogue) (λ name. refl))) refusal is
  where
    IsIts : Refusal → Type 0
    IsIts r = refuses_start r ≡ true

no_fault : (refusal : Refusal) → refuses_start refusal ≡ true → refusal ≡ DiskFault → ⊥
no_fault refusal refuses is = false_true (sym (ap refuses_start is) ∙ refuses)
  where
    false_true : false ≡ true → ⊥
    false_true e = cc

closes_none : (fault : Option ℕ) (x : Session) → closes_by fault Start x ≡ false
closes_none None x = refl
closes_none (Some first) x = refl

memory_apart : refusals.NoMemory ≡ DiskFault → ⊥
memory_apart e = cc

-- ---- refused before it is done

pub refused_tells : {D E C : Type 0} (d : Ghosts D) (clock : clocks.Ghosts C) (old new : Core D E C) (k : ℕ) (answer : Answer) → Refuses d clock.readings old new k answer → StartTells old new k answer
refused_tells d clock old new k answer (short is) =
    let kind_is : (answer.entry).kind ≡ MEMORY_KIND = ap (λ x. x.kind) (is.entered).entry in record {
      refused = λ zero. absurd (omega (arith, kind_is, zero));
      opens = λ three. absurd (omega (arith, kind_is, three));
      others = λ _. (is.entered).collector ∙ ap (collector_by 2 k) (is.begun).collector ∙ ap (λ n. collector_by n k old.collector) (sym kind_is);
    }
refused_tells d clock old new k answer (halted is) =
    let kind_is : (answer.entry).kind ≡ FAULT_KIND = ap (λ x. x.kind) (is.entered).entry in record {
      refused = λ zero. absurd (omega (arith, kind_is, zero));
      opens = λ three. absurd (omega (arith, kind_is, three));
      others = λ _. (is.entered).collector ∙ ap (collector_by 5 k) (is.begun).collector ∙ ap (λ n. collector_by n k old.collector) (sym kind_is);
    }

-- ---- it was begun

module _ {D E C : Type 0} (d : Ghosts D) (clock : clocks.Ghosts C) (old mid new : Core D E C) (k : ℕ) (at : Place) (answer : Answer) (lt : k < 64)
    (admitted : IsAdmitted clock.readings old mid k at) (fills : FillsUp old mid k Start (At at)) where
  filled : (3 ≤ held_by mid.journal k) × (0 < (mid.journal).spare)
  filled = fills (closes_none old.fault (session_at old.parts k))

  parts : mid.parts ≡ old.parts
  parts = ((admitted.ready).begun).parts

  collector : mid.collector ≡ old.collector
  collector = ((admitted.ready).begun).collector

  -- what its tests tell, by the core as it was before
  told_old : start_told mid.collector (kept_at mid.parts at.lane) ≡ start_told old.collector (kept_at old.parts k)
  told_old =
      ap (λ (c : Option Collector). start_told c (kept_at mid.parts at.lane)) collector
      ∙ ap (λ (p : Parts D). start_told old.collector (kept_at p at.lane)) parts
      ∙ ap (λ n. start_told old.collector (kept_at old.parts n)) admitted.lane_is

  may_be : (h : History) → StandsFor d clock.readings old h → start_told old.collector (kept_at old.parts k) ≡ may_open (world h) k
  may_be h s = start_told_is old.parts (world h) k old.collector s.shows s.collecting lt

  module _ (c : Collector) (gives : GivesCollector mid.parts mid.collector at (Ok c)) (enters : IsEntered d (record mid { collector = Some c }) new at.lane at.moment 3 None answer) where
    entered : IsEntered d (record mid { collector = Some c }) new k at.moment 3 None answer
    entered = subst (λ n. IsEntered d (record mid { collector = Some c }) new n at.moment 3 None answer) admitted.lane_is enters

    kind_is : (answer.entry).kind ≡ START_KIND
    kind_is = ap (λ x. x.kind) entered.entry

    moment_is : (answer.entry).moment ≡ at.moment
    moment_is = ap (λ x. x.moment) entered.entry

    is_new : IsNewCollector old.parts k (answer.entry).moment c
    is_new = subst (λ m. IsNewCollector old.parts k m c) (sym moment_is)
        (subst (λ n. IsNewCollector old.parts n at.moment c) admitted.lane_is (subst (λ (p : Parts D). IsNewCollector p at.lane at.moment c) parts gives.1))

    may_start : start_told old.collector (kept_at old.parts k) ≡ Ok tt
    may_start = sym told_old ∙ gives.0

    pub start_keeps : ActKeeps d old new k Start answer
    start_keeps = start_opened_keeps d clock old mid new k at.moment c answer admitted.ready filled entered

    touches : (h : History) → StandsFor d clock.readings old h → KeepsTouches d old h → StandsFor d clock.readings new (then_event h (event_of Start answer (d.calls (new.parts).disk)))
        → KeepsTouches d new (then_event h (event_of Start answer (d.calls (new.parts).disk)))
    touches h s was so =
        let b = (admitted.ready).begun in
        let count = ap length (b.entries).entries in
        opened_touches d clock old new k c answer start_keeps kind_is (entered.place ∙ count)
        (entered.entries ∙ ap (λ xs. xs ++ answer.entry ∷ []) (b.entries).entries) (entered.parts ∙ b.parts) (entered.fault ∙ b.fault) entered.collector is_new h s was

    pub start_applies : ActApplies d clock old new k Start answer
    start_applies =
        start_opened_applies d clock old mid new k at.moment c answer admitted.ready filled entered lt (λ h s. sym (may_be h s) ∙ may_start)
        (is_new.lane_is) (is_new.goes_on) touches

    pub start_tells : StartTells old new k answer
    start_tells = record {
      refused = λ zero. absurd (omega (arith, kind_is, zero));
      opens = λ _. (may_start, subst (λ o. IsSomeAnd o (IsNewCollector old.parts k (answer.entry).moment)) (sym entered.collector) is_new);
      others = λ other. absurd (other kind_is);
    }

  -- ---- it is refused, or memory was wanting

  module _ (stop : Stop) (gives : GivesCollector mid.parts mid.collector at (Err stop)) (text : StopHasText stop) (settled : Settles d mid new at.lane at.moment (told (Err stop)) answer) where
    settles_here : Settles d mid new k at.moment (told (Err stop)) answer
    settles_here = subst (λ n. Settles d mid new n at.moment (told (Err stop)) answer) admitted.lane_is settled

  stopped_keeps : (stop : Stop) → GivesCollector mid.parts mid.collector at (Err stop) → Settles d mid new k at.moment (told (Err stop)) answer → ActKeeps d old new k Start answer
  stopped_keeps (stops.Refused refusal) gives settles =
      start_settled_keeps d clock old mid new k at.moment Start tt (Ok (replies.Refused refusal)) refusal answer admitted.ready (λ _. filled) refl
      (no_fault refusal (start_refusal mid.collector (kept_at mid.parts at.lane) refusal gives)) settles
  stopped_keeps stops.NoMemory gives settles =
      start_settled_keeps d clock old mid new k at.moment Start tt (Err disks.NoMemory) refusals.NoMemory answer admitted.ready (λ _. filled) refl memory_apart settles
  stopped_keeps stops.DiskFailed gives settles = absurd gives

  stopped_applies : (stop : Stop) → GivesCollector mid.parts mid.collector at (Err stop) → StopHasText stop → Settles d mid new k at.moment (told (Err stop)) answer → ActApplies d clock old new k Start answer
  stopped_applies (stops.Refused refusal) gives text settles =
      let refuses = start_refusal mid.collector (kept_at mid.parts at.lane) refusal gives in
      start_settled_applies d clock old mid new k at.moment Start tt (Ok (replies.Refused refusal)) refusal answer admitted.ready (λ _. filled) refl (no_fault refusal refuses) settles lt text refuses
      (λ h s. start_told_stands d clock.readings old mid h k at.moment s admitted.ready new Start refusal answer tt lt (sym (may_be h s) ∙ sym told_old ∙ gives) settles)
  stopped_applies stops.NoMemory gives text settles =
      start_settled_applies d clock old mid new k at.moment Start tt (Err disks.NoMemory) refusals.NoMemory answer admitted.ready (λ _. filled) refl memory_apart settles lt tt tt
      (λ h s. start_short_stands d clock.readings old mid h k at.moment s admitted.ready new Start answer tt lt settles)
  stopped_applies stops.DiskFailed gives text settles = absurd gives

  by_kind : (n : ℕ) → new.collector ≡ collector_by n k mid.collector → (answer.entry).kind ≡ n → new.collector ≡ collector_by (answer.entry).kind k old.collector
  by_kind n is kind_is = is ∙ ap (collector_by n k) collector ∙ ap (λ j. collector_by j k old.collector) (sym kind_is)

  stopped_tells : (stop : Stop) → GivesCollector mid.parts mid.collector at (Err stop) → Settles d mid new k at.moment (told (Err stop)) answer → StartTells old new k answer
  stopped_tells (stops.Refused refusal) gives settles =
      let kind_is : (answer.entry).kind ≡ COMMAND_KIND = ap (λ x. x.kind) settles.entry in record {
        refused = λ _. (refusal, settles.reply_is, sym told_old ∙ gives);
        opens = λ three. absurd (omega (arith, kind_is, three));
        others = λ _. by_kind 0 settles.collector kind_is;
      }
  stopped_tells stops.NoMemory gives settles =
      let kind_is : (answer.entry).kind ≡ MEMORY_KIND = ap (λ x. x.kind) settles.entry in record {
        refused = λ zero. absurd (omega (arith, kind_is, zero));
        opens = λ three. absurd (omega (arith, kind_is, three));
        others = λ _. by_kind 2 settles.collector kind_is;
      }
  stopped_tells stops.DiskFailed gives settles = absurd gives

  module _ (stop : Stop) (gives : GivesCollector mid.parts mid.collector at (Err stop)) (text : StopHasText stop) (settled : Settles d mid new at.lane at.moment (told (Err stop)) answer) where
    pub stop_keeps : ActKeeps d old new k Start answer
    stop_keeps = stopped_keeps stop gives (settles_here stop gives text settled)

    pub stop_applies : ActApplies d clock old new k Start answer
    stop_applies = stopped_applies stop gives text (settles_here stop gives text settled)

    pub stop_tells : StartTells old new k answer
    stop_tells = stopped_tells stop gives (settles_here stop gives text settled)
