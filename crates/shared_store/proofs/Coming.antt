-- A core comes to one event after another.
use Rattle.disk_trait.specs.declared.disk.Disk.{Ghosts}
use Rattle.disk_trait.specs.Disk.{Rose}
use Rattle.std.proofs.Common.{◌≡◌, ◌≤◌, ◌<◌, ◌^◌, ◌↔◌, ◌⊎◌, inl, inr, ℕ, Bool, true, false, ◌==◌, List, [], ◌∷◌, ◌++◌, length, if◌then◌else◌, Option, Some, None, IsSome, refl, sym, ap, subst, ◌∙◌, arith}
use Rattle.std.proofs.lemmas.Bool.{eqb-true}
use Rattle.std.proofs.lemmas.List.{length-append, length-map, map-append}
use mathlib.Core.List.{IsPrefix}
use Rattle.port_traits.specs.declared.clock.Clock as clocks
use Rattle.store_types.specs.declared.order.TheConstants.{FAULT_KIND}
use Rattle.store_model.specs.Weave.{first_fault}
use Rattle.store_history.specs.declared.act.Act.{Act}
use Rattle.store_history.specs.declared.act.Answer.{Answer}
use Rattle.store_history.specs.declared.act.Event.{Event}
use Rattle.store_history.specs.History.{entry, entries}
use Rattle.turn_lock.specs.State.{SeatState, seat_after_pass}
use Rattle.core_state.specs.declared.parts.Parts.{Parts}
use Rattle.core_state.specs.declared.state.Core.{Core}
use Rattle.core_state.specs.Answers.{IsAnswered}
use Rattle.store_history.specs.Answered.{fault_after, fault_in}
use Rattle.core_state.specs.History.{History, event_of}
use Rattle.core_state.specs.Records.{Reaches}
use Rattle.core_state.proofs.Reaching.{reaches_first, reaches_more}
use Rattle.shared_store.specs.Acted.{ActsOn, HasActed}
use Rattle.shared_store.specs.Applied.{HasApplied}
use Rattle.shared_store.specs.Comes.{AreAnswered, ComesTo, IsFresh, SameCore, WasDone, WereDone, last_calls, with_events}
use Rattle.shared_store.proofs.Reserving.{reserved_reaches}

no_events : (h : History) → h.events ≡ [] → with_events h [] ≡ h
no_events h none = ap (λ es. with_events h es) (sym none)

none_some : (o : Option ℕ) → o ≡ None → IsSome o → ⊥
none_some None e s = cc
none_some (Some n) e s = cc

none_or_some : (o : Option ℕ) → (o ≡ None) ⊎ IsSome o
none_or_some None = inl refl
none_or_some (Some n) = inr refl

calls_last : (calls : ℕ) (es : List Event) (v : Event) → last_calls calls (es ++ v ∷ []) ≡ v.calls
calls_last calls [] v = refl
calls_last calls (e ∷ es) v = calls_last e.calls es v

-- ---- act by act

same_core : {D E C : Type 0} (core : Core D E C) → SameCore core core
same_core core = record {
  parts = refl;
  remote = refl;
  clock = refl;
  entries = record { entries = refl; calls = refl };
  upkeep = refl;
  collector = refl;
  last = refl;
  fault = refl;
}

same_then : {D E C : Type 0} (a b c : Core D E C) → SameCore a b → SameCore b c → SameCore a c
same_then a b c first later = record {
  parts = later.parts ∙ first.parts;
  remote = later.remote ∙ first.remote;
  clock = later.clock ∙ first.clock;
  entries = record { entries = (later.entries).entries ∙ (first.entries).entries; calls = (later.entries).calls ∙ (first.entries).calls };
  upkeep = later.upkeep ∙ first.upkeep;
  collector = later.collector ∙ first.collector;
  last = later.last ∙ first.last;
  fault = later.fault ∙ first.fault;
}

module _ {D E C : Type 0} (d : Ghosts D) (e : Ghosts E) (clock : clocks.Ghosts C) where
  done_room : (first old new : Core D E C) (es : List Event) → SameCore old new → WereDone d e clock first es old → WereDone d e clock first es new
  done_room first old new [] same done = same_then first old new done same
  done_room first old new (v ∷ vs) same done = (done.0, done.1, done_room done.0 old new vs same done.2)

  done_more : (first old new : Core D E C) (es : List Event) (v : Event) → WereDone d e clock first es old → WasDone d e clock old v new
      → WereDone d e clock first (es ++ v ∷ []) new
  done_more first old new [] v done one = (
    new,
    record { found = one.found; room = same_then first old one.found done one.room; lane = one.lane; applied = one.applied; calls_are = one.calls_are },
    same_core new,
  )
  done_more first old new (w ∷ ws) v done one = (done.0, done.1, done_more done.0 old new ws v done.2 one)

-- ---- the whole

pub comes_first : {D E C : Type 0} (d : Ghosts D) (e : Ghosts E) (clock : clocks.Ghosts C) (is_first : Core D E C → Type 0) (core : Core D E C)
    → is_first core → IsFresh clock core → ComesTo d e clock is_first core []
comes_first d e clock is_first core is fresh = record {
  first = core;
  is = is;
  began = fresh.began;
  recorded = fresh.recorded;
  none = fresh.none;
  short = omega arith;
  entries_are = (fresh.recorded).entries ∙ ap entries fresh.none;
  reaches = λ h r none. subst (λ k. Reaches d e clock.readings core h core k) (sym (no_events h none)) (reaches_first d e clock.readings core h r);
  kept = (λ h. h, λ h. h);
  count = omega arith;
  fault = λ some. absurd (none_some core.fault ((fresh.recorded).fault ∙ ap (λ es. fault_in 0 None es) fresh.none) some);
  done = same_core core;
  at_rest = refl;
}

-- ---- a fault of the disk

-- a fault that is new is of an entry of kind 5
new_fault : (place kind : ℕ) (before after : Option ℕ) → after ≡ fault_after place kind before → before ≡ None → IsSome after → kind ≡ FAULT_KIND
new_fault place kind before after is none some = by_kind (kind == FAULT_KIND) refl
  where
    by_kind : (b : Bool) → kind == FAULT_KIND ≡ b → kind ≡ FAULT_KIND
    by_kind true five = eqb-true kind 5 five
    by_kind false other = absurd (none_some after (is ∙ ap (λ b. if b then first_fault place before else before) other ∙ none) some)

rose_on : (a b c : ℕ) → Rose a b → b ≤ c → Rose a c
rose_on a b c rose le = omega (arith, rose, le)

rose_later : (a b c : ℕ) → a ≤ b → Rose b c → Rose a c
rose_later a b c le rose = omega (arith, le, rose)

-- one act more: where the disk has failed, its count of faults rose in this act or before
rises : {D E C : Type 0} (d : Ghosts D) (mid new : Core D E C) (lane : ℕ) (answer : Answer) (before : ℕ) → IsAnswered d mid new lane answer
    → before ≤ d.faults (mid.parts).disk → (IsSome mid.fault → Rose before (d.faults (mid.parts).disk)) → IsSome new.fault → Rose before (d.faults (new.parts).disk)
rises d mid new lane answer before is count fault some = by_fault (none_or_some mid.fault)
  where
    by_fault : (mid.fault ≡ None) ⊎ IsSome mid.fault → Rose before (d.faults (new.parts).disk)
    by_fault (inl none) = rose_later _ _ _ count (is.cause (new_fault (length (mid.journal).entries.items) (answer.entry).kind mid.fault new.fault is.fault none some) none)
    by_fault (inr was) = rose_on _ _ _ (fault was) is.count

entries_more : (h : List Event) (v : Event) → entries (h ++ v ∷ []) ≡ entries h ++ entry v ∷ []
entries_more h v = map-append entry h (v ∷ [])

-- room is made
pub comes_room : {D E C : Type 0} (d : Ghosts D) (e : Ghosts E) (clock : clocks.Ghosts C) (is_first : Core D E C → Type 0) (old new : Core D E C) (es : List Event)
    → SameCore old new → ComesTo d e clock is_first old es → ComesTo d e clock is_first new es
comes_room {D} d e clock is_first old new es same c =
    let disk : d.faults (new.parts).disk ≡ d.faults (old.parts).disk = ap (λ (p : Parts D). d.faults p.disk) same.parts in record {
      first = c.first;
      is = c.is;
      began = c.began;
      recorded = c.recorded;
      none = c.none;
      short = c.short;
      entries_are = (same.entries).entries ∙ c.entries_are;
      reaches = λ h r none. reserved_reaches d e clock.readings old new same c.first h (with_events h es) (c.reaches h r none);
      kept = subst (λ (p : Parts D). d.honest (c.first.parts).disk ↔ d.honest p.disk) (sym same.parts) c.kept;
      count = let was = c.count in omega (arith, was, disk);
      fault = λ some. subst (λ n. Rose (d.faults (c.first.parts).disk) n) (sym disk) (c.fault (subst IsSome same.fault some));
      done = done_room d e clock c.first old new es same c.done;
      at_rest = ap (λ (p : Parts D). d.calls p.disk) same.parts ∙ c.at_rest;
    }

-- an act is done
pub comes_act : {D E C : Type 0} (d : Ghosts D) (e : Ghosts E) (clock : clocks.Ghosts C) (is_first : Core D E C → Type 0) (old new : Core D E C) (es : List Event) (lane : ℕ) (act : Act) (answer : Answer)
    → lane < 64 → length (old.journal).entries.items < 2 ^ 62 → HasApplied d e clock old new lane act answer
    → ComesTo d e clock is_first old es → ComesTo d e clock is_first new (es ++ event_of act answer (d.calls (new.parts).disk) ∷ [])
comes_act d e clock is_first old new es lane act answer lt below x c =
    let v : Event = event_of act answer (d.calls (new.parts).disk) in
    let is = (x.applies).answers in record {
      first = c.first;
      is = c.is;
      began = c.began;
      recorded = c.recorded;
      none = c.none;
      short = let n = ap length c.entries_are in omega (arith, n, below, length-map es entry, length-append es (v ∷ []));
      entries_are = is.entries ∙ ap (λ xs. xs ++ answer.entry ∷ []) c.entries_are ∙ sym (entries_more es v);
      reaches = λ h r none. reaches_more d e clock c.first h old new lane act answer lt x.applies x.alone x.keeps (with_events h es) (c.reaches h r none);
      kept = (λ h. (is.kept).0 ((c.kept).0 h), λ h. (c.kept).1 ((is.kept).1 h));
      count = let was = c.count in let on = is.count in omega (arith, was, on);
      fault = rises d old new lane answer (d.faults (c.first.parts).disk) is c.count c.fault;
      done = done_more d e clock c.first old new es v c.done (record { found = old; room = same_core old; lane = lane; applied = x; calls_are = refl });
      at_rest = sym (calls_last (d.calls (c.first.parts).disk) es v);
    }

-- room is made, and then an act is done
pub comes_more : {D E C : Type 0} (d : Ghosts D) (e : Ghosts E) (clock : clocks.Ghosts C) (is_first : Core D E C → Type 0) (old mid new : Core D E C) (es : List Event) (lane : ℕ) (act : Act) (answer : Answer)
    → lane < 64 → SameCore old mid → length (mid.journal).entries.items < 2 ^ 62 → HasApplied d e clock mid new lane act answer
    → ComesTo d e clock is_first old es → HasActed d e clock is_first new es lane act answer
comes_more d e clock is_first old mid new es lane act answer lt same below x c =
    let came = comes_room d e clock is_first old mid es same c in record {
      found = mid;
      came = came;
      applied = x;
      comes = comes_act d e clock is_first mid new es lane act answer lt below x came;
    }

-- what it came to is answered
pub comes_answered : {D E C : Type 0} (d : Ghosts D) (e : Ghosts E) (clock : clocks.Ghosts C) (is_first : Core D E C → Type 0) (core : Core D E C) (es : List Event)
    → ComesTo d e clock is_first core es → AreAnswered es
comes_answered d e clock is_first core es c = (((c.began).opening).moment, (c.reaches c.began c.recorded c.none).records.kept)

-- what holds of the history with an event more holds of all that a seat has seen as it passed the turn on
pub came_to : (P : List Event → Type 0) (old new : SeatState Event) (v w : Event) → new ≡ seat_after_pass old v → v ≡ w → P (old.seen ++ w ∷ []) → P new.seen
came_to P old new v w is same p = subst P (sym (ap (λ (s : SeatState Event). s.seen) is ∙ ap (λ x. old.seen ++ x ∷ []) same)) p

-- an act of a seat, which found this history behind the turn
pub acts_on : {D E C : Type 0} (d : Ghosts D) (e : Ghosts E) (clock : clocks.Ghosts C) (is_first : Core D E C → Type 0) (left : Core D E C) (old before : List Event) (lane : ℕ) (act : Act) (answer : Answer)
    → IsPrefix old before → HasActed d e clock is_first left before lane act answer
    → ActsOn d e clock is_first lane act answer old (before ++ event_of act answer (d.calls (left.parts).disk) ∷ [])
acts_on d e clock is_first left old before lane act answer seen x = record { before = before; seen = seen; left = left; acted = x; ends = refl }
