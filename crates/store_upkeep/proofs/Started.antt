-- Where an open sweep started; and that a collector that ends with a report has swept the whole since then.
use Rattle.std.proofs.Common.{◌≡◌, ◌⊎◌, inl, inr, ℕ, zero, suc, Bool, true, false, List, [], ◌∷◌, ◌++◌, Option, Some, None, is_some, refl, sym, subst, ap, ◌∙◌, ◌==◌, if◌then◌else◌}
use Rattle.std.specs.Prelude.{option_map, IsSome, IsSomeAnd}
use Rattle.std.proofs.lemmas.Bool.{false≢true, eqb-true}
use Rattle.store_types.specs.declared.refusal.Refusal.TheVariants.{NoMemory}
use Rattle.store_types.specs.declared.order.TheConstants.{START_KIND, STOP_KIND}
use Rattle.store_files.specs.Archive.{Snapshot}
use Rattle.wire_commands.specs.declared.reply.Reply.{Reply}
use Rattle.wire_commands.specs.declared.reply.Reply.TheVariants.{Refused}
use Rattle.store_model.specs.Lanes.{Collecting}
use Rattle.atime_book.specs.Touches.{cutoff_of}
use Rattle.store_history.specs.declared.act.Act.{Act}
use Rattle.store_history.specs.declared.act.Act.TheVariants as acts
use Rattle.store_history.specs.declared.act.Event.{Event}
use Rattle.store_history.specs.Acts.{Class, starting, sweeping, class_of}
use Rattle.store_history.specs.History.{World, Opening, opened, moved, after, after_all, lane, moment, kind, reply, EntryKind, kind_of, pass_kind, short_kind, start_kind, close_kind, fault_kind, end_kind, open_on, new_collecting, cut_on, closed_on, halted_on}
use Rattle.store_history.specs.Legal.{Right, Reports, IsRight, IsLegal, collecting_on}
use Rattle.store_history.specs.Sweeping.{Sweep, Swept, swept_at, oldest_in, passed, spared, is_over, swept_by, while_open, swept_after, swept_all, world, swept, report_of, IsSwept}
use Rattle.store_history.proofs.Collectors.{may_open_none}
use Rattle.store_history.proofs.Longer.{after_all_append}
use Rattle.store_upkeep.specs.Laws.{StaysOpen, IsWhole, ReportsWhole}
use Rattle.store_upkeep.proofs.Members.{none_some}
use Rattle.store_upkeep.proofs.Marking.{open_same}
use Rattle.store_upkeep.proofs.Reporting.{ends_reported}
use Rattle.store_upkeep.proofs.Whole.{stays_some, legal_parts, opens, whole_numbers, sweeps_leave}

-- ---- the event that opens a sweep

-- the start of a collector has this class and kind
abbrev IsStart : Class → EntryKind → Type 0
IsStart starting start_kind = Unit {0}
IsStart c n = ⊥

none_mapped : (f : Sweep → Sweep) (o : Option Sweep) (b : Sweep) → o ≡ None → option_map f o ≡ Some b → ⊥
none_mapped f o b none is = none_some b (sym (ap (option_map f) none) ∙ is)

starts_by : (w : World) (s : Swept) (v : Event) (b : Sweep) (c : Class) (n : EntryKind) → s.sweep ≡ None → swept_by w s v c n ≡ Some b → IsStart c n
starts_by w s v b starting start_kind none is = tt
starts_by w s v b sweeping pass_kind none is = absurd (none_mapped (λ sweep. passed s sweep sweep.unmarked) s.sweep b none is)
starts_by w s v b c n none is = absurd (none_mapped (spared v.act (reply v)) s.sweep b none is)

starts : (R : Option (List Snapshot)) (w : World) (s : Swept) (v : Event) (b : Sweep) → s.sweep ≡ None → (swept_after R w s v).sweep ≡ Some b
    → IsStart (class_of v.act) (kind_of (kind v))
unfolding swept_after
starts R w s v b none is =
    starts_by w s v b (class_of v.act) (kind_of (kind v)) none
    (open_same (after R w v).collecting (swept_by w s v (class_of v.act) (kind_of (kind v))) b is)

-- it is the start of a collector
start_act : (R : Option (List Snapshot)) (w : World) (k m : ℕ) (a : Act) (r : Option Reply) (n : EntryKind) → Right R w k m a r (class_of a) n → IsStart (class_of a) n → a ≡ acts.Start
start_act R w k m acts.Start r n right is = refl
start_act R w k m a r n right is = absurd is

start_three : (n : ℕ) → IsStart starting (kind_of n) → n ≡ 3
start_three zero is = absurd is
start_three (suc zero) is = absurd is
start_three (suc (suc zero)) is = absurd is
start_three (suc (suc (suc zero))) is = refl
start_three (suc (suc (suc (suc zero)))) is = absurd is
start_three (suc (suc (suc (suc (suc zero))))) is = absurd is
start_three (suc (suc (suc (suc (suc (suc zero)))))) is = absurd is
start_three (suc (suc (suc (suc (suc (suc (suc zero))))))) is = absurd is
start_three (suc (suc (suc (suc (suc (suc (suc (suc n)))))))) is = absurd is

-- ---- the sweep that is open at the end

-- among these events a collector starts, and stays open
record Found (R : Option (List Snapshot)) (w : World) (s : Swept) (es : List Event) : Type 0 where
  before : List Event
  start : Event
  since : List Event
  parts : es ≡ before ++ start ∷ since
  act : start.act ≡ acts.Start
  kind_is : kind start ≡ START_KIND
  stays : StaysOpen R (after R (after_all R w before) start) (swept_after R (after_all R w before) (swept_all R w s before) start) since

found_later : (R : Option (List Snapshot)) (w : World) (s : Swept) (v : Event) (es : List Event) → Found R (after R w v) (swept_after R w s v) es → Found R w s (v ∷ es)
unfolding after_all swept_all
found_later R w s v es f = record {
  before = v ∷ f.before;
  start = f.start;
  since = f.since;
  parts = ap (λ xs. v ∷ xs) f.parts;
  act = f.act;
  kind_is = f.kind_is;
  stays = f.stays;
}

found_here : (R : Option (List Snapshot)) (w : World) (s : Swept) (v : Event) (es : List Event) → IsRight R w v → IsStart (class_of v.act) (kind_of (kind v))
    → StaysOpen R (after R w v) (swept_after R w s v) es → Found R w s (v ∷ es)
unfolding after_all swept_all
found_here R w s v es right is stays =
    let named = start_act R w (lane v) (moment v) v.act (reply v) (kind_of (kind v)) right.says is in
    record {
      before = [];
      start = v;
      since = es;
      parts = refl;
      act = named;
      kind_is = start_three (kind v) (subst (λ (a : Act). IsStart (class_of a) (kind_of (kind v))) named is);
      stays = stays;
    }

-- a sweep that is open at the end started since, or has been open all along
abbrev StartsOr : Option (List Snapshot) → World → Swept → List Event → Type 0
StartsOr R w s es = (s.sweep ≡ None → Found R w s es) × (IsSome s.sweep → StaysOpen R w s es ⊎ Found R w s es)

find_start : (R : Option (List Snapshot)) (es : List Event) (w : World) (s : Swept) → IsLegal R w es → IsSome (swept_all R w s es).sweep → StartsOr R w s es
unfolding swept_all
find_start R [] w s legal some = (λ none. absurd (false≢true (sym (ap is_some none) ∙ some)), λ runs. inl runs)
find_start R (v ∷ es) w s legal some = by_next (swept_after R w s v).sweep refl (find_start R es (after R w v) (swept_after R w s v) legal.1 some)
  where
    begun : s.sweep ≡ None → (b : Sweep) → (swept_after R w s v).sweep ≡ Some b
        → StaysOpen R (after R w v) (swept_after R w s v) es ⊎ Found R (after R w v) (swept_after R w s v) es → Found R w s (v ∷ es)
    begun none b is (inl stays) = found_here R w s v es legal.0 (starts R w s v b none is) stays
    begun none b is (inr f) = found_later R w s v es f

    kept : IsSome s.sweep → StaysOpen R (after R w v) (swept_after R w s v) es ⊎ Found R (after R w v) (swept_after R w s v) es
        → StaysOpen R w s (v ∷ es) ⊎ Found R w s (v ∷ es)
    kept runs (inl stays) = inl (runs, stays)
    kept runs (inr f) = inr (found_later R w s v es f)

    by_next : (o : Option Sweep) → (swept_after R w s v).sweep ≡ o → StartsOr R (after R w v) (swept_after R w s v) es → StartsOr R w s (v ∷ es)
    by_next None is rest = (λ none. found_later R w s v es (rest.0 is), λ runs. inr (found_later R w s v es (rest.0 is)))
    by_next (Some b) is rest = (λ none. begun none b is (rest.1 (ap is_some is)), λ runs. kept runs (rest.1 (ap is_some is)))

-- ---- its lane

-- the collector is open on the lane
abbrev OnLane : ℕ → Option Collecting → Type 0
OnLane k None = ⊥
OnLane k (Some c) = c.lane ≡ k

on_new : (k : ℕ) (b : Bool) → OnLane k (new_collecting k b)
on_new k b = refl

cut_lane : (j k : ℕ) (c : Option Collecting) → OnLane k c → OnLane k (cut_on j c)
cut_lane j k None on = absurd on
cut_lane j k (Some c) on = by_test (c.lane == j) refl
  where
    by_test : (t : Bool) → (c.lane == j) ≡ t → OnLane k (if t then new_collecting j true else Some c)
    by_test true is = sym (eqb-true c.lane j is) ∙ on
    by_test false is = on

closed_lane : (j k : ℕ) (c : Option Collecting) → OnLane k c → IsSome (closed_on j c) → OnLane k (closed_on j c)
closed_lane j k None on some = absurd on
closed_lane j k (Some c) on some = by_test (c.lane == j) some
  where
    by_test : (t : Bool) → IsSome (if t then None else Some c) → OnLane k (if t then None else Some c)
    by_test true some = absurd (false≢true some)
    by_test false some = on

halted_lane : (n : Class) (j k : ℕ) (c : Option Collecting) → OnLane k c → IsSome (halted_on j n c) → OnLane k (halted_on j n c)
halted_lane sweeping j k c on some = closed_lane j k c on some
halted_lane n j k c on some = on

moved_lane : (R : Option (List Snapshot)) (w : World) (j m : ℕ) (a : Act) (n : EntryKind) (k : ℕ) → OnLane k w.collecting → (n ≡ start_kind → ⊥)
    → IsSome (moved R w j m a n).collecting → OnLane k (moved R w j m a n).collecting
unfolding moved
moved_lane R w j m a short_kind k on off some = cut_lane j k w.collecting on
moved_lane R w j m a start_kind k on off some = absurd (off refl)
moved_lane R w j m a close_kind k on off some = absurd (false≢true some)
moved_lane R w j m a fault_kind k on off some = halted_lane (class_of a) j k w.collecting on some
moved_lane R w j m a end_kind k on off some = closed_lane j k w.collecting on some
moved_lane R w j m a n k on off some = on

-- while one is open none starts
not_opened : (R : Option (List Snapshot)) (w : World) (j m k : ℕ) (a : Act) (r : Option Reply) (c : Class) → OnLane k w.collecting → Right R w j m a r c start_kind → ⊥
not_opened R w j m k a r starting on right = subst (OnLane k) (may_open_none w j right.1) on
not_opened R w j m k a r c on right = absurd right

open_some : (R : Option (List Snapshot)) (w : World) (s : Swept) (v : Event) → IsSome (swept_after R w s v).sweep → IsSome (after R w v).collecting
unfolding swept_after
open_some R w s v some = by_open (after R w v).collecting (swept_by w s v (class_of v.act) (kind_of (kind v))) some
  where
    by_open : (o : Option Collecting) (new : Option Sweep) → IsSome (while_open o new) → IsSome o
    by_open None new some = some
    by_open (Some c) new some = refl

after_lane : (R : Option (List Snapshot)) (w : World) (s : Swept) (v : Event) (k : ℕ) → IsRight R w v → OnLane k w.collecting → IsSome (swept_after R w s v).sweep
    → OnLane k (after R w v).collecting
unfolding after
after_lane R w s v k right on some =
    moved_lane R w (lane v) (moment v) v.act (kind_of (kind v)) k on
    (λ is. not_opened R w (lane v) (moment v) k v.act (reply v) (class_of v.act) on
    (subst (λ n. Right R w (lane v) (moment v) v.act (reply v) (class_of v.act) n) is right.says))
    (open_some R w s v some)

lanes_stay : (R : Option (List Snapshot)) (es : List Event) (w : World) (s : Swept) (k : ℕ) → IsLegal R w es → OnLane k w.collecting → StaysOpen R w s es
    → OnLane k (after_all R w es).collecting
unfolding after_all
lanes_stay R [] w s k legal on stays = on
lanes_stay R (v ∷ es) w s k legal on stays =
    let still = after_lane R w s v k legal.0 on (stays_some R (after R w v) (swept_after R w s v) es stays.1) in
    lanes_stay R es (after R w v) (swept_after R w s v) k legal.1 still stays.1

start_on : (R : Option (List Snapshot)) (w : World) (s : Swept) (start : Event) (since : List Event) → IsLegal R w (start ∷ since) → start.act ≡ acts.Start → kind start ≡ START_KIND
    → StaysOpen R (after R w start) (swept_after R w s start) since → OnLane (lane start) (after_all R w (start ∷ since)).collecting
unfolding after_all
start_on R w s start since legal act kind_is stays =
    lanes_stay R since (after R w start) (swept_after R w s start) (lane start) legal.1
    (subst (OnLane (lane start)) (sym (opens R w s start act kind_is)) (on_new (lane start) false)) stays

-- a collector that ends is open on its lane
ends_on : (R : Option (List Snapshot)) (w : World) (e : Event) → IsRight R w e → kind e ≡ STOP_KIND → IsSome (collecting_on w (lane e))
ends_on R w e right is =
    by_class (class_of e.act) (subst (λ n. Right R w (lane e) (moment e) e.act (reply e) (class_of e.act) (kind_of n)) is right.says)
  where
    by_told : (o : Option Bool) → Reports o (reply e) → IsSome o
    by_told None told = absurd told
    by_told (Some b) told = refl

    by_class : (c : Class) → Right R w (lane e) (moment e) e.act (reply e) c close_kind → IsSome (collecting_on w (lane e))
    by_class sweeping told = by_told (collecting_on w (lane e)) told.1
    by_class c told = absurd told

one_lane : (j k : ℕ) (c : Option Collecting) → OnLane j c → IsSome (open_on k c) → j ≡ k
one_lane j k None on some = absurd on
one_lane j k (Some c) on some = by_test (c.lane == k) refl some
  where
    by_test : (t : Bool) → (c.lane == k) ≡ t → IsSome (if t then Some c.is_out_of_memory else None) → j ≡ k
    by_test true is some = sym on ∙ eqb-true c.lane k is
    by_test false is some = absurd (false≢true some)

-- ---- the whole

swept_all_append : (R : Option (List Snapshot)) (w : World) (s : Swept) (h g : List Event) → swept_all R w s (h ++ g) ≡ swept_all R (after_all R w h) (swept_all R w s h) g
unfolding swept_all after_all
swept_all_append R w s [] g = refl
swept_all_append R w s (v ∷ h) g = swept_all_append R (after R w v) (swept_after R w s v) h g

-- the sweep is over, and this is its report
record Over (s : Swept) (r : Option Reply) : Type 0 where
  sweep : Sweep
  open_is : s.sweep ≡ Some sweep
  over : is_over sweep ≡ true
  told : r ≡ Some (report_of s sweep)

over_of : (s : Swept) (r : Option Reply) (o : Option Sweep) → s.sweep ≡ o → IsSomeAnd o (λ sweep. (is_over sweep ≡ true) × (r ≡ Some (report_of s sweep))) → Over s r
over_of s r None is h = absurd h
over_of s r (Some x) is h = record { sweep = x; open_is = is; over = h.0; told = h.1 }

right_of : (R : Option (List Snapshot)) (w : World) (e : Event) → IsLegal R w (e ∷ []) → IsRight R w e
right_of R w e legal = legal.0

module _ (R : Option (List Snapshot)) (o : Opening) (es : List Event) (e : Event) (legal : IsLegal R (opened o) es) (right : IsRight R (after_all R (opened o) es) e) (is : kind e ≡ STOP_KIND)
    (f : Found R (opened o) (swept_at o) es) (x : Over (swept R o es) (reply e)) where
  legal_since : IsLegal R (opened o) (f.before ++ f.start ∷ f.since)
  legal_since = subst (λ xs. IsLegal R (opened o) xs) f.parts legal

  whole : IsWhole R (world R o f.before) (swept R o f.before) f.start f.since x.sweep
  whole = record {
    act = f.act;
    kind_is = f.kind_is;
    stays = f.stays;
    sweep_is =
        sym (ap (λ (y : Swept). y.sweep) (ap (λ xs. swept R o xs) f.parts ∙ swept_all_append R (opened o) (swept_at o) f.before (f.start ∷ f.since))) ∙ x.open_is;
    over = x.over;
  }

  on : OnLane (lane f.start) (after_all R (opened o) es).collecting
  on = subst (λ (w : World). OnLane (lane f.start) w.collecting)
      (sym (ap (λ xs. after_all R (opened o) xs) f.parts ∙ after_all_append R (opened o) f.before (f.start ∷ f.since)))
      (start_on R (world R o f.before) (swept R o f.before) f.start f.since (legal_parts R (opened o) f.before (f.start ∷ f.since) legal_since).1 f.act f.kind_is f.stays)

  numbers : ((x.sweep).start ≡ moment f.start) × ((x.sweep).cutoff ≡ cutoff_of (moment f.start) (oldest_in ((world R o f.before).store).sessions))
  numbers = whole_numbers R (world R o f.before) (swept R o f.before) f.start f.since x.sweep (legal_parts R (opened o) f.before (f.start ∷ f.since) legal_since).1 whole

  reports_whole : ReportsWhole R o es e
  reports_whole = record {
    before = f.before;
    start = f.start;
    since = f.since;
    sweep = x.sweep;
    parts = f.parts;
    own = one_lane (lane f.start) (lane e) (after_all R (opened o) es).collecting on (ends_on R (after_all R (opened o) es) e right is);
    whole = whole;
    started = numbers.0;
    cutoff = numbers.1;
    leaves = λ stocked. sweeps_leave R o f.before f.start f.since x.sweep legal_since stocked whole;
    reported = x.told;
  }

pub reports_right : (R : Option (List Snapshot)) (o : Opening) (es : List Event) (e : Event) → IsLegal R (opened o) (es ++ e ∷ []) → IsSwept R (opened o) (swept_at o) (es ++ e ∷ [])
    → kind e ≡ STOP_KIND → (reply e ≡ Some (Refused NoMemory) → ⊥) → ReportsWhole R o es e
reports_right R o es e legal fits is off =
    let parts = legal_parts R (opened o) es (e ∷ []) legal in
    let x = over_of (swept R o es) (reply e) (swept R o es).sweep refl (ends_reported R o es e legal fits is off) in
    let f = (find_start R es (opened o) (swept_at o) parts.0 (ap is_some x.open_is)).0 refl in
    reports_whole R o es e parts.0 (right_of R (after_all R (opened o) es) e parts.1) is f x
