-- The order of a history keeps the rules of order files.
use Rattle.std.proofs.Common.{◌≡◌, ◌≢◌, ℕ, zero, suc, ◌+◌, ◌<◌, ◌≤◌, Bool, true, false, not, ◌&&◌, List, [], ◌∷◌, map, length, cond, Option, refl, sym, ap, subst, ◌∙◌, arith, ◌==◌, nat_lt, nat_le, slice_index_or}
use Rattle.std.specs.List.{list_all, range_with_len}
use Rattle.std.proofs.lemmas.Bool.{lt-ltb, le-leb, eq-eqb, eqb-true}
use Rattle.store_types.specs.Times.{last_moment}
use Rattle.store_types.specs.declared.order.TheConstants.{FAULT_KIND, END_KIND}
use Rattle.store_files.specs.Archive.{Snapshot}
use Rattle.store_files.specs.Order.{moments_rise, of_lane, ends_once, fits_entry, keeps_rules}
use Rattle.wire_commands.specs.declared.reply.Reply.{Reply}
use Rattle.store_model.specs.declared.ending.Ending.{Ending}
use Rattle.store_history.specs.declared.act.Act.{Act}
use Rattle.store_history.specs.declared.act.Event.{Event}
use Rattle.store_history.specs.Acts.{Class, stepping, reaching, starting, sweeping, wanting, ending, class_of}
use Rattle.store_history.specs.History.{Opening, World, opened, kind_of, entry, lane, moment, kind, reply, entries, own, after}
use Rattle.store_history.specs.Legal.{Right, IsLegal}
use Rattle.store_history.specs.LaneRun.{Position, LaneRan, begin, next_at, last_words, heard, heard_as, end_heard, position_after, Does, EndFollows, Runs}
use Rattle.store_history.specs.Woven.{AreLanes, ending_at, IsServed, FitsRules}
use Rattle.store_history.proofs.Events.{IsEnding, right_end, right_none}
use Rattle.store_history.proofs.Growing.{heard_over}

clash : true ≡ false → ⊥
clash h = cc

both : (a b : Bool) → a ≡ true → b ≡ true → (a && b) ≡ true
both a b p q = rw (p, q) refl

-- ---- each entry

right_kind : (R : Option (List Snapshot)) (w : World) (k m n : ℕ) (a : Act) (r : Option Reply) → Right R w k m a r (class_of a) (kind_of n) → nat_lt n 8 ≡ true
right_kind R w k m zero a r h = refl
right_kind R w k m (suc zero) a r h = refl
right_kind R w k m (suc (suc zero)) a r h = refl
right_kind R w k m (suc (suc (suc zero))) a r h = refl
right_kind R w k m (suc (suc (suc (suc zero)))) a r h = refl
right_kind R w k m (suc (suc (suc (suc (suc zero))))) a r h = refl
right_kind R w k m (suc (suc (suc (suc (suc (suc zero)))))) a r h = refl
right_kind R w k m (suc (suc (suc (suc (suc (suc (suc zero))))))) a r h = refl
right_kind R w k m (suc (suc (suc (suc (suc (suc (suc (suc n)))))))) a r h = absurd (right_none R w [] k m a r (class_of a) h)

all_fit : (R : Option (List Snapshot)) (lanes : ℕ) (w : World) (h : List Event) → IsLegal R w h → AreLanes lanes h → list_all (fits_entry lanes) (entries h) ≡ true
all_fit R lanes w [] legal are = refl
all_fit R lanes w (v ∷ vs) legal are =
    both (fits_entry lanes (entry v)) (list_all (fits_entry lanes) (entries vs))
    (each (nat_lt (lane v) lanes) (nat_le (moment v) last_moment) (nat_lt (kind v) 8) (lt-ltb (lane v) lanes are.0) (le-leb (moment v) last_moment (legal.0).in_time)
    (right_kind R w (lane v) (moment v) (kind v) v.act (reply v) (legal.0).says))
    (all_fit R lanes (after R w v) vs legal.1 are.1)
  where
    each : (a b c : Bool) → a ≡ true → b ≡ true → c ≡ true → (a && b && c) ≡ true
    each a b c p q r = rw (p, q, r) refl

-- ---- the moments

all_rise : (R : Option (List Snapshot)) (w : World) (h : List Event) → IsLegal R w h → moments_rise (entries h) ≡ true
unfolding after
all_rise R w [] legal = refl
all_rise R w (v ∷ []) legal = refl
all_rise R w (v ∷ u ∷ vs) legal =
    both (nat_le (moment v) (moment u)) (moments_rise (entries (u ∷ vs))) (le-leb (moment v) (moment u) ((legal.1).0).risen)
    (all_rise R (after R w v) (u ∷ vs) legal.1)

-- ---- each lane's end

of_own : (k : ℕ) (h : List Event) → of_lane k (entries h) ≡ map entry (own k h)
of_own k [] = refl
of_own k (v ∷ vs) = by_test (lane v == k) (of_own k vs)
  where
    by_test : (b : Bool) → of_lane k (entries vs) ≡ map entry (own k vs)
        → cond b (entry v ∷ of_lane k (entries vs)) (of_lane k (entries vs)) ≡ map entry (cond b (v ∷ own k vs) (own k vs))
    by_test true ih = ap (λ xs. entry v ∷ xs) ih
    by_test false ih = ih

-- an end is of kind 5 or 6, and nothing else is of kind 6
unfoldable pub KindIs : Class → ℕ → Type 0
KindIs ending n = (n ≢ 5) → n ≡ 6
KindIs c n = (n == 6) ≡ false

unfoldable pub KindsAre : List Event → Type 0
KindsAre [] = Unit {0}
KindsAre (v ∷ vs) = KindIs (class_of v.act) (kind v) × KindsAre vs

end_kinds : (R : Option (List Snapshot)) (w : World) (k m n : ℕ) (a : Act) (r : Option Reply) → Right R w k m a r ending (kind_of n) → n ≢ 5 → n ≡ 6
end_kinds R w k m zero a r h ne = absurd h
end_kinds R w k m (suc zero) a r h ne = absurd h
end_kinds R w k m (suc (suc zero)) a r h ne = absurd h
end_kinds R w k m (suc (suc (suc zero))) a r h ne = absurd h
end_kinds R w k m (suc (suc (suc (suc zero)))) a r h ne = absurd h
end_kinds R w k m (suc (suc (suc (suc (suc zero))))) a r h ne = absurd (ne refl)
end_kinds R w k m (suc (suc (suc (suc (suc (suc zero)))))) a r h ne = refl
end_kinds R w k m (suc (suc (suc (suc (suc (suc (suc zero))))))) a r h ne = absurd h
end_kinds R w k m (suc (suc (suc (suc (suc (suc (suc (suc n)))))))) a r h ne = absurd h

other_kinds : (R : Option (List Snapshot)) (w : World) (k m n : ℕ) (a : Act) (r : Option Reply) (c : Class) → (IsEnding c → ⊥) → Right R w k m a r c (kind_of n) → (n == 6) ≡ false
other_kinds R w k m n a r c ne h = by_test (n == 6) refl
  where
    by_test : (b : Bool) → (n == 6) ≡ b → (n == 6) ≡ false
    by_test true is = absurd (ne (right_end R w [] k m a r c (subst (λ x. Right R w k m a r c (kind_of x)) (eqb-true n 6 is) h)))
    by_test false is = is

kind_is : (R : Option (List Snapshot)) (w : World) (k m n : ℕ) (a : Act) (r : Option Reply) (c : Class) → Right R w k m a r c (kind_of n) → KindIs c n
unfolding KindIs
kind_is R w k m n a r ending h = end_kinds R w k m n a r h
kind_is R w k m n a r stepping h = other_kinds R w k m n a r stepping (λ x. x) h
kind_is R w k m n a r reaching h = other_kinds R w k m n a r reaching (λ x. x) h
kind_is R w k m n a r starting h = other_kinds R w k m n a r starting (λ x. x) h
kind_is R w k m n a r sweeping h = other_kinds R w k m n a r sweeping (λ x. x) h
kind_is R w k m n a r wanting h = other_kinds R w k m n a r wanting (λ x. x) h

kinds_are : (R : Option (List Snapshot)) (w : World) (k : ℕ) (h : List Event) → IsLegal R w h → KindsAre (own k h)
unfolding KindsAre
kinds_are R w k [] legal = tt
kinds_are R w k (v ∷ vs) legal = by_test (lane v == k) (kinds_are R (after R w v) k vs legal.1)
  where
    by_test : (b : Bool) → KindsAre (own k vs) → KindsAre (cond b (v ∷ own k vs) (own k vs))
    by_test true ih = (kind_is R w (lane v) (moment v) (kind v) v.act (reply v) (class_of v.act) (legal.0).says, ih)
    by_test false ih = ih

-- an event that is no end does not end the lane
pub goes_on : (p : Position) (v : Event) → p.is_over ≡ false → (heard p v.answer).is_over ≡ false
goes_on p v off = heard_over p v.answer ∙ off

once : (c : Class) (e : Ending) (p : Position) (v : Event) (vs : List Event) (told : List Reply) → Does c e p v vs → KindIs c (kind v) → p.is_over ≡ false
    → Runs e (heard_as c e p v.answer) vs told → ((q : Position) → Runs e q vs told → q.is_over ≡ false → ends_once (map entry vs) ≡ true)
    → ends_once (map entry (v ∷ vs)) ≡ true
unfolding KindIs
once ending e p v vs told does is off runs ih = by_kind (kind v == FAULT_KIND) refl
  where
    follows : (us : List Event) → kind v ≡ FAULT_KIND → EndFollows us → ends_once (map entry (v ∷ us)) ≡ true
    follows [] five h = absurd h
    follows (u ∷ []) five h = ap (λ n. not (n == 6) && (kind u == END_KIND)) five ∙ ap (λ n. n == 6) h.1
    follows (u ∷ t ∷ us) five h = absurd h

    alone : (us : List Event) → kind v ≡ END_KIND → Runs e (record (last_words e p (next_at p)) { is_over = true }) us told → ends_once (map entry (v ∷ us)) ≡ true
    alone [] six h = ap (λ n. n == 6) six
    alone (u ∷ us) six h = absurd (clash h.0)

    by_kind : (b : Bool) → (kind v == FAULT_KIND) ≡ b → ends_once (map entry (v ∷ vs)) ≡ true
    by_kind true five = follows vs (eqb-true (kind v) 5 five) (does.1 (eqb-true (kind v) 5 five))
    by_kind false five =
        let six : kind v ≡ END_KIND = is (λ x. clash (sym (eq-eqb (kind v) 5 x) ∙ five)) in
        alone vs six (subst (λ n. Runs e (end_heard e p n (reply v)) vs told) six runs)
once c e p v [] told does is off runs ih = absurd (clash (sym runs.0 ∙ goes_on p v off))
once c e p v (u ∷ vs) told does is off runs ih = ap (λ b. not b && ends_once (map entry (u ∷ vs))) is ∙ ih (heard_as c e p v.answer) runs (goes_on p v off)

runs_once : (vs : List Event) (e : Ending) (p : Position) (told : List Reply) → Runs e p vs told → KindsAre vs → p.is_over ≡ false → ends_once (map entry vs) ≡ true
unfolding KindsAre position_after
runs_once [] e p told runs kinds off = absurd (clash (sym runs.0 ∙ off))
runs_once (v ∷ vs) e p told runs kinds off =
    once (class_of v.act) e p v vs told runs.1 kinds.0 off runs.2 (λ q rest over. runs_once vs e q told rest kinds.1 over)

in_range : (f : ℕ → Bool) (a n : ℕ) → ((k : ℕ) → a ≤ k → k < a + n → f k ≡ true) → list_all f (range_with_len a n) ≡ true
in_range f a zero h = refl
in_range f a (suc n) h =
    both (f a) (list_all f (range_with_len (a + 1) n)) (h a (omega arith) (omega arith)) (in_range f (a + 1) n (λ k low high. h k (omega arith) (omega arith)))

-- the order keeps the rules of order files, by what they ask for
pub rules_by : (h : List Event) (inputs : List (List ℕ)) (es : List Ending) (told : List (List Reply))
    → list_all (fits_entry (length inputs)) (entries h) ≡ true → moments_rise (entries h) ≡ true → ((k : ℕ) → KindsAre (own k h))
    → ((k : ℕ) → k < length inputs → LaneRan (slice_index_or inputs k []) (ending_at es k) (own k h) (slice_index_or told k []))
    → FitsRules h inputs
unfolding keeps_rules
rules_by h inputs es told fits rise kinds runs =
    all_three (list_all (fits_entry (length inputs)) (entries h)) (moments_rise (entries h)) (list_all (λ k. ends_once (of_lane k (entries h))) (range_with_len 0 (length inputs)))
    fits rise
    (in_range (λ k. ends_once (of_lane k (entries h))) 0 (length inputs) (λ k low high.
    ap ends_once (of_own k h)
    ∙ runs_once (own k h) (ending_at es k) (begin (slice_index_or inputs k [])) (slice_index_or told k []) (runs k (omega arith)) (kinds k) refl))
  where
    all_three : (a b c : Bool) → a ≡ true → b ≡ true → c ≡ true → (a && b && c) ≡ true
    all_three a b c p q r = rw (p, q, r) refl

pub served_rules : (o : Opening) (R : Option (List Snapshot)) (h : List Event) (inputs : List (List ℕ)) (es : List Ending) (told : List (List Reply))
    → IsServed o R h inputs es told → FitsRules h inputs
served_rules o R h inputs es told s =
    rules_by h inputs es told (all_fit R (length inputs) (opened o) h s.legal s.lanes) (all_rise R (opened o) h s.legal) (λ k. kinds_are R (opened o) k h s.legal) s.runs
