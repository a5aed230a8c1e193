-- Histories one after another, and a history that is longer by one event.
-- `moment_risen`, `moment_in_time`, `entries_length`, `own_more`, `own_same`, `lanes_more`, `picked_more`, `own_grown` and `own_kept` wait for several lanes: nothing names them yet.
use Rattle.std.proofs.Common.{◌≡◌, ◌≢◌, ℕ, zero, suc, ◌+◌, ◌<◌, ◌≤◌, Bool, true, false, ◌||◌, List, [], ◌∷◌, ◌++◌, length, cond, Option, Some, None, refl, sym, ap, subst, ◌∙◌, arith, ◌==◌, nat_lt, slice_get, append-nil}
use Rattle.std.specs.List.{cons_option}
use Rattle.std.proofs.lemmas.Bool.{eq-eqb, eqb-true, ltb-true, ltb-false}
use Rattle.std.proofs.lemmas.List.{map-append, length-map, length-append}
use Rattle.std.proofs.lemmas.Grind.{flat_map-append}
use Rattle.std.proofs.lemmas.List.Elements.{filter-append, filter_map-append}
use Rattle.store_types.specs.Times.{last_moment}
use Rattle.port_traits.specs.Readings.{Readings}
use Rattle.store_files.specs.Archive.{Snapshot}
use Rattle.store_history.specs.declared.act.Event.{Event}
use Rattle.store_history.specs.History.{World, is_of, own, entry, entries, lane, moment, after, after_all, sent_by, sent}
use Rattle.store_history.specs.Legal.{IsRight, IsLegal, later, moment_at, IsTimed, readings_left, moment_after}
use Rattle.store_history.specs.Woven.{AreLanes}
use Rattle.store_history.specs.Seats.{picked, has, Rises, is_by, AreOwn, AreOf}

-- ---- the world after a history

pub after_all_append : (R : Option (List Snapshot)) (w : World) (h g : List Event) → after_all R w (h ++ g) ≡ after_all R (after_all R w h) g
unfolding after_all
after_all_append R w [] g = refl
after_all_append R w (e ∷ h) g = after_all_append R (after R w e) h g

pub after_all_more : (R : Option (List Snapshot)) (w : World) (h : List Event) (e : Event) → after_all R w (h ++ e ∷ []) ≡ after R (after_all R w h) e
unfolding after_all
after_all_more R w h e = after_all_append R w h (e ∷ [])

pub events_after : (R : Option (List Snapshot)) (w : World) (h : List Event) → (after_all R w h).events ≡ w.events + length h
unfolding after_all after
events_after R w [] = omega arith
events_after R w (e ∷ h) = let ih = events_after R (after R w e) h in omega (arith, ih)

pub moment_is : (R : Option (List Snapshot)) (w : World) (h : List Event) → (after_all R w h).moment ≡ moment_after w.moment h
unfolding after_all after
moment_is R w [] = refl
moment_is R w (e ∷ h) = moment_is R (after R w e) h

-- ---- legality

pub legal_append : (R : Option (List Snapshot)) (w : World) (h g : List Event) → IsLegal R w h → IsLegal R (after_all R w h) g → IsLegal R w (h ++ g)
unfolding after_all
legal_append R w [] g legal more = more
legal_append R w (e ∷ h) g legal more = (legal.0, legal_append R (after R w e) h g legal.1 more)

pub legal_more : (R : Option (List Snapshot)) (w : World) (h : List Event) (e : Event) → IsLegal R w h → IsRight R (after_all R w h) e → IsLegal R w (h ++ e ∷ [])
legal_more R w h e legal right = legal_append R w h (e ∷ []) legal (right, tt)

-- calls never fall along a legal history
pub calls_risen : (R : Option (List Snapshot)) (w : World) (h : List Event) → IsLegal R w h → w.calls ≤ (after_all R w h).calls
unfolding after_all after
calls_risen R w [] legal = omega arith
calls_risen R w (e ∷ h) legal = let ih = calls_risen R (after R w e) h legal.1 in let one = (legal.0).counted in omega (arith, ih, one)

-- ---- the clock

pub timed_more : (c : Readings) (before : ℕ) (h : List Event) (e : Event) → IsTimed c before h
    → moment e ≡ moment_at (readings_left c h) (moment_after before h) → IsTimed c before (h ++ e ∷ [])
timed_more c before [] e timed is = (is, tt)
timed_more c before (v ∷ h) e timed is = (timed.0, timed_more (later c) (moment v) h e timed.1 is)

pub readings_more : (c : Readings) (h : List Event) (e : Event) → readings_left c (h ++ e ∷ []) ≡ later (readings_left c h)
readings_more c [] e = refl
readings_more c (v ∷ h) e = readings_more (later c) h e

pub moment_more : (before : ℕ) (h : List Event) (e : Event) → moment_after before (h ++ e ∷ []) ≡ moment e
moment_more before [] e = refl
moment_more before (v ∷ h) e = moment_more (moment v) h e

-- what the clock's rule gives of legality
pub moment_risen : (c : Readings) (before : ℕ) → before ≤ last_moment → before ≤ moment_at c before
moment_risen c before le = omega arith

pub moment_in_time : (c : Readings) (before : ℕ) → moment_at c before ≤ last_moment
moment_in_time c before = omega arith

-- ---- the order

pub entries_more : (h : List Event) (e : Event) → entries (h ++ e ∷ []) ≡ entries h ++ entry e ∷ []
entries_more h e = map-append entry h (e ∷ [])

pub sent_more : (h : List Event) (e : Event) → sent (h ++ e ∷ []) ≡ sent h ++ sent_by e.act
sent_more h e = flat_map-append (λ v. sent_by v.act) h (e ∷ []) ∙ ap (λ ps. sent h ++ ps) (append-nil (sent_by e.act))

pub entries_length : (h : List Event) → length (entries h) ≡ length h
entries_length h = length-map h entry

-- ---- lanes

pub own_append : (k : ℕ) (h g : List Event) → own k (h ++ g) ≡ own k h ++ own k g
own_append k h g = filter-append (is_of k) h g

pub own_more : (k : ℕ) (h : List Event) (e : Event) → lane e ≡ k → own k (h ++ e ∷ []) ≡ own k h ++ e ∷ []
own_more k h e is = own_append k h (e ∷ []) ∙ ap (λ b. own k h ++ cond b (e ∷ []) []) (eq-eqb (lane e) k is)

pub own_same : (k : ℕ) (h : List Event) (e : Event) → lane e ≢ k → own k (h ++ e ∷ []) ≡ own k h
own_same k h e ne = own_append k h (e ∷ []) ∙ by_test (lane e == k) refl
  where
    by_test : (b : Bool) → (lane e == k) ≡ b → own k h ++ cond b (e ∷ []) [] ≡ own k h
    by_test true is = absurd (ne (eqb-true (lane e) k is))
    by_test false is = append-nil (own k h)

-- of a single lane
pub own_all : (k : ℕ) (h : List Event) → AreOf k h → own k h ≡ h
own_all k [] are = refl
own_all k (e ∷ h) are = ap (λ b. cond b (e ∷ own k h) (own k h)) (eq-eqb (lane e) k are.0) ∙ ap (λ xs. e ∷ xs) (own_all k h are.1)

pub of_more : (k : ℕ) (h : List Event) (e : Event) → AreOf k h → lane e ≡ k → AreOf k (h ++ e ∷ [])
of_more k [] e are is = (is, tt)
of_more k (v ∷ h) e are is = (are.0, of_more k h e are.1 is)

pub lanes_append : (n : ℕ) (h g : List Event) → AreLanes n h → AreLanes n g → AreLanes n (h ++ g)
lanes_append n [] g are more = more
lanes_append n (e ∷ h) g are more = (are.0, lanes_append n h g are.1 more)

pub lanes_more : (n : ℕ) (h : List Event) (e : Event) → AreLanes n h → lane e < n → AreLanes n (h ++ e ∷ [])
lanes_more n h e are is = lanes_append n h (e ∷ []) are (is, tt)

pub of_lanes : (k n : ℕ) (h : List Event) → k < n → AreOf k h → AreLanes n h
of_lanes k n [] lt are = tt
of_lanes k n (e ∷ h) lt are = (subst (λ x. x < n) (sym are.0) lt, of_lanes k n h lt are.1)

-- ---- places

get_last : (h : List Event) (e : Event) → slice_get (h ++ e ∷ []) (length h) ≡ Some e
get_last [] e = refl
get_last (v ∷ h) e = get_last h e

get_front : (h g : List Event) (i : ℕ) → i < length h → slice_get (h ++ g) i ≡ slice_get h i
get_front [] g i lt = absurd (omega arith)
get_front (v ∷ h) g zero lt = refl
get_front (v ∷ h) g (suc i) lt = get_front h g i (omega arith)

get_past : (h : List Event) (i : ℕ) → length h ≤ i → slice_get h i ≡ None
get_past [] i le = refl
get_past (v ∷ h) zero le = absurd (omega arith)
get_past (v ∷ h) (suc i) le = get_past h i (omega arith)

-- the places below a length
abbrev pub Below : ℕ → List ℕ → Type 0
Below n [] = Unit {0}
Below n (m ∷ ms) = (m < n) × Below n ms

-- places within a history stay those of its events where it grows
pub picked_grown : (h g : List Event) (places : List ℕ) → Below (length h) places → picked (h ++ g) places ≡ picked h places
picked_grown h g [] low = refl
picked_grown h g (m ∷ ms) low =
    ap (λ (o : Option Event). cons_option o (picked (h ++ g) ms)) (get_front h g m low.0)
    ∙ ap (λ xs. cons_option (slice_get h m) xs) (picked_grown h g ms low.1)

pub picked_more : (h : List Event) (places : List ℕ) (e : Event) → Below (length h) places → picked (h ++ e ∷ []) (places ++ length h ∷ []) ≡ picked h places ++ e ∷ []
picked_more h places e low =
    filter_map-append (λ i. slice_get (h ++ e ∷ []) i) places (length h ∷ [])
    ∙ ap (λ xs. xs ++ picked (h ++ e ∷ []) (length h ∷ [])) (picked_grown h (e ∷ []) places low)
    ∙ ap (λ (o : Option Event). picked h places ++ cons_option o []) (get_last h e)

-- ---- the places that a seat knows

clash : true ≡ false → ⊥
clash h = cc

has_more : (ms : List ℕ) (n i : ℕ) → has (ms ++ n ∷ []) i ≡ (has ms i || (n == i))
has_more [] n i = or_false (n == i)
  where
    or_false : (b : Bool) → (b || false) ≡ b
    or_false true = refl
    or_false false = refl
has_more (m ∷ ms) n i = ap (λ b. (m == i) || b) (has_more ms n i) ∙ sym (or_assoc (m == i) (has ms i) (n == i))
  where
    or_assoc : (a b c : Bool) → ((a || b) || c) ≡ (a || (b || c))
    or_assoc true b c = refl
    or_assoc false b c = refl

not_eq : (a b : ℕ) → a ≢ b → (a == b) ≡ false
not_eq a b ne = by_test (a == b) refl
  where
    by_test : (t : Bool) → (a == b) ≡ t → (a == b) ≡ false
    by_test true is = absurd (ne (eqb-true a b is))
    by_test false is = is

-- they are below the history's length
pub own_below : (k : ℕ) (h : List Event) (places : List ℕ) → AreOwn k h places → Below (length h) places
own_below k h places own_places = each places (λ i is. inside i (sym (own_places.same i) ∙ is))
  where
    inside : (i : ℕ) → is_by k (slice_get h i) ≡ true → i < length h
    inside i is = by_test (nat_lt i (length h)) refl
      where
        by_test : (b : Bool) → nat_lt i (length h) ≡ b → i < length h
        by_test true lt = ltb-true i (length h) lt
        by_test false ge = absurd (clash (sym is ∙ ap (λ (o : Option Event). is_by k o) (get_past h i (ltb-false i (length h) ge))))

    each : (ms : List ℕ) → ((i : ℕ) → has ms i ≡ true → i < length h) → Below (length h) ms
    each [] all = tt
    each (m ∷ ms) all =
        (all m (ap (λ b. b || has ms m) (eq-eqb m m refl)), each ms (λ i is. all i (ap (λ b. (m == i) || b) is ∙ or_true (m == i))))
      where
        or_true : (b : Bool) → (b || true) ≡ true
        or_true true = refl
        or_true false = refl

rise_more : (low n : ℕ) (ms : List ℕ) → low ≤ n → Rises low ms → Below n ms → Rises low (ms ++ n ∷ [])
rise_more low n [] le rise below = (le, tt)
rise_more low n (m ∷ ms) le rise below = (rise.0, rise_more (suc m) n ms (omega (arith, below.0)) rise.1 below.1)

past_last : (k : ℕ) (h : List Event) (e : Event) (i : ℕ) → length h < i → is_by k (slice_get (h ++ e ∷ []) i) ≡ is_by k (slice_get h i)
past_last k h e i lt =
    ap (λ (o : Option Event). is_by k o) (get_past (h ++ e ∷ []) i (omega (arith, length-append h (e ∷ []))) ∙ sym (get_past h i (omega arith)))

-- of a history that is longer by an event of the lane
pub own_grown : (k : ℕ) (h : List Event) (places : List ℕ) (e : Event) → AreOwn k h places → lane e ≡ k → AreOwn k (h ++ e ∷ []) (places ++ length h ∷ [])
own_grown k h places e own_places is = record {
  rise = rise_more 0 (length h) places (omega arith) own_places.rise (own_below k h places own_places);
  same = λ i. has_more places (length h) i ∙ at i (length h == i) refl;
}
  where
    elsewhere : (i : ℕ) → length h ≢ i → is_by k (slice_get (h ++ e ∷ []) i) ≡ is_by k (slice_get h i)
    elsewhere i ne = by_test (nat_lt i (length h)) refl
      where
        by_test : (b : Bool) → nat_lt i (length h) ≡ b → is_by k (slice_get (h ++ e ∷ []) i) ≡ is_by k (slice_get h i)
        by_test true lt = ap (λ (o : Option Event). is_by k o) (get_front h (e ∷ []) i (ltb-true i (length h) lt))
        by_test false ge = past_last k h e i (let le = ltb-false i (length h) ge in omega (arith, le, ne))

    or_false : (b : Bool) → (b || false) ≡ b
    or_false true = refl
    or_false false = refl

    or_true : (b : Bool) → (b || true) ≡ true
    or_true true = refl
    or_true false = refl

    at : (i : ℕ) (b : Bool) → (length h == i) ≡ b → (has places i || (length h == i)) ≡ is_by k (slice_get (h ++ e ∷ []) i)
    at i true here =
        ap (λ b. has places i || b) here ∙ or_true (has places i)
        ∙ sym (ap (λ n. is_by k (slice_get (h ++ e ∷ []) n)) (sym (eqb-true (length h) i here)) ∙ ap (λ (o : Option Event). is_by k o) (get_last h e) ∙ eq-eqb (lane e) k is)
    at i false away =
        ap (λ b. has places i || b) away ∙ or_false (has places i) ∙ own_places.same i
        ∙ sym (elsewhere i (λ eq. clash (sym (eq-eqb (length h) i eq) ∙ away)))

-- and by an event of another
pub own_kept : (k : ℕ) (h : List Event) (places : List ℕ) (e : Event) → AreOwn k h places → lane e ≢ k → AreOwn k (h ++ e ∷ []) places
own_kept k h places e own_places ne = record { rise = own_places.rise; same = λ i. own_places.same i ∙ sym (at i (length h == i) refl) }
  where
    at : (i : ℕ) (b : Bool) → (length h == i) ≡ b → is_by k (slice_get (h ++ e ∷ []) i) ≡ is_by k (slice_get h i)
    at i true here =
        let eq : length h ≡ i = eqb-true (length h) i here in
        ap (λ n. is_by k (slice_get (h ++ e ∷ []) n)) (sym eq) ∙ ap (λ (o : Option Event). is_by k o) (get_last h e) ∙ not_eq (lane e) k ne
        ∙ sym (ap (λ (o : Option Event). is_by k o) (get_past h i (omega (arith, eq))))
    at i false away = by_test (nat_lt i (length h)) refl
      where
        by_test : (b : Bool) → nat_lt i (length h) ≡ b → is_by k (slice_get (h ++ e ∷ []) i) ≡ is_by k (slice_get h i)
        by_test true lt = ap (λ (o : Option Event). is_by k o) (get_front h (e ∷ []) i (ltb-true i (length h) lt))
        by_test false ge =
            past_last k h e i (let le = ltb-false i (length h) ge in let apart : length h ≢ i = λ eq. clash (sym (eq-eqb (length h) i eq) ∙ away) in omega (arith, le, apart))
