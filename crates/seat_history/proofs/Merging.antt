-- The events at places that were merged of two lists, lane by lane.
use Rattle.std.proofs.Common.{◌≡◌, ◌≤◌, ◌<◌, ◌+◌, ℕ, Bool, true, false, List, [], ◌∷◌, ◌++◌, length, Option, Some, None, refl, sym, ap, subst, ◌∙◌, arith, cond, slice_get, nat_le, if◌then◌else◌}
use Rattle.std.specs.List.{cons_option}
use Rattle.std.proofs.lemmas.Bool.{eqb-true}
use Rattle.std.proofs.lemmas.Bool.Decides.{nat_tests}
use Rattle.turn_lock.specs.Places.{RisesWithin, insert_rising, merge}
use Rattle.store_history.specs.declared.act.Event.{Event}
use Rattle.store_history.specs.History.{own, is_of, lane}
use Rattle.store_history.specs.Seats.{picked, AreOf}
use Rattle.seat_history.specs.Lanes.{AreWithin}

-- the lane's own of what stands at a place
abbrev at : ℕ → List Event → ℕ → List Event
at k h m = own k (cons_option (slice_get h m) [])

own_first : (k : ℕ) (e : Event) (es : List Event) (b : Bool) → cond b (e ∷ own k es) (own k es) ≡ cond b (e ∷ []) [] ++ own k es
own_first k e es true = refl
own_first k e es false = refl

own_cons : (k : ℕ) (o : Option Event) (es : List Event) → own k (cons_option o es) ≡ own k (cons_option o []) ++ own k es
own_cons k None es = refl
own_cons k (Some e) es = own_first k e es (is_of k e)

own_picked : (k : ℕ) (h : List Event) (m : ℕ) (ms : List ℕ) → own k (picked h (m ∷ ms)) ≡ at k h m ++ own k (picked h ms)
own_picked k h m ms = own_cons k (slice_get h m) (picked h ms)

-- ---- places of other lanes

-- no event at these places is of the lane
abbrev pub AreElsewhere : ℕ → List Event → List ℕ → Type 0
AreElsewhere k h [] = Unit {0}
AreElsewhere k h (m ∷ ms) = (at k h m ≡ []) × AreElsewhere k h ms

elsewhere_own : (k : ℕ) (h : List Event) (ms : List ℕ) → AreElsewhere k h ms → own k (picked h ms) ≡ []
elsewhere_own k h [] s = refl
elsewhere_own k h (m ∷ ms) s = own_picked k h m ms ∙ ap (λ xs. xs ++ own k (picked h ms)) s.0 ∙ elsewhere_own k h ms s.1

not_of : (k : ℕ) (e : Event) (b : Bool) → b ≡ is_of k e → (lane e ≡ k → ⊥) → cond b (e ∷ []) [] ≡ []
not_of k e true is other = absurd (other (eqb-true (lane e) k (sym is)))
not_of k e false is other = refl

-- where all these events are of other lanes
pub within_elsewhere : (a b k : ℕ) (h : List Event) (ms : List ℕ) → ((j : ℕ) → a ≤ j → j < b → j ≡ k → ⊥) → AreWithin a b (picked h ms) → AreElsewhere k h ms
within_elsewhere a b k h [] other w = tt
within_elsewhere a b k h (m ∷ ms) other w = by_place (slice_get h m) refl (λ v. within_elsewhere a b k h ms other v)
  where
    by_place : (o : Option Event) → slice_get h m ≡ o → (AreWithin a b (picked h ms) → AreElsewhere k h ms) → (at k h m ≡ []) × AreElsewhere k h ms
    by_place None is ih =
        let w' : AreWithin a b (cons_option None (picked h ms)) = subst (λ p. AreWithin a b (cons_option p (picked h ms))) is w in
        (ap (λ p. own k (cons_option p [])) is, ih w')
    by_place (Some e) is ih =
        let w' : AreWithin a b (cons_option (Some e) (picked h ms)) = subst (λ p. AreWithin a b (cons_option p (picked h ms))) is w in
        (ap (λ p. own k (cons_option p [])) is ∙ not_of k e (is_of k e) refl (other (lane e) w'.0.0 w'.0.1), ih w'.1)

insert_elsewhere : (k : ℕ) (h : List Event) (x : ℕ) (ms : List ℕ) → at k h x ≡ [] → own k (picked h (insert_rising x ms)) ≡ own k (picked h ms)
insert_elsewhere k h x [] s = own_picked k h x [] ∙ ap (λ xs. xs ++ []) s
insert_elsewhere k h x (y ∷ ys) s = by_test (nat_le x y) (insert_elsewhere k h x ys s)
  where
    by_test : (b : Bool) → own k (picked h (insert_rising x ys)) ≡ own k (picked h ys) → own k (picked h (if b then x ∷ y ∷ ys else y ∷ insert_rising x ys)) ≡ own k (picked h (y ∷ ys))
    by_test true ih = own_picked k h x (y ∷ ys) ∙ ap (λ xs. xs ++ own k (picked h (y ∷ ys))) s
    by_test false ih = own_picked k h y (insert_rising x ys) ∙ ap (λ xs. at k h y ++ xs) ih ∙ sym (own_picked k h y ys)

pub merge_elsewhere_left : (k : ℕ) (h : List Event) (xs ys : List ℕ) → AreElsewhere k h xs → own k (picked h (merge xs ys)) ≡ own k (picked h ys)
merge_elsewhere_left k h [] ys s = refl
merge_elsewhere_left k h (x ∷ xs) ys s = insert_elsewhere k h x (merge xs ys) s.0 ∙ merge_elsewhere_left k h xs ys s.1

-- ---- a place before all of the lane's own

-- of these places none below x has an event of the lane
abbrev Late : ℕ → ℕ → List Event → List ℕ → Type 0
Late x k h [] = Unit {0}
Late x k h (y ∷ ys) = (y < x → at k h y ≡ []) × Late x k h ys

insert_late : (x k : ℕ) (h : List Event) (ms : List ℕ) → Late x k h ms → own k (picked h (insert_rising x ms)) ≡ at k h x ++ own k (picked h ms)
insert_late x k h [] late = own_picked k h x []
insert_late x k h (y ∷ ys) late = by_test (nat_le x y) refl (insert_late x k h ys late.1)
  where
    by_test : (b : Bool) → nat_le x y ≡ b → own k (picked h (insert_rising x ys)) ≡ at k h x ++ own k (picked h ys) → own k (picked h (if b then x ∷ y ∷ ys else y ∷ insert_rising x ys)) ≡ at k h x ++ own k (picked h (y ∷ ys))
    by_test true is ih = own_picked k h x (y ∷ ys)
    by_test false is ih =
        let below : y < x = grind (arith, nat_tests) in
        let s = late.0 below in
        own_picked k h y (insert_rising x ys) ∙ ap (λ xs. xs ++ own k (picked h (insert_rising x ys))) s ∙ ih
        ∙ ap (λ xs. at k h x ++ xs) (sym (own_picked k h y ys ∙ ap (λ xs. xs ++ own k (picked h ys)) s))

elsewhere_late : (x k : ℕ) (h : List Event) (ms : List ℕ) → AreElsewhere k h ms → Late x k h ms
elsewhere_late x k h [] s = tt
elsewhere_late x k h (y ∷ ys) s = ((λ below. s.0), elsewhere_late x k h ys s.1)

late_insert : (x w k : ℕ) (h : List Event) (ms : List ℕ) → x ≤ w → Late x k h ms → Late x k h (insert_rising w ms)
late_insert x w k h [] le late = ((λ below. absurd (omega arith)), tt)
late_insert x w k h (y ∷ ys) le late = by_test (nat_le w y) (late_insert x w k h ys le late.1)
  where
    by_test : (b : Bool) → Late x k h (insert_rising w ys) → Late x k h (if b then w ∷ y ∷ ys else y ∷ insert_rising w ys)
    by_test true ih = ((λ below. absurd (omega arith)), late)
    by_test false ih = (late.0, ih)

late_merge : (x a b k : ℕ) (h : List Event) (xs ys : List ℕ) → x ≤ a → RisesWithin a b xs → AreElsewhere k h ys → Late x k h (merge xs ys)
late_merge x a b k h [] ys le rises s = elsewhere_late x k h ys s
late_merge x a b k h (w ∷ ws) ys le rises s = late_insert x w k h (merge ws ys) (omega (arith, rises.0)) (late_merge x (w + 1) b k h ws ys (omega (arith, rises.0)) rises.2 s)

pub merge_elsewhere_right : (a b k : ℕ) (h : List Event) (xs ys : List ℕ) → RisesWithin a b xs → AreElsewhere k h ys → own k (picked h (merge xs ys)) ≡ own k (picked h xs)
merge_elsewhere_right a b k h [] ys rises s = elsewhere_own k h ys s
merge_elsewhere_right a b k h (x ∷ xs) ys rises s =
    insert_late x k h (merge xs ys) (late_merge x (x + 1) b k h xs ys (omega arith) rises.2 s)
    ∙ ap (λ es. at k h x ++ es) (merge_elsewhere_right (x + 1) b k h xs ys rises.2 s) ∙ sym (own_picked k h x xs)

-- ---- lanes

within_split : (a b : ℕ) (o : Option Event) (es : List Event) → AreWithin a b (cons_option o es) → AreWithin a b (cons_option o []) × AreWithin a b es
within_split a b None es w = (tt, w)
within_split a b (Some e) es w = ((w.0, tt), w.1)

within_cons : (a b : ℕ) (o : Option Event) (es : List Event) → AreWithin a b (cons_option o []) → AreWithin a b es → AreWithin a b (cons_option o es)
within_cons a b None es first w = w
within_cons a b (Some e) es first w = (first.0, w)

within_insert : (a b : ℕ) (h : List Event) (x : ℕ) (ms : List ℕ) → AreWithin a b (cons_option (slice_get h x) []) → AreWithin a b (picked h ms) → AreWithin a b (picked h (insert_rising x ms))
within_insert a b h x [] first w = first
within_insert a b h x (y ∷ ys) first w =
    let rest = within_split a b (slice_get h y) (picked h ys) w in by_test (nat_le x y) rest.0 (within_insert a b h x ys first rest.1)
  where
    by_test : (t : Bool) → AreWithin a b (cons_option (slice_get h y) []) → AreWithin a b (picked h (insert_rising x ys)) → AreWithin a b (picked h (if t then x ∷ y ∷ ys else y ∷ insert_rising x ys))
    by_test true at_y ih = within_cons a b (slice_get h x) (picked h (y ∷ ys)) first w
    by_test false at_y ih = within_cons a b (slice_get h y) (picked h (insert_rising x ys)) at_y ih

pub within_merge : (a b : ℕ) (h : List Event) (xs ys : List ℕ) → AreWithin a b (picked h xs) → AreWithin a b (picked h ys) → AreWithin a b (picked h (merge xs ys))
within_merge a b h [] ys v w = w
within_merge a b h (x ∷ xs) ys v w =
    let r = within_split a b (slice_get h x) (picked h xs) v in within_insert a b h x (merge xs ys) r.0 (within_merge a b h xs ys r.1 w)

pub within_wider : (a b c d : ℕ) (es : List Event) → c ≤ a → b ≤ d → AreWithin a b es → AreWithin c d es
within_wider a b c d [] lo hi w = tt
within_wider a b c d (e ∷ es) lo hi w = ((omega (arith, w.0.0), omega (arith, w.0.1)), within_wider a b c d es lo hi w.1)

pub within_one : (k : ℕ) (es : List Event) → AreOf k es → AreWithin k (k + 1) es
within_one k [] are = tt
within_one k (e ∷ es) are = let is = are.0 in ((omega (arith, is), omega (arith, is)), within_one k es are.1)
