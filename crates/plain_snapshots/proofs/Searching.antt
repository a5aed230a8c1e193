-- Names in byte order, and what a search among them finds.
use Rattle.std.proofs.Common.{◌≡◌, ⊎_elim, ℕ, zero, suc, ◌+◌, ◌<◌, ◌≤◌, Bool, true, false, cond, ◌&&◌, List, [], ◌∷◌, length, get_or, Some, None, Result, Ok, Err, refl, sym, ap, subst, ◌∙◌, arith, add-one}
use Rattle.std.specs.Prelude.{T, IsTrue, MatchResult}
use Rattle.std.specs.List.{IsAllAdjacentAnswer}
use Rattle.std.specs.List.Sorted.{IsBinarySearchResult, IsSearchInRange}
use Rattle.std.specs.Ordering.{is_lt, is_eq, ordering_reverse, eq_by_cmp}
use Rattle.std.specs.declared.cmp.Ordering.{Ordering}
use Rattle.std.specs.declared.cmp.Ordering.TheVariants.{Less, Equal, Greater}
use Rattle.std.specs.Cmp.Lexicographic.{nat_list_cmp_total}
use Rattle.std.proofs.lemmas.Bool.{cases_lt}
use Rattle.std.proofs.lemmas.Cmp.{tied_back, alike_right}
use Rattle.std.proofs.lemmas.List.Sorted.{searchable_from_sorted}
use Rattle.std.specs.FinMap.{find, is_sorted}
use Rattle.std.specs.FinMap.Entries.{below_all}
use Rattle.store_types.specs.Names.{text_cmp}

abbrev Text : Type 0
Text = List ℕ

abbrev Entry : Type 0
Entry = Text × Text

both : (a b : Bool) → T a → T b → T (a && b)
both true b p q = q
both false b p q = p

first : (a b : Bool) → T (a && b) → T a
first true b h = tt
first false b h = h

second : (a b : Bool) → T (a && b) → T b
second true b h = h
second false b h = absurd h

is_less : (o : Ordering) → T (is_lt o) → o ≡ Less
is_less Less h = refl
is_less Equal h = absurd h
is_less Greater h = absurd h

less : (x y : Text) → text_cmp x y ≡ Less → T (is_lt (text_cmp x y))
less x y e = subst (λ o. T (is_lt o)) (sym e) tt

-- ---- each name and the next

below_at : (x : Text) (es : List Entry) (i : ℕ) (d : Entry) → T (below_all text_cmp x es) → i < length es → text_cmp x (get_or es i d).0 ≡ Less
below_at x [] i d h lt = absurd (omega arith)
below_at x (e ∷ es) zero d h lt = is_less (text_cmp x e.0) (first (is_lt (text_cmp x e.0)) (below_all text_cmp x es) h)
below_at x (e ∷ es) (suc i) d h lt = below_at x es i d (second (is_lt (text_cmp x e.0)) (below_all text_cmp x es) h) (omega arith)

below_all-less : (x y : Text) (es : List Entry) → text_cmp x y ≡ Less → T (below_all text_cmp y es) → T (below_all text_cmp x es)
below_all-less x y [] e h = tt
below_all-less x y (f ∷ fs) e h =
    let yes = is_less (text_cmp y f.0) (first (is_lt (text_cmp y f.0)) (below_all text_cmp y fs) h) in
    both (is_lt (text_cmp x f.0)) (below_all text_cmp x fs) (less x f.0 (nat_list_cmp_total.trans x y f.0 e yes))
    (below_all-less x y fs e (second (is_lt (text_cmp y f.0)) (below_all text_cmp y fs) h))

abbrev Rises : List Entry → Type 0
Rises es = (k : ℕ) (d : Entry) → suc k < length es → text_cmp (get_or es k d).0 (get_or es (suc k) d).0 ≡ Less

rises : (es : List Entry) → T (is_sorted text_cmp es) → Rises es
rises [] h k d lt = absurd (omega arith)
rises (e ∷ es) h zero d lt = below_at e.0 es 0 d (first (below_all text_cmp e.0 es) (is_sorted text_cmp es) h) (omega arith)
rises (e ∷ es) h (suc k) d lt = rises es (second (below_all text_cmp e.0 es) (is_sorted text_cmp es) h) k d (omega arith)

sorted : (es : List Entry) → Rises es → T (is_sorted text_cmp es)
sorted [] h = tt
sorted (e ∷ []) h = tt
sorted (e ∷ f ∷ es) h =
    let rest = sorted (f ∷ es) (λ k d lt. h (suc k) d (omega arith)) in
    let now : text_cmp e.0 f.0 ≡ Less = h zero e (omega arith) in
    both (below_all text_cmp e.0 (f ∷ es)) (is_sorted text_cmp (f ∷ es))
    (both (is_lt (text_cmp e.0 f.0)) (below_all text_cmp e.0 es) (less e.0 f.0 now)
    (below_all-less e.0 f.0 es now (first (below_all text_cmp f.0 es) (is_sorted text_cmp es) rest)))
    rest

pub is_true : (b : Bool) → T b → b ≡ true
is_true true h = refl
is_true false h = absurd h

-- a test of each name and the next tells whether all are in order
pub tested : (es : List Entry) (r : Bool) → IsAllAdjacentAnswer (λ x y b. b ≡ is_lt (text_cmp x.0 y.0)) es r → r ≡ is_sorted text_cmp es
tested es true h =
    let next : Rises es = λ k d lt.
    let told = subst T (h k d (omega arith)) tt in
    subst (λ n. text_cmp (get_or es k d).0 (get_or es n d).0 ≡ Less) (add-one k) (is_less (text_cmp (get_or es k d).0 (get_or es (k + 1) d).0) told) in
    sym (is_true (is_sorted text_cmp es) (sorted es next))
tested es false h = unsorted (is_sorted text_cmp es) refl
  where
    unsorted : (b : Bool) → is_sorted text_cmp es ≡ b → false ≡ b
    unsorted false e = refl
    unsorted true e =
        let d : Entry = ([], []) in
        let now = rises es (subst T (sym e) tt) h.0 d (omega (arith, h.1)) in
        let next = subst (λ n. text_cmp (get_or es h.0 d).0 (get_or es n d).0 ≡ Less) (sym (add-one h.0)) now in
        h.2 d ∙ ap is_lt next

-- ---- what is found

other : (x y : Text) → text_cmp x y ≡ Less → eq_by_cmp text_cmp y x ≡ false
other x y e = ap is_eq (nat_list_cmp_total.antisymm y x) ∙ ap (λ o. is_eq (ordering_reverse o)) e

found : (name : Text) (es : List Entry) → T (is_sorted text_cmp es) → (i : ℕ) (d : Entry) → i < length es → text_cmp (get_or es i d).0 name ≡ Equal
    → find text_cmp name es ≡ Some (get_or es i d).1
found name [] h i d lt is = absurd (omega arith)
found name (e ∷ es) h zero d lt is = ap (λ b. cond b (Some e.1) (find text_cmp name es)) (ap is_eq (tied_back nat_list_cmp_total e.0 name is))
found name (e ∷ es) h (suc i) d lt is =
    let past = below_at e.0 es i d (first (below_all text_cmp e.0 es) (is_sorted text_cmp es) h) (omega arith) in
    let below = sym (alike_right nat_list_cmp_total (get_or es i d).0 name e.0 is) ∙ past in
    ap (λ b. cond b (Some e.1) (find text_cmp name es)) (other e.0 name below)
    ∙ found name es (second (below_all text_cmp e.0 es) (is_sorted text_cmp es) h) i d (omega arith) is

absent : (name : Text) (es : List Entry) → ((k : ℕ) (d : Entry) → k < length es → eq_by_cmp text_cmp name (get_or es k d).0 ≡ false) → find text_cmp name es ≡ None
absent name [] h = refl
absent name (e ∷ es) h =
    ap (λ b. cond b (Some e.1) (find text_cmp name es)) (h 0 e (omega arith)) ∙ absent name es (λ k d lt. h (suc k) d (omega arith))

past_name : (x name : Text) → text_cmp x name ≡ Greater → eq_by_cmp text_cmp name x ≡ false
past_name x name e = ap is_eq (nat_list_cmp_total.antisymm name x) ∙ ap (λ o. is_eq (ordering_reverse o)) e

pub searched : (es : List Entry) (name : Text) (r : Result ℕ ℕ) → IsTrue (is_sorted text_cmp es) → IsSearchInRange r (length es) → IsBinarySearchResult (λ e. text_cmp e.0 name) es r
    → MatchResult r (λ i. (d : Entry) → find text_cmp name es ≡ Some (get_or es i d).1) (λ i. find text_cmp name es ≡ None)
searched es name (Ok i) h within is = λ d. found name es (subst T (sym h) tt) i d within (is d)
searched es name (Err i) h within is =
    let order = rises es (subst T (sym h) tt) in
    let next = λ (k : ℕ) (d : Entry) (le : 0 ≤ k) (lt : k + 1 < length es).
    let now = subst (λ n. text_cmp (get_or es k d).0 (get_or es n d).0 ≡ Less) (sym (add-one k)) (order k d (omega arith)) in
    ap is_lt (nat_list_cmp_total.antisymm (get_or es (k + 1) d).0 (get_or es k d).0) ∙ ap (λ o. is_lt (ordering_reverse o)) now in
    let parted = is (searchable_from_sorted nat_list_cmp_total (λ (e : Entry). e.0) es name next) in
    absent name es (λ k d lt.
    ⊎_elim (λ (before : k < i). other (get_or es k d).0 name (parted.0 k d (omega arith) before)) (λ (behind : i ≤ k). past_name (get_or es k d).0 name (parted.1 k d behind lt)) (cases_lt k i))
