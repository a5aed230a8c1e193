-- Two lists that rise and have the same members are one.
use Rattle.std.proofs.Common.{◌≡◌, ⊎_elim, Bool, true, false, ◌&&◌, if◌then◌else◌, List, [], ◌∷◌, filter, refl, sym, ap, ap₂, subst, ◌∙◌, arith}
use Rattle.std.specs.Cmp.{IsTotalOrder}
use Rattle.std.specs.List.{All, AllByRecursion, Contains}
use Rattle.std.specs.List.Sorted.{IsStrictlySortedBy}
use Rattle.std.specs.Ordering.{is_lt}
use Rattle.std.specs.declared.cmp.Ordering.{Ordering}
use Rattle.std.specs.declared.cmp.Ordering.TheVariants.{Less, Equal, Greater}
use Rattle.std.proofs.lemmas.Bool.{and_parts, and_from}
use Rattle.std.proofs.lemmas.Cmp.{tied_itself}
use Rattle.std.proofs.lemmas.List.Elements.{All-nil, All-cons, All-head, All-weaker, All-contains, All-filter}
use Rattle.std.proofs.lemmas.Map.Keys.{sorted_head, sorted_tail}
use Rattle.store_model.proofs.Insertions.{Contains-here, Contains-later, Contains-cases}

-- each is above the one before it
abbrev pub rises : {K : Type 0} → (K → K → Ordering) → List K → Bool
rises R [] = true
rises R (x ∷ []) = true
rises R (x ∷ y ∷ xs) = is_lt (R x y) && rises R (y ∷ xs)

is_less : (o : Ordering) → is_lt o ≡ true → o ≡ Less
is_less Less e = refl
is_less Equal e = cc
is_less Greater e = cc

pub not_member : {K : Type 0} (x : K) → Contains [] x → ⊥
not_member x (k, lt, at) = omega (arith, lt)

module _ {K : Type 0} (R : K → K → Ordering) (total : IsTotalOrder R) where
  rises_tail : (x : K) (xs : List K) → rises R (x ∷ xs) ≡ true → rises R xs ≡ true
  rises_tail x [] h = refl
  rises_tail x (y ∷ ys) h = (and_parts (is_lt (R x y)) (rises R (y ∷ ys)) h).1

  above : (x : K) (xs : List K) → rises R (x ∷ xs) ≡ true → All (λ y. R x y ≡ Less) xs
  above x [] h = All-nil (λ y. R x y ≡ Less)
  above x (y ∷ ys) h =
      let both = and_parts (is_lt (R x y)) (rises R (y ∷ ys)) h in
      let first : R x y ≡ Less = is_less (R x y) both.0 in
      All-cons (λ z. R x z ≡ Less) y ys first
      (All-weaker (λ z. R y z ≡ Less) (λ z. R x z ≡ Less) (λ z lt. total.trans x y z first lt) ys (above y ys both.1))

  rises_from : (x : K) (xs : List K) → All (λ y. R x y ≡ Less) xs → rises R xs ≡ true → rises R (x ∷ xs) ≡ true
  rises_from x [] over h = refl
  rises_from x (y ∷ ys) over h = and_from (is_lt (R x y)) (rises R (y ∷ ys)) (ap is_lt (All-head (λ z. R x z ≡ Less) y ys over)) h

  -- what passes a test rises still
  pub rises_filter : (p : K → Bool) (xs : List K) → rises R xs ≡ true → rises R (filter p xs) ≡ true
  rises_filter p [] h = refl
  rises_filter p (x ∷ xs) h = by_test (p x) refl (rises_filter p xs (rises_tail x xs h))
    where
      by_test : (b : Bool) → p x ≡ b → rises R (filter p xs) ≡ true → rises R (filter p (x ∷ xs)) ≡ true
      by_test true e rest =
          ap (λ b. rises R (if b then x ∷ filter p xs else filter p xs)) e
          ∙ rises_from x (filter p xs) (All-filter p (λ y. R x y ≡ Less) xs (above x xs h)) rest
      by_test false e rest = ap (λ b. rises R (if b then x ∷ filter p xs else filter p xs)) e ∙ rest

  less_itself : (x : K) → R x x ≡ Less → ⊥
  less_itself x e = absurd_equal (sym (tied_itself total x) ∙ e)
    where
      absurd_equal : Equal ≡ Less → ⊥
      absurd_equal e = cc

  both_ways : (x y : K) → R x y ≡ Less → R y x ≡ Less → ⊥
  both_ways x y one two = less_itself x (total.trans x y x one two)

  -- what stands in front of both is the same
  first_same : (x : K) (xs : List K) (y : K) (ys : List K) → All (λ z. R x z ≡ Less) xs → All (λ z. R y z ≡ Less) ys
      → Contains (y ∷ ys) x → Contains (x ∷ xs) y → x ≡ y
  first_same x xs y ys over_x over_y in_y in_x =
      ⊎_elim
      (λ (e : y ≡ x). sym e)
      (λ (later_x : Contains ys x).
      ⊎_elim
      (λ (e : x ≡ y). e)
      (λ (later_y : Contains xs y).
      absurd (both_ways x y (All-contains (λ z. R x z ≡ Less) xs y over_x later_y) (All-contains (λ z. R y z ≡ Less) ys x over_y later_x)))
      (Contains-cases x xs y in_x))
      (Contains-cases y ys x in_y)

  -- what stands behind the one stands behind the other
  rest_same : (x : K) (xs : List K) (y : K) (ys : List K) → x ≡ y → All (λ z. R x z ≡ Less) xs → ((q : K) → Contains (x ∷ xs) q → Contains (y ∷ ys) q)
      → (q : K) → Contains xs q → Contains ys q
  rest_same x xs y ys same over to q has =
      ⊎_elim
      (λ (e : y ≡ q). absurd (less_itself x (subst (λ z. R x z ≡ Less) (sym (same ∙ e)) (All-contains (λ z. R x z ≡ Less) xs q over has))))
      (λ (later : Contains ys q). later)
      (Contains-cases y ys q (to q (Contains-later x xs q has)))

  pub one_list : (xs ys : List K) → rises R xs ≡ true → rises R ys ≡ true
      → ((q : K) → Contains xs q → Contains ys q) → ((q : K) → Contains ys q → Contains xs q) → xs ≡ ys
  one_list [] [] h k to from = refl
  one_list [] (y ∷ ys) h k to from = absurd (not_member y (from y (Contains-here y ys)))
  one_list (x ∷ xs) [] h k to from = absurd (not_member x (to x (Contains-here x xs)))
  one_list (x ∷ xs) (y ∷ ys) h k to from =
      let over_x = above x xs h in
      let over_y = above y ys k in
      let same : x ≡ y = first_same x xs y ys over_x over_y (to x (Contains-here x xs)) (from y (Contains-here y ys)) in
      ap₂ (λ a b. a ∷ b) same
      (one_list xs ys (rises_tail x xs h) (rises_tail y ys k) (rest_same x xs y ys same over_x to) (rest_same y ys x xs (sym same) over_y from))

-- keys of a set rise
pub sorted_rises : {K : Type 0} (R : K → K → Ordering) (ks : List K) → IsStrictlySortedBy R ks → rises R ks ≡ true
sorted_rises R [] h = refl
sorted_rises R (k ∷ []) h = refl
sorted_rises R (k ∷ l ∷ ks) h =
    let first : AllByRecursion (λ z. R k z ≡ Less) (l ∷ ks) = sorted_head R k (l ∷ ks) h in
    and_from (is_lt (R k l)) (rises R (l ∷ ks)) (ap is_lt first.0) (sorted_rises R (l ∷ ks) (sorted_tail R k (l ∷ ks) h))
