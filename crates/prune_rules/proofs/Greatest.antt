-- The greatest of a list of numbers, taken one by one from the top.
use Rattle.std.proofs.Common.{◌≡◌, ℕ, zero, suc, ◌<◌, ◌≤◌, inl, inr, Bool, true, false, not, ◌&&◌, ◌||◌, cond, eqb, ltb, max, fold, filter, List, [], ◌∷◌, Option, Some, None, refl, sym, ap, subst, ◌∙◌, arith}
use Rattle.std.proofs.Math.Bool.{or-false, or_assoc}
use Rattle.std.specs.List.{list_any}
use Rattle.std.proofs.lemmas.Bool.{cases_Bool, eqb-true, eq-eqb, ltb-true, lt-ltb, le-ltb, or_cases, or_left, or_right, true≢false}
use Rattle.prune_rules.specs.Prune.{greatest}
use Rattle.prune_rules.specs.Slots.{is_below}

abbrev pub among : ℕ → List ℕ → Bool
among q ps = list_any (λ p. eqb p q) ps

-- ---- the greatest

at_most : (a m : ℕ) (xs : List ℕ) → a ≤ m → ((q : ℕ) → among q xs ≡ true → q ≤ m) → fold max a xs ≤ m
at_most a m [] low all = low
at_most a m (x ∷ xs) low all =
    let here : x ≤ m = all x (or_left (eqb x x) (among x xs) (eq-eqb x x refl)) in
    at_most (max a x) m xs (omega arith) (λ q e. all q (or_right (eqb x q) (among q xs) e))

at_least : (a : ℕ) (xs : List ℕ) → a ≤ fold max a xs
at_least a [] = omega arith
at_least a (x ∷ xs) = omega (arith, at_least (max a x) xs)

above_all : (a q : ℕ) (xs : List ℕ) → among q xs ≡ true → q ≤ fold max a xs
above_all a q [] e = cc
above_all a q (x ∷ xs) e =
    elim (or_cases (eqb x q) (among q xs) e) [
      | inl here ↦ omega (arith, eqb-true x q here, at_least (max a x) xs)
      | inr later ↦ above_all (max a x) q xs later
    ]

top_is : (p q : ℕ) (ps : List ℕ) → among q (p ∷ ps) ≡ true → ((r : ℕ) → among r (p ∷ ps) ≡ true → r ≤ q) → fold max p ps ≡ q
top_is p q ps e all =
    let low : p ≤ q = all p (or_left (eqb p p) (among p ps) (eq-eqb p p refl)) in
    let high : fold max p ps ≤ q = at_most p q ps low (λ r h. all r (or_right (eqb p r) (among r ps) h)) in
    let below : q ≤ fold max p ps = elim (or_cases (eqb p q) (among q ps) e) [
      | inl here ↦ omega (arith, eqb-true p q here, at_least p ps)
      | inr later ↦ above_all p q ps later
    ] in
    omega arith

pub greatest_more : (n q : ℕ) (ps : List ℕ) → among q ps ≡ true → ((r : ℕ) → among r ps ≡ true → r ≤ q) →
    greatest (suc n) ps ≡ q ∷ greatest n (filter (λ r. ltb r q) ps)
unfolding greatest
greatest_more n q [] e all = cc
greatest_more n q (p ∷ ps) e all =
    ap (λ top. top ∷ greatest n (filter (λ r. ltb r top) (p ∷ ps))) (top_is p q ps e all)

-- ---- filters

filter_twice : (f g : ℕ → Bool) → ((q : ℕ) → f q ≡ true → g q ≡ true) → (ps : List ℕ) → filter f (filter g ps) ≡ filter f ps
filter_twice f g within [] = refl
filter_twice f g within (p ∷ ps) =
    let rest = filter_twice f g within ps in
    elim (cases_Bool (g p)) [
      | inl holds ↦ ap (λ b. filter f (cond b (p ∷ filter g ps) (filter g ps))) holds ∙ ap (λ xs. cond (f p) (p ∷ xs) xs) rest
      | inr out ↦ elim (cases_Bool (f p)) [
        | inl passes ↦ absurd (true≢false (sym (within p passes) ∙ out))
        | inr fails ↦ ap (λ b. filter f (cond b (p ∷ filter g ps) (filter g ps))) out ∙ rest ∙ sym (ap (λ b. cond b (p ∷ filter f ps) (filter f ps)) fails)
      ]
    ]

filter_same : (f g : ℕ → Bool) (ps : List ℕ) → ((q : ℕ) → among q ps ≡ true → f q ≡ g q) → filter f ps ≡ filter g ps
filter_same f g [] same = refl
filter_same f g (p ∷ ps) same =
    let here = same p (or_left (eqb p p) (among p ps) (eq-eqb p p refl)) in
    let rest = filter_same f g ps (λ q e. same q (or_right (eqb p q) (among q ps) e)) in
    ap (λ b. cond b (p ∷ filter f ps) (filter f ps)) here ∙ ap (λ xs. cond (g p) (p ∷ xs) xs) rest

filter_all : (ps : List ℕ) → filter (λ q. true) ps ≡ ps
filter_all [] = refl
filter_all (p ∷ ps) = ap (λ xs. p ∷ xs) (filter_all ps)

among_filter : (f : ℕ → Bool) (q : ℕ) (ps : List ℕ) → among q (filter f ps) ≡ true → (among q ps ≡ true) × (f q ≡ true)
among_filter f q [] e = cc
among_filter f q (p ∷ ps) e =
    elim (cases_Bool (f p)) [
      | inl holds ↦
          let split : (eqb p q || among q (filter f ps)) ≡ true = sym (ap (λ b. among q (cond b (p ∷ filter f ps) (filter f ps))) holds) ∙ e in
          elim (or_cases (eqb p q) (among q (filter f ps)) split) [
            | inl here ↦ (or_left (eqb p q) (among q ps) here, subst (λ r. f r ≡ true) (eqb-true p q here) holds)
            | inr later ↦ let rest = among_filter f q ps later in (or_right (eqb p q) (among q ps) rest.0, rest.1)
          ]
      | inr fails ↦
          let rest = among_filter f q ps (sym (ap (λ b. among q (cond b (p ∷ filter f ps) (filter f ps))) fails) ∙ e) in
          (or_right (eqb p q) (among q ps) rest.0, rest.1)
    ]

among_kept : (f : ℕ → Bool) (q : ℕ) (ps : List ℕ) → among q ps ≡ true → f q ≡ true → among q (filter f ps) ≡ true
among_kept f q [] e passes = e
among_kept f q (p ∷ ps) e passes =
    elim (or_cases (eqb p q) (among q ps) e) [
      | inl here ↦
          let holds : f p ≡ true = subst (λ r. f r ≡ true) (sym (eqb-true p q here)) passes in
          ap (λ b. among q (cond b (p ∷ filter f ps) (filter f ps))) holds ∙ or_left (eqb p q) (among q (filter f ps)) here
      | inr later ↦
          let rest = among_kept f q ps later passes in
          elim (cases_Bool (f p)) [
            | inl holds ↦ ap (λ b. among q (cond b (p ∷ filter f ps) (filter f ps))) holds ∙ or_right (eqb p q) (among q (filter f ps)) rest
            | inr fails ↦ ap (λ b. among q (cond b (p ∷ filter f ps) (filter f ps))) fails ∙ rest
          ]
    ]

-- ---- the loop

abbrev pub from_below : Option ℕ → List ℕ → List ℕ
from_below bound ps = filter (is_below bound) ps

-- Of the greatest n those that are not below the bound were taken, and so many are left to take.
pub record Takes (n : ℕ) (ps : List ℕ) (bound : Option ℕ) (left : ℕ) : Type 0 where
  pub taken : (q : ℕ) → among q (greatest n ps) ≡ ((among q ps && not (is_below bound q)) || among q (greatest left (from_below bound ps)))

no_more : (x y : Bool) → y ≡ ((x && not true) || y)
no_more true y = refl
no_more false y = refl

pub takes_begin : (n : ℕ) (ps : List ℕ) → Takes n ps None n
takes_begin n ps = record {
  taken = λ q. ap (λ xs. among q (greatest n xs)) (sym (filter_all ps)) ∙ no_more (among q ps) _;
}

-- the same numbers are below both bounds
pub takes_skip : (n : ℕ) (ps : List ℕ) (bound next : Option ℕ) (left : ℕ) → Takes n ps bound left →
    ((q : ℕ) → among q ps ≡ true → is_below bound q ≡ is_below next q) → Takes n ps next left
takes_skip n ps bound next left is same = record {
  taken = λ q. is.taken q
      ∙ ap (λ xs. (among q ps && not (is_below bound q)) || among q (greatest left xs)) (filter_same _ _ ps same)
      ∙ ap (λ b. b || among q (greatest left (from_below next ps)))
      (elim (cases_Bool (among q ps)) [
        | inl holds ↦ ap (λ b. among q ps && not b) (same q holds)
        | inr fails ↦ ap (λ a. a && not (is_below bound q)) fails ∙ sym (ap (λ a. a && not (is_below next q)) fails)
      ]);
}

pub lower : (bound : Option ℕ) (q r : ℕ) → is_below bound q ≡ true → ltb r q ≡ true → is_below bound r ≡ true
lower None q r e less = refl
lower (Some b) q r e less = let h : r < b = omega (arith, ltb-true q b e, ltb-true r q less) in lt-ltb r b h

-- at a number: it was taken, or it is the greatest one now, exactly where it is not below that one
settled : (ps : List ℕ) (bound : Option ℕ) (top : ℕ) → among top ps ≡ true → is_below bound top ≡ true →
    ((r : ℕ) → among r ps ≡ true → is_below bound r ≡ true → r ≤ top) →
    (q : ℕ) → ((among q ps && not (is_below bound q)) || eqb top q) ≡ (among q ps && not (ltb q top))
settled ps bound top is below all q =
    elim (cases_Bool (eqb top q)) [
      | inl same ↦
          let e = eqb-true top q same in
          let here : among q ps ≡ true = subst (λ r. among r ps ≡ true) e is in
          let end : ltb q top ≡ false = le-ltb q top (omega arith) in
          or_right (among q ps && not (is_below bound q)) (eqb top q) same ∙ sym (ap (λ x. x && not (ltb q top)) here ∙ ap not end)
      | inr other ↦ elim (cases_Bool (among q ps)) [
        | inr fails ↦ ap (λ b. (among q ps && not (is_below bound q)) || b) other
            ∙ ap (λ x. (x && not (is_below bound q)) || false) fails ∙ sym (ap (λ x. x && not (ltb q top)) fails)
        | inl here ↦
            let same_bounds : is_below bound q ≡ ltb q top = elim (cases_Bool (is_below bound q)) [
              | inl low ↦
                  let most : q ≤ top = all q here low in
                  let differs : top ≡ q → ⊥ = λ e. true≢false (sym (eq-eqb top q e) ∙ other) in
                  low ∙ sym (lt-ltb q top (omega arith))
              | inr high ↦ elim (cases_Bool (ltb q top)) [
                | inl less ↦ cc (lower bound top q below less)
                | inr fails ↦ high ∙ sym fails
              ]
            ] in
            ap (λ b. (among q ps && not (is_below bound q)) || b) other
            ∙ ap (λ b. (among q ps && not b) || false) same_bounds
            ∙ ap (λ x. (x && not (ltb q top)) || false) here ∙ or-false (not (ltb q top)) ∙ sym (ap (λ x. x && not (ltb q top)) here)
      ]
    ]

-- the greatest below the bound
pub takes_more : (n : ℕ) (ps : List ℕ) (bound : Option ℕ) (top left : ℕ) → Takes n ps bound (suc left) →
    among top ps ≡ true → is_below bound top ≡ true → ((r : ℕ) → among r ps ≡ true → is_below bound r ≡ true → r ≤ top) →
    Takes n ps (Some top) left
takes_more n ps bound top left is here below all =
    let step = greatest_more left top (from_below bound ps) (among_kept (is_below bound) top ps here below)
    (λ r e. let parts = among_filter (is_below bound) r ps e in all r parts.0 parts.1) in
    let rest = filter_twice (λ r. ltb r top) (is_below bound) (λ r less. lower bound top r below less) ps in
    record {
      taken = λ q. is.taken q
          ∙ ap (λ xs. (among q ps && not (is_below bound q)) || among q xs) step
          ∙ ap (λ xs. (among q ps && not (is_below bound q)) || (eqb top q || among q (greatest left xs))) rest
          ∙ sym (or_assoc _ (eqb top q) _)
          ∙ ap (λ b. b || among q (greatest left (filter (λ r. ltb r top) ps))) (settled ps bound top here below all q);
    }

greatest_none : (n : ℕ) → greatest n [] ≡ []
unfolding greatest
greatest_none zero = refl
greatest_none (suc n) = refl

greatest_zero : (ps : List ℕ) → greatest zero ps ≡ []
unfolding greatest
greatest_zero ps = refl

none_below : (bound : Option ℕ) (ps : List ℕ) → ((q : ℕ) → among q ps ≡ true → is_below bound q ≡ false) → from_below bound ps ≡ []
none_below bound [] none = refl
none_below bound (p ∷ ps) none =
    ap (λ b. cond b (p ∷ from_below bound ps) (from_below bound ps)) (none p (or_left (eqb p p) (among p ps) (eq-eqb p p refl)))
    ∙ none_below bound ps (λ q e. none q (or_right (eqb p q) (among q ps) e))

-- nothing is left to take
pub takes_zero : (n : ℕ) (ps : List ℕ) (bound : Option ℕ) → Takes n ps bound zero →
    (q : ℕ) → among q (greatest n ps) ≡ (among q ps && not (is_below bound q))
takes_zero n ps bound is q =
    is.taken q ∙ ap (λ xs. (among q ps && not (is_below bound q)) || among q xs) (greatest_zero (from_below bound ps)) ∙ or-false _

-- nothing is below the bound
pub takes_end : (n : ℕ) (ps : List ℕ) (bound : Option ℕ) (left : ℕ) → Takes n ps bound left →
    ((q : ℕ) → among q ps ≡ true → is_below bound q ≡ false) →
    (q : ℕ) → among q (greatest n ps) ≡ (among q ps && not (is_below bound q))
takes_end n ps bound left is none q =
    is.taken q ∙ ap (λ xs. (among q ps && not (is_below bound q)) || among q xs)
    (ap (greatest left) (none_below bound ps none) ∙ greatest_none left) ∙ or-false _
