-- A loop that turns to true what a test passes, one place after another along an order.
use Rattle.std.proofs.Common.{◌≡◌, ℕ, ◌+◌, ◌<◌, ◌≤◌, ◌⊎◌, inl, inr, Bool, true, false, ◌||◌, List, length, get_or, set, sym, ap, subst, ◌∙◌, arith}
use Rattle.std.proofs.Math.Bool.{or-false}
use Rattle.std.proofs.lemmas.List.{get_or-set_same, get_or-set_other}
use Rattle.std.proofs.lemmas.Bool.{cases_eq, or_right}
use Rattle.prune_rules.specs.Slots.{place_of}

-- What came before step i is done. Each place is as it was, or done.
pub record Turned {X : Type 0} (g : X → Bool) (d : X) (f : ℕ → Bool) (old new : List X) (order : List ℕ) (from i : ℕ) : Type 0 where
  pub done : (k : ℕ) → from ≤ k → k < i → g (get_or new (place_of order k) d) ≡ (g (get_or old (place_of order k) d) || f (place_of order k))
  pub each : (j : ℕ) → (g (get_or new j d) ≡ g (get_or old j d)) ⊎ (g (get_or new j d) ≡ (g (get_or old j d) || f j))

same_as_done : (a b x : Bool) → x ≡ false → a ≡ b → a ≡ (b || x)
same_as_done a b x fails e = e ∙ sym (ap (λ y. b || y) fails ∙ or-false b)

set_here : {X : Type 0} (g : X → Bool) (d : X) (f : ℕ → Bool) (old new : List X) (order : List ℕ) (from i : ℕ) (v : X) →
    place_of order i < length new → g v ≡ true → f (place_of order i) ≡ true → Turned g d f old new order from i →
    Turned g d f old (set new (place_of order i) v) order from (i + 1)
set_here g d f old new order from i v within turns passes is =
    let at = place_of order i in
    let here : g (get_or (set new at v) at d) ≡ (g (get_or old at d) || f at) =
    ap g (get_or-set_same new at v d within) ∙ turns ∙ sym (or_right (g (get_or old at d)) (f at) passes) in
    record {
      done = λ k low h. elim (cases_eq (place_of order k) at) [
        | inl same ↦ subst (λ j. g (get_or (set new at v) j d) ≡ (g (get_or old j d) || f j)) (sym same) here
        | inr other ↦
            let early : k < i = elim (cases_eq k i) [
              | inl level ↦ absurd (other (ap (place_of order) level))
              | inr before ↦ omega arith
            ] in
            ap g (get_or-set_other new at (place_of order k) v d other) ∙ is.done k low early
      ];
      each = λ j. elim (cases_eq j at) [
        | inl same ↦ inr (subst (λ p. g (get_or (set new at v) p d) ≡ (g (get_or old p d) || f p)) (sym same) here)
        | inr other ↦
            let kept = ap g (get_or-set_other new at j v d other) in
            elim (is.each j) [
              | inl was ↦ inl (kept ∙ was)
              | inr was ↦ inr (kept ∙ was)
            ]
      ];
    }

pub turned_set : {X : Type 0} (g : X → Bool) (d : X) (f : ℕ → Bool) (old new : List X) (order : List ℕ) (from i j : ℕ) (v : X) →
    j ≡ place_of order i → j < length new → g v ≡ true → f j ≡ true → Turned g d f old new order from i →
    Turned g d f old (set new j v) order from (i + 1)
turned_set g d f old new order from i j v same within turns passes is =
    subst (λ p. Turned g d f old (set new p v) order from (i + 1)) (sym same)
    (set_here g d f old new order from i v (subst (λ p. p < length new) same within) turns (subst (λ p. f p ≡ true) same passes) is)

skip_here : {X : Type 0} (g : X → Bool) (d : X) (f : ℕ → Bool) (old new : List X) (order : List ℕ) (from i : ℕ) →
    f (place_of order i) ≡ false → Turned g d f old new order from i → Turned g d f old new order from (i + 1)
skip_here g d f old new order from i fails is =
    let at = place_of order i in
    let here : g (get_or new at d) ≡ (g (get_or old at d) || f at) = elim (is.each at) [
      | inl same ↦ same_as_done _ _ (f at) fails same
      | inr done ↦ done
    ] in
    record {
      done = λ k low h. elim (cases_eq k i) [
        | inl same ↦ subst (λ j. g (get_or new (place_of order j) d) ≡ (g (get_or old (place_of order j) d) || f (place_of order j))) (sym same) here
        | inr other ↦ is.done k low (omega arith)
      ];
      each = is.each;
    }

pub turned_skip : {X : Type 0} (g : X → Bool) (d : X) (f : ℕ → Bool) (old new : List X) (order : List ℕ) (from i j : ℕ) →
    j ≡ place_of order i → f j ≡ false → Turned g d f old new order from i → Turned g d f old new order from (i + 1)
turned_skip g d f old new order from i j same fails is = skip_here g d f old new order from i (subst (λ p. f p ≡ false) same fails) is
