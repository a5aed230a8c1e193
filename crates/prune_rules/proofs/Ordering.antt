-- Orders reach each place, and what sorting leaves rises.
use Rattle.std.proofs.Common.{◌≡◌, ℕ, ◌<◌, ◌≤◌, List, [], ◌∷◌, length, get_or, All, refl, sym, ap, subst, ◌∙◌, zero-add, arith}
use Rattle.std.specs.List.{range_with_len, Contains}
use Rattle.std.specs.List.Sorted.{IsPermutation, IsNonDecreasingBy}
use Rattle.std.proofs.lemmas.List.FromFn.{length-range_with_len, get_or-range_with_len}
use Rattle.std.proofs.lemmas.List.Elements.{All-get_or, All-from_get_or}
use Rattle.std.proofs.lemmas.List.Sorted.{IsPermutation-refl, length_permutation, All-permutation, Contains-permutation}
use Rattle.std.proofs.lemmas.List.{get_or_default}
use Rattle.prune_rules.specs.Slots.{Orders, Rises, place_of}

-- an order's steps
pub record Places (n : ℕ) (order : List ℕ) : Type 0 where
  pub within : (k : ℕ) → k < n → place_of order k < n
  pub found : (j : ℕ) → j < n → (k : ℕ) × (k < n) × (place_of order k ≡ j)

all_below : (n : ℕ) → All (λ j. j < n) (range_with_len 0 n)
all_below n = All-from_get_or (λ j. j < n) (range_with_len 0 n) 0
    (λ i h. omega (arith, h, length-range_with_len 0 n, get_or-range_with_len 0 n i 0 (omega (arith, h, length-range_with_len 0 n))))

has_each : (n j : ℕ) → j < n → Contains (range_with_len 0 n) j
has_each n j h = (j, omega (arith, length-range_with_len 0 n), get_or-range_with_len 0 n j j h ∙ zero-add j)

places_of : (n : ℕ) (order : List ℕ) → IsPermutation (range_with_len 0 n) order → Places n order
places_of n order is =
    let long : length order ≡ n = length_permutation (range_with_len 0 n) order is ∙ length-range_with_len 0 n in
    record {
      within = λ k h. All-get_or (λ j. j < n) order k k (omega arith) (All-permutation (λ j. j < n) (range_with_len 0 n) order is (all_below n));
      found = λ j h.
          let at = Contains-permutation (range_with_len 0 n) order j is (has_each n j h) in
          (at.0, omega (arith, at.1), get_or_default order at.0 at.0 j at.1 ∙ at.2);
    }

pub places : (n : ℕ) (order : List ℕ) → Orders n order → Places n order
places n [] is = record { within = λ k h. h; found = λ j h. (j, h, refl) }
places n (p ∷ ps) is = places_of n (p ∷ ps) (is (omega arith))

-- the places as they are numbered
pub orders_made : (n : ℕ) (old new : List ℕ) → (0 < length old → length old ≡ n) → new ≡ range_with_len 0 (length old) → Orders n new
orders_made n old new all made some =
    let long : length old ≡ n = all (omega (arith, some, ap length made, length-range_with_len 0 (length old))) in
    subst (IsPermutation (range_with_len 0 n)) (sym (made ∙ ap (range_with_len 0) long)) (IsPermutation-refl (range_with_len 0 n))

pub rises_by : (number : ℕ → ℕ) (n : ℕ) (order : List ℕ) → length order ≡ n → IsNonDecreasingBy number order → Rises (λ k. number (place_of order k)) n
rises_by number n order long up j k low high =
    subst (λ p. number p ≤ number (get_or order k k)) (get_or_default order j k j (omega arith))
    (up j k k low (omega arith))
