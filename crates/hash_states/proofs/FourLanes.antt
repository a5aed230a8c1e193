-- Lists whose elements are four lanes, and four lists one by one.
use Rattle.std.proofs.Common.{◌≡◌, ℕ, ◌<◌, List, [], ◌∷◌, length, slice_index, slice_index_or, slice_set, refl, sym, ◌∙◌, arith, below_more}
use Rattle.std.proofs.lemmas.List.{length-map}
use Rattle.std.proofs.lemmas.Grind.{same_number_lists}
use Rattle.hash_states.specs.Lanes.{lane_of}
use Rattle.hash_states.proofs.LaneLemmas.{lane_of-at}

-- what holds of each lane
pub each_lane : (P : ℕ → Type 0) → P 0 × P 1 × P 2 × P 3 → (j : ℕ) → j < 4 → P j
each_lane P holds =
    below_more P 3
    (below_more P 2 (below_more P 1 (below_more P 0 (λ j below. absurd (omega arith)) holds.0) holds.1) holds.2)
    holds.3

-- a lane, by its elements
pub lane_is : (lanes : List (List ℕ)) (xs : List ℕ) (j : ℕ) → length xs ≡ length lanes
    → ((k : ℕ) → k < length lanes → slice_index (slice_index_or lanes k []) j ≡ slice_index xs k)
    → lane_of slice_index j lanes ≡ xs
lane_is lanes xs j long same =
    let len : length (lane_of slice_index j lanes) ≡ length lanes = length-map lanes (λ (w : List ℕ). slice_index w j) in
    same_number_lists (lane_of slice_index j lanes) xs (len ∙ sym long)
    (λ k below.
    let within : k < length lanes = omega arith in
    sym (lane_of-at slice_index j lanes k [] within) ∙ same k within)

-- ---- an element of each of four lists

abbrev set_in : List (List ℕ) → ℕ → ℕ → ℕ → List (List ℕ)
set_in lists j i x = slice_set lists j (slice_set (slice_index_or lists j []) i x)

-- the lists, with these written at a place of each
abbrev pub set_each : List (List ℕ) → ℕ → List ℕ → List (List ℕ)
set_each lists i xs =
    set_in (set_in (set_in (set_in lists 0 i (slice_index xs 0)) 1 i (slice_index xs 1)) 2 i (slice_index xs 2)) 3 i (slice_index xs 3)

pub set_each_at : (lists : List (List ℕ)) (i : ℕ) (xs : List ℕ) → length lists ≡ 4 → (j : ℕ) → j < 4
    → slice_index_or (set_each lists i xs) j [] ≡ slice_set (slice_index_or lists j []) i (slice_index xs j)
set_each_at (p ∷ q ∷ r ∷ s ∷ []) i xs long = each_lane _ (refl, refl, refl, refl)
set_each_at [] i xs long = absurd (omega arith)
set_each_at (p ∷ []) i xs long = absurd (omega arith)
set_each_at (p ∷ q ∷ []) i xs long = absurd (omega arith)
set_each_at (p ∷ q ∷ r ∷ []) i xs long = absurd (omega arith)
set_each_at (p ∷ q ∷ r ∷ s ∷ t ∷ more) i xs long = absurd (omega arith)
