-- One lane of a vector of four, and of a list of vectors.
use Rattle.std.proofs.Common.{◌≡◌, ℕ, ◌<◌, ◌-◌, ◌*◌, ◌/◌, ◌%◌, ◌^◌, List, [], ◌∷◌, get_or, length, replicate, slice_index, bit_or, ap, ap₂, ◌∙◌, sym, arith}
use Rattle.std.proofs.lemmas.List.{get_or-map, get_or-replicate}
use Rattle.std.proofs.lemmas.Simd.{get_or-zip2, length-zip2}
use Rattle.std.specs.Int.{w32, rotate_right}
use Rattle.std.specs.Simd.Lanes.{zip2}
use Rattle.hash_states.specs.Lanes.{lane_of}

-- an operation whose other argument is the same in each lane
pub lane-same : (f : ℕ → ℕ → ℕ) (x : List ℕ) (k j : ℕ) → length x ≡ 4 → j < 4
    → slice_index (zip2 f x (k ∷ k ∷ k ∷ k ∷ [])) j ≡ f (slice_index x j) k
lane-same f x k j len lt =
    get_or-zip2 f x (replicate 4 k) j 0 0 0 (omega arith) lt
    ∙ ap (f (slice_index x j)) (get_or-replicate 4 j k 0 lt)

-- two shifts are a rotation
pub lane-rotated : (x : List ℕ) (k j : ℕ) → 0 < k → k < 32 → length x ≡ 4 → j < 4
    → slice_index (zip2 bit_or (zip2 (λ n c. n / 2 ^ c) x (k ∷ k ∷ k ∷ k ∷ []))
    (zip2 (λ n c. n * 2 ^ c % 2 ^ 32) x ((32 - k) ∷ (32 - k) ∷ (32 - k) ∷ (32 - k) ∷ []))) j
    ≡ rotate_right w32 (slice_index x j) k
lane-rotated x k j low high len lt =
    let l : List ℕ = zip2 (λ n c. n / 2 ^ c) x (replicate 4 k) in
    let r : List ℕ = zip2 (λ n c. n * 2 ^ c % 2 ^ 32) x (replicate 4 (32 - k)) in
    let here : k % 32 ≡ k = omega arith in
    let there : (32 - k) % 32 ≡ 32 - k = omega arith in
    rw (here, there)
    (get_or-zip2 bit_or l r j 0 0 0 (omega (arith, length-zip2 (λ n c. n / 2 ^ c) x (replicate 4 k)))
    (omega (arith, length-zip2 (λ n c. n * 2 ^ c % 2 ^ 32) x (replicate 4 (32 - k))))
    ∙ ap₂ bit_or (lane-same (λ n c. n / 2 ^ c) x k j len lt)
    (lane-same (λ n c. n * 2 ^ c % 2 ^ 32) x (32 - k) j len lt))

-- ---- lists of vectors

-- the element at a place, in one lane
pub lane_of-at : {W : Type 0} (lane : W → ℕ → ℕ) (j : ℕ) (ws : List W) (k : ℕ) (w : W) → k < length ws
    → lane (get_or ws k w) j ≡ slice_index (lane_of lane j ws) k
lane_of-at lane j ws k w lt = sym (get_or-map (λ v. lane v j) ws k w 0 lt)
