-- Words of several messages side by side.
use Rattle.std.specs.Prelude.{◌≡◌, ℕ, ◌*◌, ◌<◌, List, map, slice_index}
use Rattle.sha2.specs.Sha256.{word_at}

-- those of message j
abbrev pub lane_of : {W : Type 0} → (W → ℕ → ℕ) → ℕ → List W → List ℕ
lane_of lane j words = map (λ w. lane w j) words

-- these are a block's words
abbrev pub AreWords : List ℕ → List ℕ → Type 0
AreWords words block = (k : ℕ) → k < 16 → slice_index words k ≡ word_at block (4 * k)
