use Rattle.std.proofs.Common.{◌≡◌, ℕ, ◌<◌, [], length, slice_index, slice_index_or}
use Rattle.hash_states.proofs.blocks.values_of.Given as goal

abbrev pub invariant-lanes : goal.invariant-lanes
invariant-lanes l = (length l.values ≡ 4)
    × ((j : ℕ) → j < 4 → length (slice_index_or l.values j []) ≡ 8)
    × ((j : ℕ) → j < 4 → (k : ℕ) → k < l.i
    → slice_index (slice_index_or l.values j []) k ≡ slice_index (slice_index_or l.lanes k []) j)
