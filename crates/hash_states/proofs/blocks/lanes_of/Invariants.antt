use Rattle.std.proofs.Common.{◌≡◌, ℕ, ◌<◌, [], ◌∷◌, length, slice_index, slice_index_or}
use Rattle.hash_states.proofs.blocks.lanes_of.Given as goal

abbrev pub invariant-lanes : goal.invariant-lanes
invariant-lanes l = (length l.lanes ≡ 8)
    × ((k : ℕ) → k < l.i
    → slice_index_or l.lanes k [] ≡ slice_index l.a k ∷ slice_index l.b k ∷ slice_index l.c k ∷ slice_index l.d k ∷ [])
