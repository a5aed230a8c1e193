use Rattle.std.proofs.Common.{◌≡◌, ℕ, ◌<◌, ◌+◌, ◌*◌, [], drop, length, slice_index, slice_index_or}
use Rattle.sha2.specs.Sha256.{word_at}
use Rattle.hash_states.proofs.blocks.words_of_quarters.Given as goal

abbrev pub invariant-words : goal.invariant-words
invariant-words l = (length l.words ≡ 16)
    × ((j : ℕ) → j < 4 → (k : ℕ) → k < l.i
    → slice_index (slice_index_or l.words k []) j ≡ word_at (drop (j * l.len + l.at) l.bytes) (4 * k))
