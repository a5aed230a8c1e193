use Rattle.std.proofs.Common.{◌≡◌, ℕ, ◌<◌, ◌*◌, drop, length, slice_index}
use Rattle.sha2.specs.Sha256.{word_at}
use Rattle.hash_states.proofs.blocks.words_at.Given as goal

abbrev pub invariant-words : goal.invariant-words
invariant-words l = (length l.words ≡ 16)
    × ((k : ℕ) → k < l.i → slice_index l.words k ≡ word_at (drop l.at l.bytes) (4 * k))
