-- The schedule and the rounds of a block, where word t stands at t % 16 of sixteen words.
use Rattle.std.proofs.Common.{◌≡◌, ℕ, ◌+◌, ◌*◌, ◌%◌, ◌<◌, List, slice_index, slice_set, ap, ap₂, sym, ◌∙◌, arith}
use Rattle.sha2.specs.Sha256.{IsWindow, round, round_constants, rounds, schedule, window_word}
use Rattle.sha2.proofs.Schedule256.{IsWindow_next, rounds_next, window_word_at, window_word_place}

-- a word is put where the one sixteen before it stood
pub extended : (block words next : List ℕ) (n i k : ℕ) → 0 < n → n < 4 → i < 16 → k ≡ i + 1
    → next ≡ slice_set words i (window_word words i)
    → IsWindow words (schedule block 48) (16 * n + i) → IsWindow next (schedule block 48) (16 * n + k)
extended block words next n i k low high below after put before =
    let place : (16 * n + i) % 16 ≡ i = omega arith in
    let behind : 16 * n + i + 1 ≡ 16 * n + k = omega arith in
    let word : slice_index (schedule block 48) (16 * n + i) ≡ window_word words i =
    sym (window_word_place words n i
    ∙ window_word_at block words (16 * n + i) (omega arith) (omega arith) before) in
    rw put
    (rw (place, word, behind) at (IsWindow_next block words (16 * n + i) (omega arith) (omega arith) before))

-- word i of the sixteen that end before word 16 * (n + 1)
word_of : (block words : List ℕ) (n i : ℕ) → i < 16 → IsWindow words (schedule block 48) (16 * (n + 1))
    → slice_index words i ≡ slice_index (schedule block 48) (16 * n + i)
word_of block words n i below window =
    ap (slice_index words) (omega arith) ∙ window.1 i below
    ∙ ap (slice_index (schedule block 48)) (omega arith)

-- one round more, by word i
pub round_more : (block h words v next : List ℕ) (n i t k word : ℕ) → i < 16 → t ≡ 16 * n + i → k ≡ t + 1
    → IsWindow words (schedule block 48) (16 * (n + 1)) → word ≡ slice_index words i
    → v ≡ rounds h (schedule block 48) t → next ≡ round v (slice_index round_constants t) word
    → next ≡ rounds h (schedule block 48) k
round_more block h words v next n i t k word below at after window is before more =
    let scheduled : word ≡ slice_index (schedule block 48) t =
    is ∙ word_of block words n i below window ∙ ap (slice_index (schedule block 48)) (sym at) in
    more ∙ ap₂ (λ u x. round u (slice_index round_constants t) x) before scheduled
    ∙ sym (ap (rounds h (schedule block 48)) after ∙ rounds_next h (schedule block 48) t)
