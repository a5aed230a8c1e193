use Rattle.std.proofs.Common.{rules, ◌≡◌, ℕ, ◌+◌, ◌*◌, ◌≤◌, List, [], ◌∷◌, ◌++◌, get_or, length, set, suc, take, arith, sym, ap, ap₂, ◌∙◌, append_assoc, length-set}
use Rattle.std.proofs.lemmas.List.{take_all, take_more_set}
use Rattle.std.specs.Int.{w32, to_be_bytes}
use Rattle.sha2.specs.Sha256.{digest_bytes}
use Rattle.hash_states.proofs.state.bytes_of.Goals as goal

-- four writes, each behind the one before
take-set_four : (xs : List ℕ) (k a b c d : ℕ) → k + 4 ≤ length xs
    → take (k + 3 + 1) (set (set (set (set xs k a) (k + 1) b) (k + 2) c) (k + 3) d)
    ≡ take k xs ++ a ∷ b ∷ c ∷ d ∷ []
take-set_four xs k a b c d fits =
    let one : List ℕ = set xs k a in
    let two : List ℕ = set one (k + 1) b in
    let three : List ℕ = set two (k + 2) c in
    let len1 : length one ≡ length xs = length-set xs k a in
    let len2 : length two ≡ length one = length-set one (k + 1) b in
    let len3 : length three ≡ length two = length-set two (k + 2) c in
    let at3 : k + 3 ≡ k + 2 + 1 = omega arith in
    let at2 : k + 2 ≡ k + 1 + 1 = omega arith in
    take_more_set three (k + 3) d (omega arith)
    ∙ ap (λ l. l ++ d ∷ []) (
    ap (λ n. take n three) at3 ∙ take_more_set two (k + 2) c (omega arith)
    ∙ ap (λ l. l ++ c ∷ []) (
    ap (λ n. take n two) at2 ∙ take_more_set one (k + 1) b (omega arith)
    ∙ ap (λ l. l ++ b ∷ []) (take_more_set xs k a (omega arith))
    )
    )
    ∙ simp append_assoc

-- what xs is once a word's bytes are written from place k on
abbrev with_word : List ℕ → ℕ → List ℕ → List ℕ
with_word xs k word =
    let half : List ℕ = set (set xs k (get_or word 0 0)) (k + 1) (get_or word 1 0) in
    set (set half (k + 2) (get_or word 2 0)) (k + 3) (get_or word 3 0)

-- one more word of the hash value
next_word : (xs h word : List ℕ) (i : ℕ) → take (4 * i) xs ≡ digest_bytes h i → 4 * i + 4 ≤ length xs
    → word ≡ to_be_bytes w32 (get_or h i 0) → take (4 * (i + 1)) (with_word xs (4 * i) word) ≡ digest_bytes h (i + 1)
unfolding digest_bytes
next_word xs h word i before fits same =
    let count : 4 * (i + 1) ≡ 4 * i + 3 + 1 = omega arith in
    let next : suc i ≡ i + 1 = omega arith in
    ap (λ n. take n (with_word xs (4 * i) word)) count
    ∙ take-set_four xs (4 * i) (get_or word 0 0) (get_or word 1 0) (get_or word 2 0) (get_or word 3 0) fits
    ∙ ap₂ (λ l w. l ++ get_or w 0 0 ∷ get_or w 1 0 ∷ get_or w 2 0 ∷ get_or w 3 0 ∷ []) before same
    ∙ ap (digest_bytes h) next

pub words-init : goal.words-init
unfolding digest_bytes
words-init c = search rules

pub words-preserved : goal.words-preserved
words-preserved c = (
  simp length-set (c.words.invariant.0),
  next_word c.words.bytes c.args.value.now c.to_be_bytes.result c.words.i c.words.invariant.1 (omega arith)
      c.to_be_bytes.ensures,
)

pub returns : goal.returns
returns c =
    let all : c.words.i ≡ 8 = omega arith in
    sym (take_all 32 c.words.bytes (omega arith)) ∙ rw all at c.words.invariant.1
