-- Bytes that are hashed in four quarters, each from the hash value behind the one before.
use Rattle.std.proofs.Common.{◌≡◌, ℕ, ◌<◌, ◌≤◌, ◌+◌, ◌*◌, ◌/◌, List, [], ◌∷◌, ◌++◌, length, take, drop, slice_index_or, refl, sym, ap, ◌∙◌, arith}
use Rattle.std.proofs.lemmas.List.{get_or_default, length-take-le, same_lists, take-append-drop}
use Rattle.sha2.specs.Sha256.{hash_after}
use Rattle.sha2.proofs.Absorbing256.{hash_after-append}
use Rattle.hash_states.specs.States.{AreAfter}
use Rattle.hash_states.proofs.FourLanes.{each_lane}
use Rattle.hash_states.proofs.States.{goes_on-blocks}

-- blocks of the same bytes behind whole blocks
goes_on_behind : (first bytes value next : List ℕ) (q n place : ℕ) → place ≡ q * 64 → place ≤ length bytes
    → value ≡ hash_after first bytes q → next ≡ hash_after value (drop place bytes) n
    → next ≡ hash_after first bytes (q + n)
goes_on_behind first bytes value next q n place at within before goes_on =
    let front : List ℕ = take place bytes in
    let rest : List ℕ = drop place bytes in
    let whole : front ++ rest ≡ bytes = take-append-drop place bytes in
    let len : length front ≡ q * 64 = length-take-le place bytes within ∙ at in
    let value_is : value ≡ hash_after first front q =
    before ∙ ap (λ (l : List ℕ). hash_after first l q) (sym whole)
    ∙ hash_after-append first front rest q (omega arith) in
    goes_on ∙ ap (λ (h : List ℕ). hash_after h rest n) value_is ∙ sym (goes_on-blocks first front rest q n len)
    ∙ ap (λ (l : List ℕ). hash_after first l (q + n)) whole

-- of each quarter a hash value is that after it, behind the one that is told of the quarter before
abbrev pub FollowEach : List ℕ → List ℕ → ℕ → List (List ℕ) → List (List ℕ) → Type 0
FollowEach first bytes len told values =
    (j : ℕ) → j < 4 → slice_index_or values j []
    ≡ hash_after (slice_index_or (first ∷ slice_index_or told 0 [] ∷ slice_index_or told 1 [] ∷ slice_index_or told 2 [] ∷ []) j [])
    (drop (j * len) bytes) (len / 64)

module _ (first bytes : List ℕ) (len : ℕ) (is : len ≡ length bytes / 256 * 64) where
  abbrev n : ℕ
  n = length bytes / 256

  count : len / 64 ≡ n
  count = omega arith

  -- one quarter more
  one_more : (told next : List ℕ) (place k m : ℕ) → place ≡ k * 64 → place ≤ length bytes → k + n ≡ m → told ≡ hash_after first bytes k
      → next ≡ hash_after told (drop place bytes) (len / 64) → next ≡ hash_after first bytes m
  one_more told next place k m at within end before follows =
      goes_on_behind first bytes told next k n place at within before (rw count at follows) ∙ ap (hash_after first bytes) end

  none : first ≡ hash_after first bytes 0
  unfolding hash_after
  none = refl

  -- where they follow one another they are those after each quarter
  pub are_after : (values : List (List ℕ)) → FollowEach first bytes len values values → AreAfter first bytes values
  are_after values each =
      let a = one_more first (slice_index_or values 0 []) (0 * len) 0 (n * 1) (omega arith) (omega arith) (omega arith) none (each 0 (omega arith)) in
      let b = one_more (slice_index_or values 0 []) (slice_index_or values 1 []) (1 * len) (n * 1) (n * 2) (omega arith) (omega arith) (omega arith) a (each 1 (omega arith)) in
      let c = one_more (slice_index_or values 1 []) (slice_index_or values 2 []) (2 * len) (n * 2) (n * 3) (omega arith) (omega arith) (omega arith) b (each 2 (omega arith)) in
      let d = one_more (slice_index_or values 2 []) (slice_index_or values 3 []) (3 * len) (n * 3) (n * 4) (omega arith) (omega arith) (omega arith) c (each 3 (omega arith)) in
      each_lane _ (a, b, c, d)

  -- and where they are, what follows each is the next one
  pub found_is : (told values : List (List ℕ)) → length told ≡ 4 → length values ≡ 4 → AreAfter first bytes told
      → FollowEach first bytes len told values → values ≡ told
  found_is told values four long after each =
      let a = one_more first (slice_index_or values 0 []) (0 * len) 0 (n * 1) (omega arith) (omega arith) (omega arith) none (each 0 (omega arith)) in
      let b = one_more (slice_index_or told 0 []) (slice_index_or values 1 []) (1 * len) (n * 1) (n * 2) (omega arith) (omega arith) (omega arith) (after 0 (omega arith)) (each 1 (omega arith)) in
      let c = one_more (slice_index_or told 1 []) (slice_index_or values 2 []) (2 * len) (n * 2) (n * 3) (omega arith) (omega arith) (omega arith) (after 1 (omega arith)) (each 2 (omega arith)) in
      let d = one_more (slice_index_or told 2 []) (slice_index_or values 3 []) (3 * len) (n * 3) (n * 4) (omega arith) (omega arith) (omega arith) (after 2 (omega arith)) (each 3 (omega arith)) in
      let same : (j : ℕ) → j < 4 → slice_index_or values j [] ≡ slice_index_or told j [] =
      each_lane _ (a ∙ sym (after 0 (omega arith)), b ∙ sym (after 1 (omega arith)), c ∙ sym (after 2 (omega arith)), d ∙ sym (after 3 (omega arith))) in
      same_lists values told (long ∙ sym four) (λ k d below.
      get_or_default values k d [] below ∙ same k (omega arith) ∙ get_or_default told k [] d (omega arith))
