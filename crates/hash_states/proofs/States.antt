-- A state goes on as the message does.
use Rattle.std.proofs.Common.{◌≡◌, ℕ, zero, suc, ◌+◌, ◌-◌, ◌*◌, ◌/◌, ◌%◌, ◌^◌, List, [], ◌∷◌, ◌++◌, length, take, drop, replicate, sym, ap, ap₂, ◌∙◌, append_assoc, length-append, length-drop, arith}
use Rattle.std.proofs.lemmas.List.{take-append-drop, length-take-le}
use Rattle.std.proofs.Math.Seq.{drop-append-add}
use Rattle.std.specs.Int.{w64, to_be_bytes}
use Rattle.sha2.specs.Sha256.{compress, digest_bytes, hash_after, initial_hash_256, padding, sha256}
use Rattle.sha2.proofs.Absorbing256.{hash_after-append}
use Rattle.hash_states.specs.States.{State, absorb, digest_of, state_after}

-- ---- blocks behind whole blocks

pub goes_on-blocks : (ini m x : List ℕ) (q n : ℕ) → length m ≡ q * 64
    → hash_after ini (m ++ x) (q + n) ≡ hash_after (hash_after ini m q) x n
unfolding hash_after
goes_on-blocks ini m x q zero len =
    let same : q + 0 ≡ q = omega arith in
    ap (hash_after ini (m ++ x)) same ∙ hash_after-append ini m x q (omega (arith, len))
goes_on-blocks ini m x q (suc n) len =
    let next : q + suc n ≡ suc (q + n) = omega arith in
    let at : (q + n) * 64 ≡ length m + n * 64 = omega (arith, len) in
    ap (hash_after ini (m ++ x)) next
    ∙ ap₂ (λ h b. compress h (take 64 b)) (goes_on-blocks ini m x q n len)
    (ap (λ k. drop k (m ++ x)) at ∙ drop-append-add m x (n * 64))

-- ---- any bytes behind any

module _ (ini m x : List ℕ) where
  abbrev blocks : ℕ
  blocks = length m / 64

  abbrev left : List ℕ
  left = drop (blocks * 64) m

  abbrev whole : List ℕ
  whole = take (blocks * 64) m

  length-whole : length whole ≡ blocks * 64
  length-whole = length-take-le (blocks * 64) m (omega arith)

  split : whole ++ (left ++ x) ≡ m ++ x
  split = sym (append_assoc whole left x) ∙ ap (λ l. l ++ x) (take-append-drop (blocks * 64) m)

  counts : length (m ++ x) / 64 ≡ blocks + length (left ++ x) / 64
  counts = omega (arith, length-append m x, length-append left x, length-drop (blocks * 64) m)

  hash_whole : hash_after ini whole blocks ≡ hash_after ini m blocks
  hash_whole =
      sym (hash_after-append ini whole left blocks (omega (arith, length-whole)))
      ∙ ap (λ l. hash_after ini l blocks) (take-append-drop (blocks * 64) m)

  hash_goes_on : hash_after (hash_after ini m blocks) (left ++ x) (length (left ++ x) / 64)
      ≡ hash_after ini (m ++ x) (length (m ++ x) / 64)
  hash_goes_on =
      ap (λ h. hash_after h (left ++ x) (length (left ++ x) / 64)) (sym hash_whole)
      ∙ sym (goes_on-blocks ini whole (left ++ x) blocks (length (left ++ x) / 64) length-whole)
      ∙ ap₂ (hash_after ini) split (sym counts)

  left_goes_on : drop (length (left ++ x) / 64 * 64) (left ++ x) ≡ drop (length (m ++ x) / 64 * 64) (m ++ x)
  left_goes_on =
      let at : length whole + length (left ++ x) / 64 * 64 ≡ length (m ++ x) / 64 * 64 = omega (arith, length-whole, counts) in
      sym (drop-append-add whole (left ++ x) (length (left ++ x) / 64 * 64))
      ∙ ap₂ drop at split

-- bytes taken in one part after another
pub absorb_more : (s : State) (x y : List ℕ) → absorb (absorb s x) y ≡ absorb s (x ++ y)
unfolding absorb
absorb_more s x y =
    let m : List ℕ = s.left ++ x in
    let total : ((s.total + length x) % 2 ^ 64 + length y) % 2 ^ 64 ≡ (s.total + length (x ++ y)) % 2 ^ 64 = omega (arith, length-append x y) in
    (λ i. record { hash = hash_goes_on s.hash m y i; left = left_goes_on s.hash m y i; total = total i })
    ∙ ap (λ l. record { hash = hash_after s.hash l (length l / 64); left = drop (length l / 64 * 64) l; total = (s.total + length (x ++ y)) % 2 ^ 64 })
    (append_assoc s.left x y)

-- a message is what was taken in from the first byte on
absorb_all : (m : List ℕ) → absorb (state_after []) m ≡ state_after m
unfolding absorb state_after hash_after
absorb_all m =
    let total : (0 + length m) % 2 ^ 64 ≡ length m % 2 ^ 64 = omega arith in
    ap (λ n. record { hash = hash_after initial_hash_256 m (length m / 64); left = drop (length m / 64 * 64) m; total = n }) total

pub absorb_is : (m bytes : List ℕ) → absorb (state_after m) bytes ≡ state_after (m ++ bytes)
absorb_is m bytes =
    ap (λ s. absorb s bytes) (sym (absorb_all m)) ∙ absorb_more (state_after []) m bytes ∙ absorb_all (m ++ bytes)

padding_is : (n : ℕ) → padding (n % 2 ^ 64) ≡ padding n
padding_is n =
    let zeros : n % 2 ^ 64 % 64 ≡ n % 64 = omega arith in
    let bits : n % 2 ^ 64 * 8 % 2 ^ 64 ≡ n * 8 % 2 ^ 64 = omega arith in
    ap₂ (λ k b. 0x80 ∷ replicate ((119 - k) % 64) 0 ++ to_be_bytes w64 b) zeros bits

pub digest_is : (m : List ℕ) → digest_of (state_after m) ≡ sha256 m
unfolding digest_of state_after sha256
digest_is m =
    ap (λ p. digest_bytes (hash_after (hash_after initial_hash_256 m (length m / 64)) (drop (length m / 64 * 64) m ++ p) (length (drop (length m / 64 * 64) m ++ p) / 64)) 8) (padding_is (length m))
    ∙ ap (λ h. digest_bytes h 8) (hash_goes_on initial_hash_256 m (padding (length m)))
