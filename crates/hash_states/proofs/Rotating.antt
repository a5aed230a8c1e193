-- A rotation, bit by bit: rotations that stand within one another are one rotation by all their counts.
use Rattle.std.proofs.Common.{◌≡◌, ℕ, ◌+◌, ◌-◌, ◌*◌, ◌/◌, ◌%◌, ◌^◌, ◌<◌, ◌≤◌, bit_xor, max, inl, inr, sym, ap, ap₂, ◌∙◌, arith, add-zero, mod-lt, pow_pos, shr-shr}
use Rattle.std.proofs.lemmas.Bool.{cases_lt}
use Rattle.std.specs.Int.Bits.{xor_assoc}
use Rattle.std.proofs.lemmas.Nat.{or_lt, shr_le, shr_split, xor_lt}
use Rattle.std.proofs.lemmas.Nat.Bits.{bit_at-zero, bit_at_above, bit_at_cat_high, bit_at_cat_low, bit_at_or, bit_at_xor, same_from_bits_below}
use Rattle.std.specs.Int.{bit_at, w32, rotate_right}

-- the low bits of a number are those of the number
bit_at-mod : (n w i : ℕ) → i < w → bit_at (n % 2 ^ w) i ≡ bit_at n i
bit_at-mod n w i lt =
    sym (bit_at_cat_low (n / 2 ^ w) w (n % 2 ^ w) i lt) ∙ ap (λ x. bit_at x i) (shr_split n w)

bit_at-shr : (n k i : ℕ) → bit_at (n / 2 ^ k) i ≡ bit_at n (k + i)
bit_at-shr n k i = ap (λ x. x % 2) (shr-shr n k i)

-- the zeros that a shift brings in
bit_at-shl_low : (n k i : ℕ) → i < k → bit_at (n * 2 ^ k) i ≡ 0
bit_at-shl_low n k i lt =
    ap (λ x. bit_at x i) (sym (add-zero (n * 2 ^ k))) ∙ bit_at_cat_low n k 0 i lt ∙ bit_at-zero i

bit_at-shl_high : (n k i : ℕ) → k ≤ i → bit_at (n * 2 ^ k) i ≡ bit_at n (i - k)
bit_at-shl_high n k i le =
    ap (λ x. bit_at x i) (sym (add-zero (n * 2 ^ k))) ∙ bit_at_cat_high n k 0 i (pow_pos k) le

-- bit i of a word that was rotated
bit_at-rotated : (x k i : ℕ) → x < 2 ^ 32 → 0 < k → k < 32 → i < 32
    → bit_at (rotate_right w32 x k) i ≡ bit_at x ((i + k) % 32)
bit_at-rotated x k i small low high lt =
    let here : k % 32 ≡ k = omega arith in
    let there : (32 - k) % 32 ≡ 32 - k = omega arith in
    rw (here, there)
    (bit_at_or (x / 2 ^ k) (x * 2 ^ (32 - k) % 2 ^ 32) i
    ∙ ap₂ max (bit_at-shr x k i) (bit_at-mod (x * 2 ^ (32 - k)) 32 i lt)
    ∙ elim (cases_lt (i + k) 32) [
      | inl a ↦
          let at : (i + k) % 32 ≡ k + i = omega arith in
          let none : bit_at (x * 2 ^ (32 - k)) i ≡ 0 = bit_at-shl_low x (32 - k) i (omega arith) in
          rw (none, at) (omega arith)
      | inr b ↦
          let at : (i + k) % 32 ≡ i - (32 - k) = omega arith in
          let none : bit_at x (k + i) ≡ 0 = bit_at_above x 32 (k + i) small (omega arith) in
          let some : bit_at (x * 2 ^ (32 - k)) i ≡ bit_at x (i - (32 - k)) = bit_at-shl_high x (32 - k) i (omega arith) in
          rw (none, at, some) (omega arith)
    ])

rotated-lt : (x k : ℕ) → x < 2 ^ 32 → rotate_right w32 x k < 2 ^ 32
rotated-lt x k small =
    or_lt 32 _ _ (omega (arith, shr_le x (k % 32))) (mod-lt _ (pow_pos 32))

-- a rotation of two words' xor
rotated-xor : (x y k : ℕ) → x < 2 ^ 32 → y < 2 ^ 32 → 0 < k → k < 32
    → rotate_right w32 (bit_xor x y) k ≡ bit_xor (rotate_right w32 x k) (rotate_right w32 y k)
rotated-xor x y k sx sy low high =
    let both : bit_xor x y < 2 ^ 32 = xor_lt 32 x y sx sy in
    same_from_bits_below 32 _ _ (rotated-lt (bit_xor x y) k both)
    (xor_lt 32 _ _ (rotated-lt x k sx) (rotated-lt y k sy)) (λ i lt.
    bit_at-rotated (bit_xor x y) k i both low high lt ∙ bit_at_xor x y ((i + k) % 32)
    ∙ sym (bit_at_xor (rotate_right w32 x k) (rotate_right w32 y k) i
    ∙ ap₂ (λ p q. (p + q) % 2) (bit_at-rotated x k i sx low high lt) (bit_at-rotated y k i sy low high lt)))

-- one rotation after another
rotated-rotated : (x j k : ℕ) → x < 2 ^ 32 → 0 < j → 0 < k → j + k < 32
    → rotate_right w32 (rotate_right w32 x j) k ≡ rotate_right w32 x (k + j)
rotated-rotated x j k small lj lk high =
    let once : rotate_right w32 x j < 2 ^ 32 = rotated-lt x j small in
    same_from_bits_below 32 _ _ (rotated-lt (rotate_right w32 x j) k once) (rotated-lt x (k + j) small) (λ i lt.
    let at : ((i + k) % 32 + j) % 32 ≡ (i + (k + j)) % 32 = omega arith in
    bit_at-rotated (rotate_right w32 x j) k i once lk (omega arith) lt
    ∙ bit_at-rotated x j ((i + k) % 32) small lj (omega arith) (omega arith)
    ∙ ap (bit_at x) at
    ∙ sym (bit_at-rotated x (k + j) i small (omega arith) (omega arith) lt))

-- a word and a rotation of it, rotated
pub rotated-two : (x a b : ℕ) → x < 2 ^ 32 → 0 < a → 0 < b → a + b < 32
    → rotate_right w32 (bit_xor x (rotate_right w32 x b)) a
    ≡ bit_xor (rotate_right w32 x a) (rotate_right w32 x (a + b))
rotated-two x a b small la lb high =
    rotated-xor x (rotate_right w32 x b) a small (rotated-lt x b small) la (omega arith)
    ∙ ap (bit_xor (rotate_right w32 x a)) (rotated-rotated x b a small lb la (omega arith))

-- and that once more
pub rotated-three : (x a b c : ℕ) → x < 2 ^ 32 → 0 < a → 0 < b → 0 < c → a + (b + c) < 32
    → rotate_right w32 (bit_xor x (rotate_right w32 (bit_xor x (rotate_right w32 x c)) b)) a
    ≡ bit_xor (bit_xor (rotate_right w32 x a) (rotate_right w32 x (a + b))) (rotate_right w32 x (a + (b + c)))
rotated-three x a b c small la lb lc high =
    let near : rotate_right w32 x b < 2 ^ 32 = rotated-lt x b small in
    let far : rotate_right w32 x (b + c) < 2 ^ 32 = rotated-lt x (b + c) small in
    ap (λ y. rotate_right w32 (bit_xor x y) a) (rotated-two x b c small lb lc (omega arith))
    ∙ rotated-xor x _ a small (xor_lt 32 _ _ near far) la (omega arith)
    ∙ ap (bit_xor (rotate_right w32 x a))
    (rotated-xor _ _ a near far la (omega arith)
    ∙ ap₂ bit_xor (rotated-rotated x b a small lb la (omega arith))
    (rotated-rotated x (b + c) a small (omega arith) la (omega arith)))
    ∙ sym (xor_assoc (rotate_right w32 x a) (rotate_right w32 x (a + b)) (rotate_right w32 x (a + (b + c))))
