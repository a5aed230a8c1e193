-- The shift is linear over exclusive or, and low zero bits go out by it as they are.
use Rattle.std.proofs.Common.{◌≡◌, ℕ, zero, suc, ◌+◌, ◌*◌, ◌/◌, ◌%◌, ◌^◌, ◌<◌, Bool, true, false, ◌==◌, bit_xor, if◌then◌else◌, refl, sym, ap, ◌∙◌, zero-add, arith}
use Rattle.std.proofs.Math.Nat.{pow-suc, mul_assoc}
use Rattle.std.specs.Int.Bits.{xor_zero_r, xor_comm, xor_assoc, xor_shr, xor_mod, xor_shifted}
use Rattle.crc_core.specs.Crc.{polynomial, shift_bit, shift_bits}

-- what the bit that is shifted out takes in
abbrev taken_in : ℕ → ℕ
taken_in d = if d == 1 then polynomial else 0

taken_by : (out : Bool) (rest : ℕ) → (if out then bit_xor rest polynomial else rest) ≡ bit_xor rest (if out then polynomial else 0)
taken_by true rest = refl
taken_by false rest = sym (xor_zero_r rest)

taken_in-xor : (a b : ℕ) → a < 2 → b < 2 → taken_in (bit_xor a b) ≡ bit_xor (taken_in a) (taken_in b)
taken_in-xor zero b small_a small_b = refl
taken_in-xor (suc zero) zero small_a small_b = refl
taken_in-xor (suc zero) (suc zero) small_a small_b = refl
taken_in-xor (suc zero) (suc (suc b)) small_a small_b = absurd (omega arith)
taken_in-xor (suc (suc a)) b small_a small_b = absurd (omega arith)

pub xor_swap : (a b c d : ℕ) → bit_xor (bit_xor a b) (bit_xor c d) ≡ bit_xor (bit_xor a c) (bit_xor b d)
xor_swap a b c d =
    xor_assoc a b (bit_xor c d)
    ∙ ap (bit_xor a) (sym (xor_assoc b c d) ∙ ap (λ x. bit_xor x d) (xor_comm b c) ∙ xor_assoc c b d)
    ∙ sym (xor_assoc a c (bit_xor b d))

shift_bit-xor : (a b : ℕ) → shift_bit (bit_xor a b) ≡ bit_xor (shift_bit a) (shift_bit b)
shift_bit-xor a b =
    taken_by (bit_xor a b % 2 == 1) (bit_xor a b / 2)
    ∙ ap (λ d. bit_xor (bit_xor a b / 2) (taken_in d)) (xor_mod a b 1)
    ∙ ap (bit_xor (bit_xor a b / 2)) (taken_in-xor (a % 2) (b % 2) (omega arith) (omega arith))
    ∙ ap (λ h. bit_xor h (bit_xor (taken_in (a % 2)) (taken_in (b % 2)))) (xor_shr a b 1)
    ∙ xor_swap (a / 2) (b / 2) (taken_in (a % 2)) (taken_in (b % 2))
    ∙ ap (λ x. bit_xor x (bit_xor (b / 2) (taken_in (b % 2)))) (sym (taken_by (a % 2 == 1) (a / 2)))
    ∙ ap (bit_xor (shift_bit a)) (sym (taken_by (b % 2 == 1) (b / 2)))

pub shift_bits-xor : (n a b : ℕ) → shift_bits n (bit_xor a b) ≡ bit_xor (shift_bits n a) (shift_bits n b)
unfolding shift_bits
shift_bits-xor zero a b = refl
shift_bits-xor (suc n) a b = ap (shift_bits n) (shift_bit-xor a b) ∙ shift_bits-xor n (shift_bit a) (shift_bit b)

pub shift_bits-add : (m n r : ℕ) → shift_bits (m + n) r ≡ shift_bits n (shift_bits m r)
unfolding shift_bits
shift_bits-add zero n r = ap (λ k. shift_bits k r) (zero-add n)
shift_bits-add (suc m) n r = let e : suc m + n ≡ suc (m + n) = omega arith in ap (λ k. shift_bits k r) e ∙ shift_bits-add m n (shift_bit r)

shift_bit-double : (a : ℕ) → shift_bit (a * 2) ≡ a
shift_bit-double a =
    let out : a * 2 % 2 ≡ 0 = omega arith in
    let rest : a * 2 / 2 ≡ a = omega arith in
    ap (λ d. if d == 1 then bit_xor (a * 2 / 2) polynomial else a * 2 / 2) out ∙ rest

pub shift_bits-low_zeros : (n a : ℕ) → shift_bits n (a * 2 ^ n) ≡ a
unfolding shift_bits
shift_bits-low_zeros zero a = omega arith
shift_bits-low_zeros (suc n) a =
    let e : a * 2 ^ suc n ≡ a * 2 ^ n * 2 = ap (λ x. a * x) (pow-suc 2 n) ∙ sym (mul_assoc a (2 ^ n) 2) in
    ap (λ x. shift_bits n (shift_bit x)) e ∙ ap (shift_bits n) (shift_bit-double (a * 2 ^ n)) ∙ shift_bits-low_zeros n a

-- low bits are taken in first, and what stands above them behind
pub shift_bits-joined : (m n r low high : ℕ) → low < 2 ^ m
    → shift_bits n (bit_xor (shift_bits m (bit_xor r low)) high) ≡ shift_bits (m + n) (bit_xor r (high * 2 ^ m + low))
shift_bits-joined m n r low high small =
    ap (λ h. shift_bits n (bit_xor (shift_bits m (bit_xor r low)) h)) (sym (shift_bits-low_zeros m high))
    ∙ ap (shift_bits n) (sym (shift_bits-xor m (bit_xor r low) (high * 2 ^ m)))
    ∙ sym (shift_bits-add m n (bit_xor (bit_xor r low) (high * 2 ^ m)))
    ∙ ap (shift_bits (m + n))
    (xor_assoc r low (high * 2 ^ m) ∙ ap (bit_xor r) (xor_comm low (high * 2 ^ m) ∙ xor_shifted high m low small))
