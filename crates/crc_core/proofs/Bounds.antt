-- The register, and so the CRC of bytes, has 32 bits.
use Rattle.std.proofs.Common.{ℕ, zero, suc, ◌/◌, ◌%◌, ◌^◌, ◌<◌, List, [], ◌∷◌, All, Bool, true, false, ◌==◌, bit_xor, if◌then◌else◌, lit<, arith}
use Rattle.std.specs.Int.Bits.{xor_lt}
use Rattle.crc_core.specs.Crc.{polynomial, all_ones, shift_bit, shift_bits, take_byte, register_after, crc}

shift_bit-lt : (r : ℕ) → r < 2 ^ 32 → shift_bit r < 2 ^ 32
shift_bit-lt r small = by_bit (r % 2 == 1)
  where
    half : r / 2 < 2 ^ 32
    half = omega arith

    by_bit : (odd : Bool) → (if odd then bit_xor (r / 2) polynomial else r / 2) < 2 ^ 32
    by_bit true = xor_lt 32 (r / 2) polynomial half (lit< tt)
    by_bit false = half

shift_bits-lt : (n r : ℕ) → r < 2 ^ 32 → shift_bits n r < 2 ^ 32
unfolding shift_bits
shift_bits-lt zero r small = small
shift_bits-lt (suc n) r small = shift_bits-lt n (shift_bit r) (shift_bit-lt r small)

register_after-lt : (bytes : List ℕ) (r : ℕ) → All (λ b. b < 256) bytes → r < 2 ^ 32 → register_after r bytes < 2 ^ 32
register_after-lt [] r are small = small
register_after-lt (b ∷ bytes) r are small =
    let first : b < 256 = are 0 0 (omega arith) in
    let rest : All (λ b. b < 256) bytes = λ k d within. are (suc k) d (omega arith) in
    register_after-lt bytes (take_byte r b) rest (shift_bits-lt 8 (bit_xor r b) (xor_lt 32 r b small (omega arith)))

pub crc-lt : (bytes : List ℕ) → All (λ b. b < 256) bytes → crc bytes < 2 ^ 32
unfolding crc
crc-lt bytes are = xor_lt 32 (register_after all_ones bytes) all_ones (register_after-lt bytes all_ones are (lit< tt)) (lit< tt)
