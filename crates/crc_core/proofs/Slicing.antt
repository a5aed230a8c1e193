-- Several bytes at a time: words and blocks, and what each of their parts leaves by itself.
use Rattle.std.proofs.Common.{◌≡◌, ℕ, zero, suc, ◌+◌, ◌*◌, ◌/◌, ◌%◌, ◌^◌, ◌<◌, ◌≤◌, List, [], ◌∷◌, length, take, drop, slice_index, bit_xor, refl, sym, ap, ap₂, ◌∙◌, arith}
use Rattle.std.specs.Int.{w32, to_le_bytes, from_le_bytes}
use Rattle.std.specs.Int.Bits.{xor_comm, xor_assoc, xor_shifted}
use Rattle.std.specs.List.{fold}
use Rattle.std.specs.Simd.{first_chunks}
use Rattle.std.proofs.lemmas.List.{take-append-drop, drop-drop, length-take-le, length-drop, get_or-take, get_or-drop, at_drop_all}
use Rattle.std.proofs.lemmas.List.Sums.{fold-append}
use Rattle.crc_core.specs.Crc.{shift_bits, take_byte, register_after}
use Rattle.crc_core.proofs.Shifting.{shift_bits-xor, shift_bits-add, shift_bits-low_zeros, shift_bits-joined}

-- ---- one byte

number_split : (n : ℕ) → n ≡ bit_xor (n / 256 * 2 ^ 8) (n % 256)
number_split n = let e : n ≡ n / 256 * 256 + n % 256 = omega arith in e ∙ sym (xor_shifted (n / 256) 8 (n % 256) (omega arith))

-- the byte meets the register's lowest, and the rest is shifted on
pub take_byte-low : (r b : ℕ) → bit_xor (r / 256) (shift_bits 8 (bit_xor (r % 256) b)) ≡ take_byte r b
take_byte-low r b =
    ap (λ h. bit_xor h (shift_bits 8 (bit_xor (r % 256) b))) (sym (shift_bits-low_zeros 8 (r / 256)))
    ∙ sym (shift_bits-xor 8 (r / 256 * 2 ^ 8) (bit_xor (r % 256) b))
    ∙ ap (shift_bits 8) (sym (xor_assoc (r / 256 * 2 ^ 8) (r % 256) b) ∙ ap (λ x. bit_xor x b) (sym (number_split r)))

-- ---- a word

-- the lowest byte by itself, and the others, which have eight bits less to go
byte_and_rest : (n w : ℕ) → bit_xor (shift_bits (8 + n) (w % 256)) (shift_bits n (w / 256)) ≡ shift_bits (8 + n) w
byte_and_rest n w =
    ap (λ h. bit_xor (shift_bits (8 + n) (w % 256)) (shift_bits n h)) (sym (shift_bits-low_zeros 8 (w / 256)))
    ∙ ap (bit_xor (shift_bits (8 + n) (w % 256))) (sym (shift_bits-add 8 n (w / 256 * 2 ^ 8)))
    ∙ sym (shift_bits-xor (8 + n) (w % 256) (w / 256 * 2 ^ 8))
    ∙ ap (shift_bits (8 + n)) (xor_comm (w % 256) (w / 256 * 2 ^ 8) ∙ sym (number_split w))

bytes_of_word : (n w : ℕ) → w < 2 ^ 32
    → bit_xor (bit_xor (bit_xor (shift_bits (8 + (8 + (8 + n))) (w % 256)) (shift_bits (8 + (8 + n)) (w / 256 % 256))) (shift_bits (8 + n) (w / 65536 % 256))) (shift_bits n (w / 16777216 % 256))
    ≡ shift_bits (8 + (8 + (8 + n))) w
bytes_of_word n w small =
    let third : w / 65536 % 256 ≡ w / 256 / 256 % 256 = omega arith in
    let fourth : w / 16777216 % 256 ≡ w / 256 / 256 / 256 = omega arith in
    xor_assoc (bit_xor (shift_bits (8 + (8 + (8 + n))) (w % 256)) (shift_bits (8 + (8 + n)) (w / 256 % 256))) (shift_bits (8 + n) (w / 65536 % 256)) (shift_bits n (w / 16777216 % 256))
    ∙ ap₂ (λ c d. bit_xor (bit_xor (shift_bits (8 + (8 + (8 + n))) (w % 256)) (shift_bits (8 + (8 + n)) (w / 256 % 256))) (bit_xor (shift_bits (8 + n) c) (shift_bits n d))) third fourth
    ∙ ap (bit_xor (bit_xor (shift_bits (8 + (8 + (8 + n))) (w % 256)) (shift_bits (8 + (8 + n)) (w / 256 % 256)))) (byte_and_rest n (w / 256 / 256))
    ∙ xor_assoc (shift_bits (8 + (8 + (8 + n))) (w % 256)) (shift_bits (8 + (8 + n)) (w / 256 % 256)) (shift_bits (8 + n) (w / 256 / 256))
    ∙ ap (bit_xor (shift_bits (8 + (8 + (8 + n))) (w % 256))) (byte_and_rest (8 + n) (w / 256))
    ∙ byte_and_rest (8 + (8 + n)) w

-- the four bytes of a word, each by itself
pub shift_bits-bytes : (z w : ℕ) (bytes : List ℕ) → bytes ≡ to_le_bytes w32 w → w < 2 ^ 32
    → bit_xor (bit_xor (bit_xor (shift_bits (8 * (1 + (z + 3))) (slice_index bytes 0)) (shift_bits (8 * (1 + (z + 2))) (slice_index bytes 1))) (shift_bits (8 * (1 + (z + 1))) (slice_index bytes 2))) (shift_bits (8 * (1 + z)) (slice_index bytes 3))
    ≡ shift_bits (8 * (4 + z)) w
shift_bits-bytes z w bytes are small =
    let first : 8 * (1 + (z + 3)) ≡ 8 + (8 + (8 + 8 * (1 + z))) = omega arith in
    let second : 8 * (1 + (z + 2)) ≡ 8 + (8 + 8 * (1 + z)) = omega arith in
    let third : 8 * (1 + (z + 1)) ≡ 8 + 8 * (1 + z) = omega arith in
    let all : 8 * (4 + z) ≡ 8 + (8 + (8 + 8 * (1 + z))) = omega arith in
    rw (are, first, second, third, all) (bytes_of_word (8 * (1 + z)) w small)

-- the four bytes of a word are taken in at once
word_register : (r : ℕ) (bytes : List ℕ) → length bytes ≡ 4 → ((k : ℕ) → k < 4 → slice_index bytes k < 256)
    → register_after r bytes ≡ shift_bits 32 (bit_xor r (from_le_bytes w32 bytes))
word_register r (a ∷ b ∷ c ∷ d ∷ []) long small =
    ap (λ x. take_byte (take_byte x c) d) (shift_bits-joined 8 8 r a b (small 0 (omega arith)))
    ∙ ap (λ x. take_byte x d) (shift_bits-joined 16 8 r (b * 2 ^ 8 + a) c (omega (arith, small 0 (omega arith), small 1 (omega arith))))
    ∙ shift_bits-joined 24 8 r (c * 2 ^ 16 + (b * 2 ^ 8 + a)) d (omega (arith, small 0 (omega arith), small 1 (omega arith), small 2 (omega arith)))
    ∙ ap (λ n. shift_bits 32 (bit_xor r n)) (omega arith)
word_register r [] long small = absurd (omega arith)
word_register r (a ∷ []) long small = absurd (omega arith)
word_register r (a ∷ b ∷ []) long small = absurd (omega arith)
word_register r (a ∷ b ∷ c ∷ []) long small = absurd (omega arith)
word_register r (a ∷ b ∷ c ∷ d ∷ e ∷ bytes) long small = absurd (omega arith)

-- ---- a block

-- a word behind a shifted register
shifted_on : (n x y : ℕ) → shift_bits 32 (bit_xor (shift_bits n x) y) ≡ bit_xor (shift_bits (n + 32) x) (shift_bits 32 y)
shifted_on n x y = shift_bits-xor 32 (shift_bits n x) y ∙ ap (λ h. bit_xor h (shift_bits 32 y)) (sym (shift_bits-add n 32 x))

four_words : (x y z w : ℕ)
    → shift_bits 32 (bit_xor (shift_bits 32 (bit_xor (shift_bits 32 (bit_xor (shift_bits 32 x) y)) z)) w)
    ≡ bit_xor (bit_xor (bit_xor (shift_bits 128 x) (shift_bits 96 y)) (shift_bits 64 z)) (shift_bits 32 w)
four_words x y z w =
    ap (λ h. shift_bits 32 (bit_xor (shift_bits 32 (bit_xor h z)) w)) (shifted_on 32 x y)
    ∙ ap (λ h. shift_bits 32 (bit_xor h w)) (shift_bits-xor 32 (bit_xor (shift_bits 64 x) (shift_bits 32 y)) z ∙ ap (λ h. bit_xor h (shift_bits 32 z)) (two x y))
    ∙ shift_bits-xor 32 (bit_xor (bit_xor (shift_bits 96 x) (shift_bits 64 y)) (shift_bits 32 z)) w
    ∙ ap (λ h. bit_xor h (shift_bits 32 w)) (shift_bits-xor 32 (bit_xor (shift_bits 96 x) (shift_bits 64 y)) (shift_bits 32 z) ∙ ap₂ bit_xor (three x y) (sym (shift_bits-add 32 32 z)))
  where
    two : (x y : ℕ) → shift_bits 32 (bit_xor (shift_bits 64 x) (shift_bits 32 y)) ≡ bit_xor (shift_bits 96 x) (shift_bits 64 y)
    two x y = shift_bits-xor 32 (shift_bits 64 x) (shift_bits 32 y) ∙ ap₂ bit_xor (sym (shift_bits-add 64 32 x)) (sym (shift_bits-add 32 32 y))

    three : (x y : ℕ) → shift_bits 32 (bit_xor (shift_bits 96 x) (shift_bits 64 y)) ≡ bit_xor (shift_bits 128 x) (shift_bits 96 y)
    three x y = shift_bits-xor 32 (shift_bits 96 x) (shift_bits 64 y) ∙ ap₂ bit_xor (sym (shift_bits-add 96 32 x)) (sym (shift_bits-add 64 32 y))

xor_reversed : (a b c d : ℕ) → bit_xor (bit_xor (bit_xor a b) c) d ≡ bit_xor (bit_xor (bit_xor d c) b) a
xor_reversed a b c d =
    xor_comm (bit_xor (bit_xor a b) c) d
    ∙ ap (bit_xor d) (xor_comm (bit_xor a b) c ∙ ap (bit_xor c) (xor_comm a b))
    ∙ sym (xor_assoc d c (bit_xor b a))
    ∙ sym (xor_assoc (bit_xor d c) b a)

-- a block in words
abbrev word_at : ℕ → List ℕ → ℕ
word_at i bytes = from_le_bytes w32 (take 4 (drop i bytes))

word_taken : (r i j : ℕ) (bytes : List ℕ) → i + 4 ≤ length bytes → i + 4 ≡ j → ((k : ℕ) → slice_index bytes k < 256)
    → register_after r (drop i bytes) ≡ register_after (shift_bits 32 (bit_xor r (word_at i bytes))) (drop j bytes)
word_taken r i j bytes within next small =
    ap (register_after r) (sym (take-append-drop 4 (drop i bytes)))
    ∙ fold-append take_byte r (take 4 (drop i bytes)) (drop 4 (drop i bytes))
    ∙ ap (λ x. register_after x (drop 4 (drop i bytes)))
    (word_register r (take 4 (drop i bytes)) (length-take-le 4 (drop i bytes) (omega (arith, length-drop i bytes)))
    (λ k low. rw (get_or-take 4 (drop i bytes) k 0 low, get_or-drop i bytes k 0) (small (i + k))))
    ∙ ap (register_after (shift_bits 32 (bit_xor r (word_at i bytes)))) (drop-drop 4 i bytes ∙ ap (λ n. drop n bytes) next)

-- each word of a block goes to the block's end by itself
pub register_after-block : (r : ℕ) (bytes : List ℕ) → length bytes ≡ 16 → ((k : ℕ) → slice_index bytes k < 256)
    → bit_xor (bit_xor (bit_xor (shift_bits 32 (word_at 12 bytes)) (shift_bits 64 (word_at 8 bytes))) (shift_bits 96 (word_at 4 bytes))) (shift_bits 128 (bit_xor (word_at 0 bytes) r))
    ≡ register_after r bytes
register_after-block r bytes long small =
    xor_reversed (shift_bits 32 (word_at 12 bytes)) (shift_bits 64 (word_at 8 bytes)) (shift_bits 96 (word_at 4 bytes)) (shift_bits 128 (bit_xor (word_at 0 bytes) r))
    ∙ ap (λ x. bit_xor (bit_xor (bit_xor (shift_bits 128 x) (shift_bits 96 (word_at 4 bytes))) (shift_bits 64 (word_at 8 bytes))) (shift_bits 32 (word_at 12 bytes)))
    (xor_comm (word_at 0 bytes) r)
    ∙ sym (four_words (bit_xor r (word_at 0 bytes)) (word_at 4 bytes) (word_at 8 bytes) (word_at 12 bytes))
    ∙ sym (at_drop_all (register_after (after_12 r)) bytes 16 (omega arith))
    ∙ sym (word_taken (after_8 r) 12 16 bytes (omega arith) (omega arith) small)
    ∙ sym (word_taken (after_4 r) 8 12 bytes (omega arith) (omega arith) small)
    ∙ sym (word_taken (after_0 r) 4 8 bytes (omega arith) (omega arith) small)
    ∙ sym (word_taken r 0 4 bytes (omega arith) (omega arith) small)
  where
    after_0 : ℕ → ℕ
    after_0 r = shift_bits 32 (bit_xor r (word_at 0 bytes))

    after_4 : ℕ → ℕ
    after_4 r = shift_bits 32 (bit_xor (after_0 r) (word_at 4 bytes))

    after_8 : ℕ → ℕ
    after_8 r = shift_bits 32 (bit_xor (after_4 r) (word_at 8 bytes))

    after_12 : ℕ → ℕ
    after_12 r = shift_bits 32 (bit_xor (after_8 r) (word_at 12 bytes))

-- ---- whole blocks, and then the rest

pub blocks_and_rest : (k r : ℕ) (bytes : List ℕ) → register_after (fold register_after r (first_chunks 16 k bytes)) (drop (k * 16) bytes) ≡ register_after r bytes
blocks_and_rest zero r bytes = refl
blocks_and_rest (suc k) r bytes =
    let e : suc k * 16 ≡ 16 + k * 16 = omega arith in
    ap (λ n. register_after (fold register_after (register_after r (take 16 bytes)) (first_chunks 16 k (drop 16 bytes))) (drop n bytes)) e
    ∙ ap (register_after (fold register_after (register_after r (take 16 bytes)) (first_chunks 16 k (drop 16 bytes)))) (sym (drop-drop (k * 16) 16 bytes))
    ∙ blocks_and_rest k (register_after r (take 16 bytes)) (drop 16 bytes)
    ∙ sym (fold-append take_byte r (take 16 bytes) (drop 16 bytes))
    ∙ ap (register_after r) (take-append-drop 16 bytes)
