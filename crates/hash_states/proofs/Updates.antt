-- What `update` does to the fields of a state.
use Rattle.std.proofs.Common.{◌≡◌, ℕ, ◌+◌, ◌-◌, ◌*◌, ◌/◌, ◌%◌, ◌^◌, ◌<◌, ◌≤◌, List, [], ◌++◌, length, take, drop, refl, sym, ap, ap₂, ◌∙◌, append_assoc, append-nil, length-append, length-drop, arith}
use Rattle.std.proofs.lemmas.List.{take-append-drop, length-take-le, drop_all, take_at}
use Rattle.std.proofs.lemmas.Slice.{take-put_mid}
use Rattle.std.proofs.Math.Seq.{drop-append-add}
use Rattle.sha2.specs.Sha256.{hash_after}
use Rattle.sha2.proofs.Absorbing256.{hash_after-append}
use Rattle.hash_states.specs.States.{absorb, state_of}
use Rattle.hash_states.proofs.States.{goes_on-blocks}
use borrow.Rule.Slice.PartMut.{put_mid, post_of}

-- nothing is hashed of fewer bytes than a block has
hash_after-none : (h m : List ℕ) (n : ℕ) → n ≡ 0 → hash_after h m n ≡ h
unfolding hash_after
hash_after-none h m n e = ap (hash_after h m) e

module _ (value left bytes : List ℕ) (total : ℕ) where
  abbrev used : ℕ
  used = total % 64

  abbrev all : List ℕ
  all = take used left ++ bytes

  length-all : length left ≡ 64 → length all ≡ used + length bytes
  length-all len = omega (arith, length-append (take used left) bytes, length-take-le used left (omega (arith, len)))

  -- bytes that leave the block short
  pub update_short : (k j : ℕ) (put : List ℕ) → length left ≡ 64 → k ≡ used → used + length bytes < 64 → put ≡ bytes
      → state_of value (put_mid k j left put) ((total + length bytes) % 2 ^ 64) ≡ absorb (state_of value left total) bytes
  unfolding absorb
  update_short k j put len at short same =
      let fits : used ≤ length left = omega arith in
      let none : length all / 64 ≡ 0 = omega (arith, length-all len) in
      let none_left : length all / 64 * 64 ≡ 0 = omega (arith, none) in
      let count : (total + length bytes) % 2 ^ 64 % 64 ≡ used + length bytes = omega arith in
      let placed : take ((total + length bytes) % 2 ^ 64 % 64) (put_mid k j left put) ≡ all =
      rw (at, same, count) (take-put_mid used j left bytes (used + length bytes) refl fits) in
      λ i. record {
        hash = sym (hash_after-none value all (length all / 64) none) i;
        left = (placed ∙ ap (λ n. drop n all) (sym none_left)) i;
        total = (total + length bytes) % 2 ^ 64;
      }

  -- the hash value after so many of the bytes, at a block's end
  abbrev pub IsAtBlock : List ℕ → ℕ → Type 0
  IsAtBlock next start =
      (start ≤ length bytes) × ((used + start) % 64 ≡ 0)
      × (next ≡ hash_after value (take used left ++ take start bytes) ((used + start) / 64))

  -- the block that was begun is filled
  pub at_block-fill : (k j start : ℕ) (put next : List ℕ) → length left ≡ 64 → k ≡ used → start ≡ 64 - used → j ≡ start → start ≤ length bytes
      → put ≡ take start bytes → next ≡ hash_after value (put_mid k j left put) (length (put_mid k j left put) / 64) → IsAtBlock next start
  at_block-fill k j start put next len at room ej fits same hashed =
      let none : post_of k j left ≡ [] = drop_all j (drop k left) (omega (arith, length-drop k left)) in
      let block : put_mid k j left put ≡ take used left ++ take start bytes = rw (none, append-nil, same, at) refl in
      let count : length (put_mid k j left put) / 64 ≡ (used + start) / 64 =
      ap (λ (l : List ℕ). length l / 64) block
      ∙ omega (arith, length-append (take used left) (take start bytes), length-take-le used left (omega arith), length-take-le start bytes fits) in
      (fits, omega arith, hashed ∙ ap₂ (hash_after value) block count)

  -- no block was begun
  pub at_block-none : (start : ℕ) (next : List ℕ) → used ≤ 0 → start ≡ 0 → next ≡ value → IsAtBlock next start
  at_block-none start next none es same =
      let count : (used + start) / 64 ≡ 0 = omega arith in
      (omega arith, omega arith, same ∙ sym (hash_after-none value (take used left ++ take start bytes) ((used + start) / 64) count))

  -- the blocks from there on, and what is left
  pub update_full : (next rest hashed tail behind : List ℕ) (start n : ℕ) → length left ≡ 64 → IsAtBlock next start
      → n ≡ (total + length bytes) % 2 ^ 64 → rest ≡ drop start bytes
      → hashed ≡ hash_after next rest (length rest / 64) → tail ≡ drop (length rest / 64 * 64) rest
      → state_of hashed (tail ++ behind) n ≡ absorb (state_of value left total) bytes
  unfolding absorb
  update_full next rest hashed tail behind start n len at en er eh et =
      let front : List ℕ = take used left ++ take start bytes in
      let split : front ++ rest ≡ all =
      ap (λ l. front ++ l) er ∙ append_assoc (take used left) (take start bytes) (drop start bytes)
      ∙ ap (λ l. take used left ++ l) (take-append-drop start bytes) in
      let length-front : length front ≡ used + start =
      omega (arith, length-append (take used left) (take start bytes), length-take-le used left (omega arith), length-take-le start bytes at.0) in
      let length-rest : length rest ≡ length bytes - start = ap length er ∙ length-drop start bytes in
      let count : (used + start) / 64 + length rest / 64 ≡ length all / 64 = omega (arith, length-all len, at.0, at.1) in
      let hash : hashed ≡ hash_after value all (length all / 64) =
      eh ∙ ap (λ h. hash_after h rest (length rest / 64)) at.2
      ∙ sym (goes_on-blocks value front rest ((used + start) / 64) (length rest / 64) (omega (arith, length-front, at.1)))
      ∙ ap₂ (hash_after value) split count in
      let place : length front + length rest / 64 * 64 ≡ length all / 64 * 64 = omega (arith, length-front, count, at.1) in
      let last : tail ≡ drop (length all / 64 * 64) all =
      et ∙ sym (drop-append-add front rest (length rest / 64 * 64)) ∙ ap₂ drop place split in
      let left_len : length tail ≡ n % 64 =
      omega (arith, ap length et, length-drop (length rest / 64 * 64) rest, length-rest, en, at.0, at.1) in
      λ i. record {
        hash = hash i;
        left = (take_at tail behind (n % 64) left_len ∙ last) i;
        total = en i;
      }

  -- whole blocks whose hash value is known, from a block's end on
  pub update_known : (hashed : List ℕ) (n : ℕ) → used ≡ 0 → n * 64 ≤ length bytes → hashed ≡ hash_after value bytes n
      → state_of hashed left ((total + n * 64) % 2 ^ 64) ≡ absorb (state_of value left total) (take (n * 64) bytes)
  unfolding absorb
  update_known hashed n none fits same =
      let part : List ℕ = take (n * 64) bytes in
      let length-part : length part ≡ n * 64 = length-take-le (n * 64) bytes fits in
      let front : take used left ++ part ≡ part = ap (λ k. take k left ++ part) none in
      let count : length (take used left ++ part) / 64 ≡ n = omega (arith, ap length front, length-part) in
      let end : length (take used left ++ part) / 64 * 64 ≡ n * 64 = omega (arith, count) in
      let hash : hashed ≡ hash_after value (take used left ++ part) (length (take used left ++ part) / 64) =
      same ∙ ap (λ l. hash_after value l n) (sym (take-append-drop (n * 64) bytes))
      ∙ hash_after-append value part (drop (n * 64) bytes) n (omega (arith, length-part))
      ∙ sym (ap₂ (hash_after value) front count) in
      let nothing : (total + n * 64) % 2 ^ 64 % 64 ≡ 0 = omega (arith, none) in
      let rest : drop (length (take used left ++ part) / 64 * 64) (take used left ++ part) ≡ [] =
      ap₂ drop end front ∙ drop_all (n * 64) part (omega (arith, length-part)) in
      λ i. record {
        hash = hash i;
        left = (ap (λ k. take k left) nothing ∙ sym rest) i;
        total = ap (λ k. (total + k) % 2 ^ 64) (sym length-part) i;
      }
