-- What is read is in range, and is the bytes' one spelling.
use Rattle.std.proofs.Common.{◌≡◌, ℕ, zero, suc, ◌+◌, ◌*◌, ◌/◌, ◌%◌, ◌<◌, ◌≤◌, List, [], ◌∷◌, length, take, drop, get_or, All, subst, sym, ap, ◌∙◌, lit<, arith}
use Rattle.std.specs.Prelude.{◌==◌}
use Rattle.std.specs.Int.{w64, from_le_bytes}
use Rattle.std.proofs.Math.Facts.{Fits-of_lt, sfits_to_z}
use Rattle.std.proofs.lemmas.Bool.{and_parts, eqb-true}
use Rattle.std.proofs.lemmas.List.{length-drop, length-take-le}
use Rattle.std.proofs.lemmas.List.Elements.{All-nil, All-cons}
use Rattle.store_files.specs.Cells.{first_cells}
use Rattle.store_files.specs.FixedIndex.{FixedIndex, FitsFixed, is_chunk_size, piece_count, fields_of, fixed_text}
use Rattle.fixed_index.specs.Laws.{AreBytes, WhatIsReadHasOneSpelling}
use Rattle.fixed_index.specs.Viewing.{IsIndex}
use Rattle.fixed_index.proofs.Cells.{count_is}
use Rattle.fixed_index.proofs.Reading.{fixed_of-ok}
use Rattle.fixed_index.proofs.Spelling.{small_number, fixed_text-fields}
use Rattle.fixed_index.proofs.TextParts.{small_part}

small_at : (bytes : List ℕ) → AreBytes bytes → (i : ℕ) → get_or bytes i 0 < 256
small_at [] are i = lit< tt
small_at (b ∷ bytes) are zero = are 0 0 (omega arith)
small_at (b ∷ bytes) are (suc i) = small_at bytes (λ k d within. are (suc k) d (omega arith)) i

are_digests : (n : ℕ) (bytes : List ℕ) → length bytes ≡ n * 32 → All (λ d. length d ≡ 32) (first_cells 32 n bytes)
unfolding first_cells
are_digests zero bytes is = All-nil (λ d. length d ≡ 32)
are_digests (suc n) bytes is =
    All-cons (λ d. length d ≡ 32) (take 32 bytes) (first_cells 32 n (drop 32 bytes)) (length-take-le 32 bytes (omega arith))
    (are_digests n (drop 32 bytes) (omega (arith, length-drop 32 bytes)))

part_long : (bytes : List ℕ) (at len : ℕ) → at + len ≤ length bytes → length (take len (drop at bytes)) ≡ len
part_long bytes at len long = length-take-le len (drop at bytes) (omega (arith, length-drop at bytes))

fields_fit : (bytes : List ℕ) → ((i : ℕ) → get_or bytes i 0 < 256) → IsIndex bytes → FitsFixed (fields_of bytes)
fields_fit bytes small is =
    let x = fields_of bytes in
    let long = is.long in
    let sizes = and_parts (is_chunk_size x.chunk_size) (length x.digests == piece_count x.size x.chunk_size) is.sizes in
    let rest = length-drop 4096 bytes in
    let whole : length (drop 4096 bytes) % 32 ≡ 0 = ap (λ n. n % 32) rest ∙ is.whole in
    record {
      uuid = part_long bytes 8 16 (omega (arith, long));
      ctime = sfits_to_z {w = w64} {n = from_le_bytes w64 (take 8 (drop 24 bytes))} (Fits-of_lt {w = w64} (small_number (take 8 (drop 24 bytes)) (small_part bytes 24 32 small)));
      reserved = part_long bytes 80 4016 (omega (arith, long));
      chunk_size = sizes.0;
      count = eqb-true _ _ sizes.1;
      limit = omega (arith, count_is bytes, is.limit);
      size = small_number (take 8 (drop 64 bytes)) (small_part bytes 64 72 small);
      digests = are_digests (length (drop 4096 bytes) / 32) (drop 4096 bytes) (omega (arith, whole));
    }

pub text-from_fixed_of : WhatIsReadHasOneSpelling
text-from_fixed_of bytes x are is =
    let found = fixed_of-ok bytes x is in
    let small = small_at bytes are in
    subst (λ (y : FixedIndex). (bytes ≡ fixed_text y) × FitsFixed y) (sym found.0)
    (fixed_text-fields bytes small found.1, fields_fit bytes small found.1)
