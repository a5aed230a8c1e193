-- What is read is in range, and is the bytes' one spelling.
use Rattle.std.proofs.Common.{◌≡◌, ℕ, zero, suc, ◌+◌, ◌*◌, ◌/◌, ◌%◌, ◌<◌, ◌≤◌, List, [], ◌∷◌, length, map, take, drop, get_or, All, subst, sym, ap, ◌∙◌, lit<, arith}
use Rattle.std.specs.Int.{w64, from_le_bytes}
use Rattle.std.proofs.Math.Facts.{Fits-of_lt, sfits_to_z}
use Rattle.std.proofs.lemmas.List.{length-drop, length-take-le}
use Rattle.std.proofs.lemmas.List.Elements.{All-nil, All-cons}
use Rattle.store_files.specs.Cells.{first_cells}
use Rattle.store_files.specs.DynamicIndex.{Ended, DynamicIndex, FitsDynamic, entry_of, fields_of, dynamic_text}
use Rattle.dynamic_index.specs.Laws.{AreBytes, WhatIsReadHasOneSpelling}
use Rattle.dynamic_index.specs.Viewing.{IsIndex}
use Rattle.dynamic_index.proofs.Cells.{count_is, small_part}
use Rattle.dynamic_index.proofs.Reading.{dynamic_of-ok}
use Rattle.dynamic_index.proofs.Spelling.{small_number, dynamic_text-fields}

small_at : (bytes : List ℕ) → AreBytes bytes → (i : ℕ) → get_or bytes i 0 < 256
small_at [] are i = lit< tt
small_at (b ∷ bytes) are zero = are 0 0 (omega arith)
small_at (b ∷ bytes) are (suc i) = small_at bytes (λ k d within. are (suc k) d (omega arith)) i

abbrev HasDigest : Ended → Type 0
HasDigest e = length e.digest ≡ 32

have_digests : (n : ℕ) (bytes : List ℕ) → length bytes ≡ n * 40 → All HasDigest (map entry_of (first_cells 40 n bytes))
unfolding first_cells
have_digests zero bytes is = All-nil HasDigest
have_digests (suc n) bytes is =
    let cell = length-take-le 40 bytes (omega arith) in
    All-cons HasDigest (entry_of (take 40 bytes)) (map entry_of (first_cells 40 n (drop 40 bytes)))
    (omega (arith, cell, length-drop 8 (take 40 bytes)))
    (have_digests n (drop 40 bytes) (omega (arith, length-drop 40 bytes)))

part_long : (bytes : List ℕ) (at len : ℕ) → at + len ≤ length bytes → length (take len (drop at bytes)) ≡ len
part_long bytes at len long = length-take-le len (drop at bytes) (omega (arith, length-drop at bytes))

fields_fit : (bytes : List ℕ) → ((i : ℕ) → get_or bytes i 0 < 256) → IsIndex bytes → FitsDynamic (fields_of bytes)
fields_fit bytes small is =
    let long = is.long in
    let rest = length-drop 4096 bytes in
    let whole : length (drop 4096 bytes) % 40 ≡ 0 = ap (λ n. n % 40) rest ∙ is.whole in
    record {
      uuid = part_long bytes 8 16 (omega (arith, long));
      ctime = sfits_to_z {w = w64} {n = from_le_bytes w64 (take 8 (drop 24 bytes))} (Fits-of_lt {w = w64} (small_number (take 8 (drop 24 bytes)) (small_part bytes 24 32 small)));
      reserved = part_long bytes 64 4032 (omega (arith, long));
      steps = is.steps;
      limit = omega (arith, count_is bytes, is.limit);
      digests = have_digests (length (drop 4096 bytes) / 40) (drop 4096 bytes) (omega (arith, whole));
    }

pub text-from_dynamic_of : WhatIsReadHasOneSpelling
text-from_dynamic_of bytes x are is =
    let found = dynamic_of-ok bytes x is in
    let small = small_at bytes are in
    subst (λ (y : DynamicIndex). (bytes ≡ dynamic_text y) × FitsDynamic y) (sym found.0)
    (dynamic_text-fields bytes small found.1, fields_fit bytes small found.1)
