-- A book's head counts its size.
use Rattle.std.proofs.Common.{◌≡◌, ℕ, zero, suc, ◌+◌, ◌-◌, ◌*◌, ◌^◌, ◌<◌, ◌≤◌, Bool, true, false, cond, ◌&&◌, List, [], ◌∷◌, ◌++◌, length, map, take, drop, All, Option, Some, None, option_map, refl, sym, ap, subst, ◌∙◌, append_assoc, arith}
use Rattle.std.specs.Prelude.{◌==◌, nat_le, unwrap_or, codes, slice_range, MatchOption}
use Rattle.std.specs.Int.{w64, to_le_bytes, from_le_bytes}
use Rattle.std.specs.List.{flat_map, list_all}
use Rattle.std.specs.Str.{bytes_eq}
use Rattle.std.proofs.lemmas.Bool.{and_parts, eq-eqb, ne_eqb, leb-true, leb-false}
use Rattle.std.proofs.lemmas.Nat.{from_le_bytes-to_le_bytes_8}
use Rattle.std.proofs.lemmas.List.{append-nil, length-append, length-drop, length-take-le}
use Rattle.std.proofs.lemmas.List.Elements.{All-nil, All-cons, All-head, All-tail}
use Rattle.std.proofs.Math.ListN.{drop_of_length-le}
use Rattle.std.proofs.lemmas.Slice.Eq.{bytes_eq-Decides}
use Rattle.sha2.specs.Sha256.{sha256}
use Rattle.sha2.proofs.Facts256.{length-sha256}
use Rattle.store_types.specs.Times.{last_moment}
use Rattle.store_files.specs.Book.{Book, Touch, touch_text, touch_of, signed_text, book_text, digests_rise, fields_of, is_book, book_of}
use Rattle.store_files.specs.Cells.{first_cells}
use Rattle.atime_book.specs.Touches.{empty}
use Rattle.store_history.specs.Saved.{book_in}
use Rattle.core_opening.specs.Booking.{counts_its_size}

-- ---- a text's third field, and its length

abbrev parts_of : Book → List ℕ
parts_of b = codes "PBSBOOK1" ++ (to_le_bytes w64 b.moment ++ (to_le_bytes w64 (length b.touches) ++ (flat_map touch_text b.touches ++ sha256 (signed_text b))))

text_is : (b : Book) → book_text b ≡ parts_of b
unfolding book_text
text_is b = simp append_assoc refl

third : (b : Book) → take 8 (drop 16 (parts_of b)) ≡ to_le_bytes w64 (length b.touches)
third b = refl

count_in : (b : Book) → length b.touches < 2 ^ 64 → from_le_bytes w64 (take 8 (drop 16 (book_text b))) ≡ length b.touches
count_in b small =
    ap (λ text. from_le_bytes w64 (take 8 (drop 16 text))) (text_is b) ∙ ap (from_le_bytes w64) (third b) ∙ from_le_bytes-to_le_bytes_8 (length b.touches) small

abbrev HasWidth : Touch → Type 0
HasWidth t = length t.digest ≡ 32

length-texts : (ts : List Touch) → All HasWidth ts → length (flat_map touch_text ts) ≡ length ts * 40
length-texts [] are = refl
length-texts (t ∷ ts) are =
    let rest = length-texts ts (All-tail HasWidth t ts are) in
    omega (
      arith,
      rest,
      All-head HasWidth t ts are,
      length-append t.digest (to_le_bytes w64 t.moment),
      length-append (touch_text t) (flat_map touch_text ts),
    )

length-text : (b : Book) → All HasWidth b.touches → length (book_text b) ≡ 56 + 40 * length b.touches
length-text b wide =
    let touches = flat_map touch_text b.touches in
    let moment = to_le_bytes w64 b.moment in
    let count = to_le_bytes w64 (length b.touches) in
    let sum = sha256 (signed_text b) in
    omega (
      arith,
      ap length (text_is b),
      length-texts b.touches wide,
      length-sha256 (signed_text b),
      length-append (codes "PBSBOOK1") (moment ++ (count ++ (touches ++ sum))),
      length-append moment (count ++ (touches ++ sum)),
      length-append count (touches ++ sum),
      length-append touches sum,
    )

-- ---- what is read as a book

widths : (n : ℕ) (bytes : List ℕ) → n * 40 ≤ length bytes → All HasWidth (map touch_of (first_cells 40 n bytes))
unfolding first_cells
widths zero bytes long = All-nil HasWidth
widths (suc n) bytes long =
    let cell = length-take-le 40 bytes (omega (arith, long)) in
    All-cons HasWidth (touch_of (take 40 bytes)) (map touch_of (first_cells 40 n (drop 40 bytes))) (length-take-le 32 (take 40 bytes) (omega (arith, cell)))
    (widths n (drop 40 bytes) (omega (arith, long, length-drop 40 bytes)))

is_some_book : (short is : Bool) (x b : Book) → cond short None (cond is (Some x) None) ≡ Some b → is ≡ true
is_some_book true is x b e = cc
is_some_book false true x b e = refl
is_some_book false false x b e = cc

sized_as : (bytes : List ℕ) (x : Book) → bytes ≡ book_text x → All HasWidth x.touches → length bytes < 2 ^ 64
    → (length bytes == 56 + 40 * from_le_bytes w64 (take 8 (drop 16 bytes))) ≡ true
sized_as bytes x same wide small =
    let long : length bytes ≡ 56 + 40 * length x.touches = ap (λ text. length text) same ∙ length-text x wide in
    let few : length x.touches < 2 ^ 64 = omega (arith, long, small) in
    let count = ap (λ text. from_le_bytes w64 (take 8 (drop 16 text))) same ∙ count_in x few in
    eq-eqb (length bytes) (56 + 40 * from_le_bytes w64 (take 8 (drop 16 bytes))) (long ∙ ap (λ n. 56 + 40 * n) (sym count))

sized : (bytes : List ℕ) (b : Book) → length bytes < 2 ^ 64 → book_of bytes ≡ Some b → counts_its_size (Some bytes) ≡ true
unfolding book_of
sized bytes b small e =
    let x = fields_of bytes in
    let passes = is_some_book _ (is_book bytes x) x b e in
    let late = and_parts (bytes_eq bytes (book_text x) && nat_le x.moment last_moment && digests_rise x.touches) (list_all (λ t. nat_le t.moment x.moment) x.touches) passes in
    let rise = and_parts (bytes_eq bytes (book_text x) && nat_le x.moment last_moment) (digests_rise x.touches) late.0 in
    let same = (and_parts (bytes_eq bytes (book_text x)) (nat_le x.moment last_moment) rise.0).0 in
    sized_as bytes x ((bytes_eq-Decides bytes (book_text x)).0 same) (widths _ (slice_range bytes 24 (length bytes - 32)) (omega arith)) small

-- what does not count so is none
none_by_count : (o : Option (List ℕ)) → ((text : List ℕ) → o ≡ Some text → length text < 2 ^ 64) → counts_its_size o ≡ false → book_in o ≡ empty
none_by_count None small is = refl
none_by_count (Some text) small is = by_book (book_of text) refl
  where
    clash : (a : Bool) → a ≡ true → a ≡ false → ⊥
    clash true p e = cc
    clash false p e = cc

    by_book : (r : Option Book) → book_of text ≡ r → unwrap_or r empty ≡ empty
    by_book None e = refl
    by_book (Some b) e = absurd (clash (counts_its_size (Some text)) (sized text b (small text refl) e) is)

none_there : (o : Option (List ℕ)) → None ≡ option_map (λ t. length t) o → book_in o ≡ empty
none_there None is = refl
none_there (Some text) is = cc

-- a file whose size is told has so many bytes
told_size : (o : Option (List ℕ)) (size : ℕ) → Some size ≡ option_map (λ t. length t) o → size < 2 ^ 64 → (text : List ℕ) → o ≡ Some text → length text < 2 ^ 64
told_size o size is small text there = subst (λ n. n < 2 ^ 64) (sizes (is ∙ ap (option_map (λ t. length t)) there)) small
  where
    sizes : {a b : ℕ} → Some a ≡ Some b → a ≡ b
    sizes e = cc

-- ---- what is told of it

count_none : (o : Option (List ℕ)) → None ≡ option_map (λ t. length t) o → false ≡ counts_its_size o
count_none None is = refl
count_none (Some text) is = cc

pub told_none : (o : Option (List ℕ)) → None ≡ option_map (λ t. length t) o → (false ≡ counts_its_size o) × (false ≡ false → book_in o ≡ empty)
told_none o is = (count_none o is, λ e. none_there o is)

-- the file's size, and the eight bytes that were read
count_told : (o : Option (List ℕ)) (size : ℕ) (zeros count : List ℕ) → Some size ≡ option_map (λ t. length t) o → length zeros ≡ 8
    → ((text : List ℕ) → o ≡ Some text → count ≡ take (length zeros) (drop 16 text) ++ drop (length text - 16) zeros)
    → (size == 56 + 40 * from_le_bytes w64 count) ≡ counts_its_size o
count_told None size zeros count is eight read = cc
count_told (Some text) size zeros count is eight read = by_long (nat_le 56 (length text)) refl
  where
    sizes : {a b : ℕ} → Some a ≡ Some b → a ≡ b
    sizes e = cc

    same : size ≡ length text
    same = sizes is

    by_long : (t : Bool) → nat_le 56 (length text) ≡ t → (size == 56 + 40 * from_le_bytes w64 count) ≡ (length text == 56 + 40 * from_le_bytes w64 (take 8 (drop 16 text)))
    by_long true long =
        let enough = leb-true 56 (length text) long in
        let bytes : count ≡ take 8 (drop 16 text) =
        read text refl
        ∙ ap (λ rest. take (length zeros) (drop 16 text) ++ rest) (drop_of_length-le zeros (omega (arith, enough, eight)))
        ∙ append-nil (take (length zeros) (drop 16 text))
        ∙ ap (λ n. take n (drop 16 text)) eight in
        ap (λ n. n == 56 + 40 * from_le_bytes w64 count) same ∙ ap (λ c. length text == 56 + 40 * from_le_bytes w64 c) bytes
    by_long false short =
        let less = leb-false 56 (length text) short in
        ne_eqb size (56 + 40 * from_le_bytes w64 count) (λ e. omega (arith, e, same, less))
        ∙ sym (ne_eqb (length text) (56 + 40 * from_le_bytes w64 (take 8 (drop 16 text))) (λ e. omega (arith, e, less)))

at_text : (o : Option (List ℕ)) (P : Type 0) (Q : List ℕ → Type 0) → MatchOption o P Q → (text : List ℕ) → o ≡ Some text → Q text
at_text o P Q h text e = subst (λ q. MatchOption q P Q) e h

-- both, of what the disk told
pub told_both : (o now : Option (List ℕ)) (size : ℕ) (zeros count : List ℕ) (P : Type 0) (R : List ℕ → Type 0) → Some size ≡ option_map (λ t. length t) o → size < 2 ^ 64 → length zeros ≡ 8 → now ≡ o
    → MatchOption now P (λ text. R text × (count ≡ take (length zeros) (drop 16 text) ++ drop (length text - 16) zeros))
    → ((size == 56 + 40 * from_le_bytes w64 count) ≡ counts_its_size o) × ((size == 56 + 40 * from_le_bytes w64 count) ≡ false → book_in o ≡ empty)
told_both o now size zeros count P R is small eight same read =
    let at = λ (text : List ℕ) (there : o ≡ Some text). (at_text now P (λ text. R text × (count ≡ take (length zeros) (drop 16 text) ++ drop (length text - 16) zeros)) read text (same ∙ there)).1 in
    let told = count_told o size zeros count is eight at in
    (told, λ e. none_by_count o (told_size o size is small) (sym told ∙ e))
