-- Writing and reading books are inverse to each other.
use Rattle.std.proofs.Common.{◌≡◌, ℕ, zero, suc, ◌+◌, ◌-◌, ◌*◌, ◌/◌, ◌^◌, ◌<◌, ◌≤◌, Bool, true, false, ◌&&◌, cond, List, [], ◌∷◌, ◌++◌, length, map, take, drop, All, slice_range, Some, None, refl, sym, ap, ap₂, subst, ◌∙◌, append_assoc, arith, le-leb, drop-drop}
use Rattle.std.specs.Prelude.{nat_le, codes}
use Rattle.std.specs.Int.{w64, to_le_bytes, from_le_bytes}
use Rattle.std.specs.List.{flat_map}
use Rattle.std.specs.Str.{bytes_eq}
use Rattle.std.proofs.Math.Seq.{take-append_seam, drop-append_seam}
use Rattle.std.proofs.lemmas.Bool.{leb-true}
use Rattle.std.proofs.lemmas.Nat.{from_le_bytes-to_le_bytes_8}
use Rattle.std.proofs.lemmas.List.{length-append, length-drop, length-take-le}
use Rattle.std.proofs.lemmas.List.Elements.{All-nil, All-cons, All-head, All-tail}
use Rattle.std.proofs.lemmas.Slice.Eq.{bytes_eq-Decides}
use Rattle.sha2.specs.Sha256.{sha256}
use Rattle.sha2.proofs.Facts256.{length-sha256}
use Rattle.store_types.specs.Times.{last_moment}
use Rattle.store_files.specs.Cells.{first_cells, cells}
use Rattle.store_files.specs.Book.{Touch, Book, FitsBook, touch_text, signed_text, book_text, digests_rise, touch_of, fields_of, is_book, book_of}
use Rattle.atime_book.specs.Reading.{pass_from}
use Rattle.atime_book.proofs.Whole.{within, pass_is, tests}

-- ---- touches from their texts

-- what a text needs to be read again
abbrev HasText : Touch → Type 0
HasText t = (length t.digest ≡ 32) × (t.moment < 2 ^ 64)

front : (n : ℕ) (a rest : List ℕ) → length a ≡ n → take n (a ++ rest) ≡ a
front n a rest is = subst (λ k. take k (a ++ rest) ≡ a) is (take-append_seam a rest)

seam : (n : ℕ) (a rest : List ℕ) → length a ≡ n → drop n (a ++ rest) ≡ rest
seam n a rest is = subst (λ j. drop j (a ++ rest) ≡ rest) is (drop-append_seam a rest)

length-touch_text : (t : Touch) → HasText t → length (touch_text t) ≡ 40
length-touch_text t has = omega (arith, has.0, length-append t.digest (to_le_bytes w64 t.moment))

length-texts : (ts : List Touch) → All HasText ts → length (flat_map touch_text ts) ≡ length ts * 40
length-texts [] are = refl
length-texts (t ∷ ts) are =
    let rest = length-texts ts (All-tail HasText t ts are) in
    omega (arith, rest, length-touch_text t (All-head HasText t ts are), length-append (touch_text t) (flat_map touch_text ts))

touch_of-text : (t : Touch) → HasText t → touch_of (touch_text t) ≡ t
touch_of-text t has =
    let digest = front 32 t.digest (to_le_bytes w64 t.moment) has.0 in
    let moment = ap (from_le_bytes w64) (seam 32 t.digest (to_le_bytes w64 t.moment) has.0) ∙ from_le_bytes-to_le_bytes_8 t.moment has.1 in
    λ i. record { digest = digest i; moment = moment i }

first_touches : (ts : List Touch) → All HasText ts → map touch_of (first_cells 40 (length ts) (flat_map touch_text ts)) ≡ ts
unfolding first_cells
first_touches [] are = refl
first_touches (t ∷ ts) are =
    let head = All-head HasText t ts are in
    let len = length-touch_text t head in
    let rest = first_touches ts (All-tail HasText t ts are) in
    ap₂ (λ c cs. c ∷ cs) (ap touch_of (front 40 (touch_text t) (flat_map touch_text ts) len) ∙ touch_of-text t head)
    (ap (λ b. map touch_of (first_cells 40 (length ts) b)) (seam 40 (touch_text t) (flat_map touch_text ts) len) ∙ rest)

touches_again : (ts : List Touch) → All HasText ts → map touch_of (cells 40 (flat_map touch_text ts)) ≡ ts
touches_again ts are =
    let count : length (flat_map touch_text ts) / 40 ≡ length ts = omega (arith, length-texts ts are) in
    ap (λ n. map touch_of (first_cells 40 n (flat_map touch_text ts))) count ∙ first_touches ts are

-- ---- the parts of a text

module _ (m a b c d : List ℕ) (m_len : length m ≡ 8) (a_len : length a ≡ 8) (b_len : length b ≡ 8) (d_len : length d ≡ 32) where
  whole : List ℕ
  whole = m ++ (a ++ (b ++ (c ++ d)))

  length-whole : length whole ≡ 56 + length c
  unfolding whole
  length-whole = omega (
    arith,
    m_len,
    a_len,
    b_len,
    d_len,
    length-append m (a ++ (b ++ (c ++ d))),
    length-append a (b ++ (c ++ d)),
    length-append b (c ++ d),
    length-append c d,
  )

  past_m : drop 8 whole ≡ a ++ (b ++ (c ++ d))
  unfolding whole
  past_m = seam 8 m _ m_len

  past_a : drop 16 whole ≡ b ++ (c ++ d)
  past_a = sym (drop-drop 8 8 whole) ∙ ap (drop 8) past_m ∙ seam 8 a _ a_len

  past_b : drop 24 whole ≡ c ++ d
  past_b = sym (drop-drop 8 16 whole) ∙ ap (drop 8) past_a ∙ seam 8 b _ b_len

  second : slice_range whole 8 16 ≡ a
  second = ap (take 8) past_m ∙ front 8 a _ a_len

  middle : slice_range whole 24 (length whole - 32) ≡ c
  middle =
      let size : length c ≡ length whole - 32 - 24 = omega (arith, length-whole) in
      ap (λ n. take n (drop 24 whole)) (sym size) ∙ ap (take (length c)) past_b ∙ take-append_seam c d

abbrev parts_of : Book → List ℕ
parts_of b = codes "PBSBOOK1" ++ (to_le_bytes w64 b.moment ++ (to_le_bytes w64 (length b.touches) ++ (flat_map touch_text b.touches ++ sha256 (signed_text b))))

text_is : (b : Book) → book_text b ≡ parts_of b
unfolding book_text
text_is b = simp append_assoc refl

have_texts : (moment : ℕ) (ts : List Touch) → moment ≤ last_moment → All (λ t. (length t.digest ≡ 32) × (t.moment ≤ moment)) ts → All HasText ts
have_texts moment [] early are = All-nil HasText
have_texts moment (t ∷ ts) early are =
    let head = All-head (λ (u : Touch). (length u.digest ≡ 32) × (u.moment ≤ moment)) t ts are in
    All-cons HasText t ts (head.0, omega (arith, head.1, early))
    (have_texts moment ts early (All-tail (λ (u : Touch). (length u.digest ≡ 32) × (u.moment ≤ moment)) t ts are))

fields_are : (b : Book) → FitsBook b → fields_of (book_text b) ≡ b
unfolding whole
fields_are b fits =
    let are = have_texts b.moment b.touches fits.moment fits.touches in
    let sum = length-sha256 (signed_text b) in
    let moment = ap (λ text. from_le_bytes w64 (slice_range text 8 16)) (text_is b)
    ∙ ap (from_le_bytes w64) (second (codes "PBSBOOK1") (to_le_bytes w64 b.moment) (to_le_bytes w64 (length b.touches)) (flat_map touch_text b.touches) (sha256 (signed_text b)) refl refl refl sum)
    ∙ from_le_bytes-to_le_bytes_8 b.moment (omega (arith, fits.moment)) in
    let touches = ap (λ text. map touch_of (cells 40 (slice_range text 24 (length text - 32)))) (text_is b)
    ∙ ap (λ c. map touch_of (cells 40 c)) (middle (codes "PBSBOOK1") (to_le_bytes w64 b.moment) (to_le_bytes w64 (length b.touches)) (flat_map touch_text b.touches) (sha256 (signed_text b)) refl refl refl sum)
    ∙ touches_again b.touches are in
    λ i. record { moment = moment i; touches = touches i }

long_enough : (b : Book) → 56 ≤ length (book_text b)
unfolding whole
long_enough b =
    let len = length-whole (codes "PBSBOOK1") (to_le_bytes w64 b.moment) (to_le_bytes w64 (length b.touches)) (flat_map touch_text b.touches) (sha256 (signed_text b)) refl refl refl (length-sha256 (signed_text b)) in
    omega (arith, ap length (text_is b), len)

all_within : (moment : ℕ) (ts : List Touch) → All (λ t. (length t.digest ≡ 32) × (t.moment ≤ moment)) ts → within moment ts ≡ true
all_within moment [] are = refl
all_within moment (t ∷ ts) are =
    let head = All-head (λ (u : Touch). (length u.digest ≡ 32) × (u.moment ≤ moment)) t ts are in
    let rest = all_within moment ts (All-tail (λ (u : Touch). (length u.digest ≡ 32) × (u.moment ≤ moment)) t ts are) in
    ap (λ x. x && within moment ts) (le-leb _ _ head.1) ∙ rest

pub book_of-book_text : (b : Book) → FitsBook b → book_of (book_text b) ≡ Some b
book_of-book_text b fits =
    let text = book_text b in
    let fields = fields_are b fits in
    let passes = ap (λ (x : Book). pass_from x.moment None x.touches) fields ∙ pass_is b.moment b.touches
    ∙ ap (λ x. x && within b.moment b.touches) fits.rise ∙ all_within b.moment b.touches fits.touches in
    tests text (long_enough b) true true true
    ((bytes_eq-Decides _ _).1 (ap book_text (sym fields)))
    (ap (λ (x : Book). nat_le x.moment last_moment) fields ∙ le-leb _ _ fits.moment) passes
    ∙ ap Some fields

-- ---- and what is read was written so

abbrev HasWidth : Touch → Type 0
HasWidth t = length t.digest ≡ 32

widths : (n : ℕ) (bytes : List ℕ) → n * 40 ≤ length bytes → All HasWidth (map touch_of (first_cells 40 n bytes))
unfolding first_cells
widths zero bytes long = All-nil HasWidth
widths (suc n) bytes long =
    let cell = length-take-le 40 bytes (omega (arith, long)) in
    All-cons HasWidth (touch_of (take 40 bytes)) (map touch_of (first_cells 40 n (drop 40 bytes))) (length-take-le 32 (take 40 bytes) (omega (arith, cell)))
    (widths n (drop 40 bytes) (omega (arith, long, length-drop 40 bytes)))

both : (a b : Bool) → (a && b) ≡ true → (a ≡ true) × (b ≡ true)
both true true e = (refl, refl)
both true false e = cc
both false b e = cc

-- what each has by itself, both at once
early_ones : (moment : ℕ) (ts : List Touch) → All HasWidth ts → within moment ts ≡ true → All (λ t. (length t.digest ≡ 32) × (t.moment ≤ moment)) ts
early_ones moment [] wide early = All-nil (λ (t : Touch). (length t.digest ≡ 32) × (t.moment ≤ moment))
early_ones moment (t ∷ ts) wide early =
    let parts = both (nat_le t.moment moment) (within moment ts) early in
    All-cons (λ (u : Touch). (length u.digest ≡ 32) × (u.moment ≤ moment)) t ts (All-head HasWidth t ts wide, leb-true _ _ parts.0)
    (early_ones moment ts (All-tail HasWidth t ts wide) parts.1)

is_some_book : (short is : Bool) (x b : Book) → cond short None (cond is (Some x) None) ≡ Some b → (is ≡ true) × (x ≡ b)
is_some_book true is x b e = cc
is_some_book false true x b e = (refl, cc)
is_some_book false false x b e = cc

pub text-from_book_of : (bytes : List ℕ) (b : Book) → book_of bytes ≡ Some b → (bytes ≡ book_text b) × FitsBook b
unfolding book_of
text-from_book_of bytes b e =
    let x = fields_of bytes in
    let found = is_some_book _ (is_book bytes x) x b e in
    let late = both (bytes_eq bytes (book_text x) && nat_le x.moment last_moment && digests_rise x.touches) (within x.moment x.touches) found.0 in
    let rise = both (bytes_eq bytes (book_text x) && nat_le x.moment last_moment) (digests_rise x.touches) late.0 in
    let early = both (bytes_eq bytes (book_text x)) (nat_le x.moment last_moment) rise.0 in
    let cells_fit = widths _ (slice_range bytes 24 (length bytes - 32)) (omega arith) in
    let fits : FitsBook x = record {
      moment = leb-true _ _ early.1;
      touches = early_ones x.moment x.touches cells_fit late.1;
      rise = rise.1;
    } in
    ((bytes_eq-Decides _ _).0 early.0 ∙ ap book_text found.1, subst FitsBook found.1 fits)
