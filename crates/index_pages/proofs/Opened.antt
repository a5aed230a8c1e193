-- An opening by pages tells what the reading of the whole text tells.
use Rattle.std.proofs.Common.{◌≡◌, ℕ, ◌+◌, ◌-◌, ◌*◌, ◌/◌, ◌%◌, ◌≤◌, Bool, true, false, not, cond, List, length, take, drop, nat_lt, slice_range, Option, Some, None, Result, Ok, Err, refl, sym, ap, ap₂, ◌∙◌, arith}
use Rattle.std.specs.Prelude.{◌==◌}
use Rattle.std.specs.Str.{bytes_eq}
use Rattle.std.proofs.lemmas.Bool.{ltb-false, le-ltb, eqb-true}
use Rattle.std.proofs.lemmas.List.{drop-take, take-take}
use Rattle.store_files.specs.Cells.{header_len, entry_limit}
use Rattle.store_files.specs.declared.causes.IndexFault.{IndexFault}
use Rattle.store_files.specs.declared.causes.IndexFault.TheVariants.{Short, Magic, Length, Count}
use Rattle.index_pages.specs.declared.fault.PageFault.{PageFault}
use Rattle.index_pages.specs.declared.fault.PageFault.TheVariants.{Missing, BadIndex}
use Rattle.index_pages.specs.declared.head.Head.{Head}
use Rattle.index_pages.specs.declared.opening.Body.{Body}
use Rattle.index_pages.specs.Opening.{IsBody, count_told, front_in, opened_by, told_by}
use Rattle.index_pages.specs.Paged.{IsWidth, count_of, first_sums, page_count, paged}
use Rattle.index_pages.proofs.Carried.{same_err}
use Rattle.index_pages.proofs.Cutting.{by_width}
use Rattle.index_pages.proofs.Filled.{by_bool}

-- how a text is read as an index of a kind: by the tests that go by its front and its length, and then by the rest
abbrev pub read_by : {X : Type 0} → List ℕ → ℕ → List ℕ → Result X IndexFault → Result X IndexFault
read_by magic width text rest =
    cond (nat_lt (length text) header_len) (Err Short)
    (cond (not (bytes_eq (take 8 text) magic)) (Err Magic)
    (cond (not ((length text - header_len) % width == 0)) (Err Length)
    (cond (nat_lt entry_limit ((length text - header_len) / width)) (Err Count) rest)))

abbrev pub IsReadBy : {X : Type 0} → List ℕ → ℕ → (List ℕ → Result X IndexFault) → (List ℕ → Result X IndexFault) → Type 0
IsReadBy magic width read rest = (text : List ℕ) → read text ≡ read_by magic width text (rest text)

-- ---- the front

abbrev Front : Type 0
Front = Result (ℕ × List ℕ) PageFault

front_some : (text : List ℕ) (b : Bool) → nat_lt (length text) header_len ≡ b → front_in (Some text) ≡ cond b (Err (BadIndex Short)) (Ok (length text, take 80 text))
front_some text b e = ap (λ c. cond c (Err (BadIndex Short)) (Ok (length text, take 80 text))) e

-- the front of a file that is there, which is long enough
pub record HasFront (o : Option (List ℕ)) (h : Head) : Type 0 where
  pub text : List ℕ
  pub there : o ≡ Some text
  pub long : 4096 ≤ length text
  pub size : h.size ≡ length text
  pub front : h.front ≡ take 80 text

pub has_front : (o : Option (List ℕ)) (h : Head) → front_in o ≡ Ok (h.size, h.front) → HasFront o h
has_front None h e = absurd (none e)
  where
    none : ◌≡◌ {A = Front} (Err Missing) (Ok (h.size, h.front)) → ⊥
    none e = cc
has_front (Some text) h e =
    by_bool (nat_lt (length text) header_len) (HasFront (Some text) h)
    (λ t. absurd (short (sym (front_some text true t) ∙ e)))
    (λ f. let same = pair (sym (front_some text false f) ∙ e) in
    record { text = text; there = refl; long = ltb-false _ _ f; size = sym (ap (λ p. p.0) same); front = sym (ap (λ p. p.1) same) })
  where
    short : ◌≡◌ {A = Front} (Err (BadIndex Short)) (Ok (h.size, h.front)) → ⊥
    short e = cc

    pair : ◌≡◌ {A = Front} (Ok (length text, take 80 text)) (Ok (h.size, h.front)) → ◌≡◌ {A = ℕ × List ℕ} (length text, take 80 text) (h.size, h.front)
    pair e = cc

-- a part of the front is one of the text
pub front_part : (text front : List ℕ) (at more behind : ℕ) → front ≡ take 80 text → at + (more + behind) ≡ 80
    → slice_range front at (at + more) ≡ slice_range text at (at + more)
front_part text front at more behind is all =
    let len : at + more - at ≡ more = omega arith in
    let fits : more ≤ more + behind = omega arith in
    ap (λ f. slice_range f at (at + more)) is
    ∙ ap₂ (λ n k. take n (drop at (take k text))) len (sym all)
    ∙ ap (take more) (drop-take at (more + behind) text)
    ∙ take-take more (more + behind) (drop at text) fits
    ∙ ap (λ n. take n (drop at text)) (sym len)

-- ---- the count

abbrev tests : Bool → Bool → Bool → ℕ → Result ℕ PageFault
tests m w n k = cond (not m) (Err (BadIndex Magic)) (cond (not w) (Err (BadIndex Length)) (cond n (Err (BadIndex Count)) (Ok k)))

abbrev tested : {X : Type 0} → Bool → Bool → Bool → Result X IndexFault → Result X IndexFault
tested m w n rest = cond (not m) (Err Magic) (cond (not w) (Err Length) (cond n (Err Count) rest))

tests_err : {X P : Type 0} (p : P) (m w n : Bool) (k : ℕ) (rest : Result X IndexFault) (fault : PageFault) → tests m w n k ≡ Err fault
    → told_by p (tested m w n rest) ≡ Err fault
tests_err {P = P} p false w n k rest fault e = same_err {A = ℕ} {B = P} (BadIndex Magic) fault e
tests_err {P = P} p true false n k rest fault e = same_err {A = ℕ} {B = P} (BadIndex Length) fault e
tests_err {P = P} p true true true k rest fault e = same_err {A = ℕ} {B = P} (BadIndex Count) fault e
tests_err p true true false k rest fault e = cc

record Passed (m w n : Bool) (k count : ℕ) : Type 0 where
  magic : m ≡ true
  whole : w ≡ true
  few : n ≡ false
  count_is : k ≡ count

tests_ok : (m w n : Bool) (k count : ℕ) → tests m w n k ≡ Ok count → Passed m w n k count
tests_ok false w n k count e = cc
tests_ok true false n k count e = cc
tests_ok true true true k count e = cc
tests_ok true true false k count e = record { magic = refl; whole = refl; few = refl; count_is = cc }

abbrev is_whole : ℕ → List ℕ → Bool
is_whole width text = (length text - header_len) % width == 0

abbrev has_many : ℕ → List ℕ → Bool
has_many width text = nat_lt entry_limit (count_of width text)

count_at : (magic : List ℕ) (width : ℕ) (text : List ℕ) (h : Head) → h.size ≡ length text → h.front ≡ take 80 text
    → count_told magic width h ≡ tests (bytes_eq (take 8 text) magic) (is_whole width text) (has_many width text) (count_of width text)
count_at magic width text h size front =
    ap₂ (λ n f. tests (bytes_eq (take 8 f) magic) ((n - header_len) % width == 0) (nat_lt entry_limit ((n - header_len) / width)) ((n - header_len) / width)) size front
    ∙ ap (λ f. tests (bytes_eq f magic) (is_whole width text) (has_many width text) (count_of width text)) (take-take 8 80 text (omega arith))

whole_32 : (size count : ℕ) → 4096 ≤ size → (size - 4096) % 32 ≡ 0 → (size - 4096) / 32 ≡ count → size ≡ 4096 + count * 32
whole_32 size count long whole is = omega (arith, long, whole, is)

whole_40 : (size count : ℕ) → 4096 ≤ size → (size - 4096) % 40 ≡ 0 → (size - 4096) / 40 ≡ count → size ≡ 4096 + count * 40
whole_40 size count long whole is = omega (arith, long, whole, is)

-- so many entries stand behind the header
pub whole_is : (width size count : ℕ) → IsWidth width → 4096 ≤ size → (size - 4096) % width ≡ 0 → (size - 4096) / width ≡ count → size ≡ 4096 + count * width
whole_is width size count is =
    by_width (λ w. 4096 ≤ size → (size - 4096) % w ≡ 0 → (size - 4096) / w ≡ count → size ≡ 4096 + count * w) width is (whole_32 size count) (whole_40 size count)

-- a text of so many entries, which is read by the rest
pub record HasCount {X : Type 0} (width : ℕ) (read rest : List ℕ → Result X IndexFault) (text : List ℕ) (count : ℕ) : Type 0 where
  pub len : length text ≡ 4096 + count * width
  pub limit : count ≤ entry_limit
  pub counted : count_of width text ≡ count
  pub by_rest : read text ≡ rest text

module _ {X P : Type 0} (magic : List ℕ) (width : ℕ) (read rest : List ℕ → Result X IndexFault) (keep : List ℕ → P) (by : IsReadBy magic width read rest) where
  read_short : (text : List ℕ) → nat_lt (length text) header_len ≡ true → read text ≡ Err Short
  read_short text t =
      by text ∙ ap (λ b. cond b (Err Short) (tested (bytes_eq (take 8 text) magic) (is_whole width text) (has_many width text) (rest text))) t

  read_long : (text : List ℕ) → 4096 ≤ length text → read text ≡ tested (bytes_eq (take 8 text) magic) (is_whole width text) (has_many width text) (rest text)
  read_long text long =
      by text ∙ ap (λ b. cond b (Err Short) (tested (bytes_eq (take 8 text) magic) (is_whole width text) (has_many width text) (rest text))) (le-ltb (length text) header_len long)

  -- there is no front, and so no index
  pub no_front : (o : Option (List ℕ)) (fault : PageFault) → front_in o ≡ Err fault → opened_by read keep o ≡ Err fault
  no_front None fault e = same_err {A = ℕ × List ℕ} {B = P} Missing fault e
  no_front (Some text) fault e =
      by_bool (nat_lt (length text) header_len) (opened_by read keep (Some text) ≡ Err fault)
      (λ t. ap (told_by (keep text)) (read_short text t) ∙ same_err {A = ℕ × List ℕ} {B = P} (BadIndex Short) fault (sym (front_some text true t) ∙ e))
      (λ f. absurd (long (sym (front_some text false f) ∙ e)))
    where
      long : ◌≡◌ {A = Front} (Ok (length text, take 80 text)) (Err fault) → ⊥
      long e = cc

  pub no_count : (text : List ℕ) (h : Head) (fault : PageFault) → h.size ≡ length text → h.front ≡ take 80 text → 4096 ≤ length text
      → Err fault ≡ count_told magic width h → opened_by read keep (Some text) ≡ Err fault
  no_count text h fault size front long e =
      ap (told_by (keep text)) (read_long text long)
      ∙ tests_err (keep text) (bytes_eq (take 8 text) magic) (is_whole width text) (has_many width text) (count_of width text) (rest text) fault (sym (count_at magic width text h size front) ∙ sym e)

  pub has_count : IsWidth width → (text : List ℕ) (h : Head) (count : ℕ) → h.size ≡ length text → h.front ≡ take 80 text → 4096 ≤ length text
      → Ok count ≡ count_told magic width h → HasCount width read rest text count
  has_count is text h count size front long e =
      let p = tests_ok (bytes_eq (take 8 text) magic) (is_whole width text) (has_many width text) (count_of width text) count (sym (count_at magic width text h size front) ∙ sym e) in
      let whole : (length text - header_len) % width ≡ 0 = eqb-true _ _ p.whole in
      let few : count_of width text ≤ entry_limit = ltb-false _ _ p.few in
      record {
        len = whole_is width (length text) count is long whole p.count_is;
        limit = omega (arith, few, p.count_is);
        counted = p.count_is;
        by_rest = read_long text long
            ∙ ap₂ (λ m w. tested m w (has_many width text) (rest text)) p.magic p.whole
            ∙ ap (λ n. tested true true n (rest text)) p.few;
      }

-- ---- what is kept is the text's

pub pages_are : (name text : List ℕ) (width count : ℕ) (b : Body) → count_of width text ≡ count → IsBody width count (drop 4096 text) b
    → record { name = name; width = width; count = count; sums = b.sums.items } ≡ paged width name text
unfolding paged
pages_are name text width count b counted is =
    ap (λ s. record { name = name; width = width; count = count; sums = s }) is.sums
    ∙ ap (λ (n : ℕ). record { name = name; width = width; count = n; sums = first_sums width (page_count n) (drop header_len text) }) (sym counted)
