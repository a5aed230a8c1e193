-- Bytes cut into pages.
use Rattle.std.proofs.Common.{◌≡◌, ℕ, zero, suc, ◌+◌, ◌-◌, ◌*◌, ◌<◌, ◌≤◌, min, inl, inr, List, [], ◌∷◌, ◌++◌, length, take, drop, refl, sym, ap, subst, ◌∙◌, arith}
use Rattle.std.proofs.lemmas.List.{take_min, take_all, length-drop}
use Rattle.std.proofs.lemmas.List.FromFn.{map-range_with_len_more}
use Rattle.std.proofs.Math.ListN.{drop_of_length-le}
use Rattle.std.proofs.Math.Seq.{take-add}
use Rattle.sha2.specs.Sha256.{sha256}
use Rattle.store_files.specs.Cells.{first_cells}
use Rattle.index_pages.specs.declared.opening.Opening.{Opening}
use Rattle.index_pages.specs.declared.opening.Body.{Body}
use Rattle.index_pages.specs.Opening.{AreBytes, Begins, ClosesAt, HasPages, HasRead, IsBody, NotesPage, noted_sum, page_of}
use Rattle.index_pages.specs.Paged.{IsWidth, entries_at, first_sums, front_of, page_count, page_size, page_sum}
use Rattle.hash_states.specs.States.{state_after}

-- by both widths
pub by_width : (P : ℕ → Type 0) (width : ℕ) → IsWidth width → P 32 → P 40 → P width
by_width P width (inl is) narrow wide = subst P (sym is) narrow
by_width P width (inr is) narrow wide = subst P (sym is) wide

-- ---- cells

pub length-cells : (size n : ℕ) (bytes : List ℕ) → length (first_cells size n bytes) ≡ n
unfolding first_cells
length-cells size zero bytes = refl
length-cells size (suc n) bytes = ap suc (length-cells size n (drop size bytes))

-- ---- pages

page_is_32 : (count i : ℕ) (body : List ℕ) → length body ≡ count * 32 → page_of 32 count i body ≡ take 32_768 (drop (i * 32_768) body)
page_is_32 count i body len =
    let rest = drop (i * 32_768) body in
    let size : entries_at count i * 32 ≡ min 32_768 (length rest) = omega (arith, len, length-drop (i * 32_768) body) in
    ap (λ n. take n rest) size ∙ take_min 32_768 rest

page_is_40 : (count i : ℕ) (body : List ℕ) → length body ≡ count * 40 → page_of 40 count i body ≡ take 40_960 (drop (i * 40_960) body)
page_is_40 count i body len =
    let rest = drop (i * 40_960) body in
    let size : entries_at count i * 40 ≡ min 40_960 (length rest) = omega (arith, len, length-drop (i * 40_960) body) in
    ap (λ n. take n rest) size ∙ take_min 40_960 rest

-- a page is what a whole page would be, or what is left
pub page_is : (width count i : ℕ) (body : List ℕ) → IsWidth width → length body ≡ count * width
    → page_of width count i body ≡ take (page_size width) (drop (i * page_size width) body)
page_is width count i body is =
    by_width (λ w. length body ≡ count * w → page_of w count i body ≡ take (page_size w) (drop (i * page_size w) body)) width is
    (page_is_32 count i body) (page_is_40 count i body)

past_32 : (count i : ℕ) (body : List ℕ) → length body ≡ count * 32 → page_count count ≤ i → length body ≤ i * 32_768
past_32 count i body len past = omega (arith, len, past)

past_40 : (count i : ℕ) (body : List ℕ) → length body ≡ count * 40 → page_count count ≤ i → length body ≤ i * 40_960
past_40 count i body len past = omega (arith, len, past)

past_all : (width count i : ℕ) (body : List ℕ) → IsWidth width → length body ≡ count * width → page_count count ≤ i → length body ≤ i * page_size width
past_all width count i body is =
    by_width (λ w. length body ≡ count * w → page_count count ≤ i → length body ≤ i * page_size w) width is (past_32 count i body) (past_40 count i body)

-- all was read
pub all_read : (width count i : ℕ) (body : List ℕ) → IsWidth width → length body ≡ count * width → page_count count ≤ i
    → (take (i * page_size width) body ≡ body) × (drop (i * page_size width) body ≡ [])
all_read width count i body is len past =
    let inside = past_all width count i body is len past in
    (take_all (i * page_size width) body inside, drop_of_length-le body inside)

inside_32 : (count i size : ℕ) → size ≡ count * 32 → i < page_count count → entries_at count i * 32 ≤ size - i * 32_768
inside_32 count i size len below = omega (arith, len, below)

inside_40 : (count i size : ℕ) → size ≡ count * 40 → i < page_count count → entries_at count i * 40 ≤ size - i * 40_960
inside_40 count i size len below = omega (arith, len, below)

-- a page has all its bytes
pub inside : (width count i size : ℕ) → IsWidth width → size ≡ count * width → i < page_count count → entries_at count i * width ≤ size - i * page_size width
inside width count i size is =
    by_width (λ w. size ≡ count * w → i < page_count count → entries_at count i * w ≤ size - i * page_size w) width is (inside_32 count i size) (inside_40 count i size)

-- ---- bytes

pub bytes_joined : (xs ys : List ℕ) → AreBytes xs → AreBytes ys → AreBytes (xs ++ ys)
bytes_joined [] ys one two i = two i
bytes_joined (x ∷ xs) ys one two zero = one 0
bytes_joined (x ∷ xs) ys one two (suc i) = bytes_joined xs ys (λ j. one (suc j)) two i

no_bytes : AreBytes []
no_bytes i = omega arith

-- ---- what was read

pub none_read : (width : ℕ) (body : List ℕ) (o : Opening) → Begins o → HasPages width 0 body o
none_read width body o is =
    let none : 0 ≡ 0 * page_size width = omega arith in
    record { read = subst (λ n. HasRead [] (take n body) o) none is; small = subst (λ n. AreBytes (take n body)) none no_bytes }

-- a page behind all before it
pub front_more : (width count i : ℕ) (body page : List ℕ) → IsWidth width → length body ≡ count * width → page ≡ page_of width count i body
    → front_of width body i ++ page ≡ front_of width body (i + 1)
front_more width count i body page is len same =
    let size = page_size width in
    let at : i * size + size ≡ (i + 1) * size = omega arith in
    ap (λ p. take (i * size) body ++ p) (same ∙ page_is width count i body is len)
    ∙ sym (take-add (i * size) size body) ∙ ap (λ n. take n body) at

-- one page more
pub pages_more : (width count i : ℕ) (body : List ℕ) (old new : Opening) (page : List ℕ) → IsWidth width → length body ≡ count * width
    → page ≡ page_of width count i body → AreBytes page → NotesPage old new page → HasPages width i body old → HasPages width (i + 1) body new
pages_more width count i body old new page is len same small notes before =
    let sums = first_sums width i body in
    let front = front_of width body i in
    let more = front_more width count i body page is len same in
    let noted : sums ++ noted_sum front page ∷ [] ≡ first_sums width (i + 1) body =
    ap (λ b. sums ++ record { before = state_after front; sum = record { 0 = sha256 b } } ∷ []) more
    ∙ sym (map-range_with_len_more (page_sum width body) 0 i i (omega arith)) in
    record {
      read = subst (λ ks. HasRead ks (front_of width body (i + 1)) new) noted
          (subst (λ bs. HasRead (sums ++ noted_sum front page ∷ []) bs new) more (notes sums front before.read));
      small = subst AreBytes more (bytes_joined front page before.small small);
    }

-- behind the last page
pub pages_end : (width count i : ℕ) (body : List ℕ) (o : Opening) (b : Body) → IsWidth width → length body ≡ count * width → i ≡ page_count count
    → HasPages width i body o → ClosesAt o b → IsBody width count body b
pages_end width count i body o b is len past before closes =
    let all = (all_read width count i body is len (omega (arith, past))).0 in
    let closed = closes (first_sums width i body) (front_of width body i) before.read in
    record {
      sums = closed.sums ∙ ap (λ n. first_sums width n body) past;
      csum = closed.csum ∙ ap sha256 all;
      small = subst AreBytes all before.small;
    }
