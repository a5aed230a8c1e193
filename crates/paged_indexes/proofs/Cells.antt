-- The cells of a page are those of the body at its place.
use Rattle.std.proofs.Common.{◌≡◌, ℕ, zero, suc, ◌+◌, ◌-◌, ◌*◌, ◌/◌, ◌<◌, ◌≤◌, min, List, [], ◌∷◌, ◌++◌, length, take, drop, refl, sym, ap, ap₂, ◌∙◌, arith}
use Rattle.std.proofs.lemmas.List.{drop-append-le, drop-drop, drop-take, take-append-le, take-take, take_min, length-append, length-drop, length-take-le}
use Rattle.store_files.specs.Cells.{first_cells, cells}
use Rattle.index_pages.specs.Opening.{page_of}
use Rattle.index_pages.specs.Paged.{IsWidth, entries_at, page_count, page_size}
use Rattle.index_pages.proofs.Cutting.{by_width, inside, length-cells}

drop_cells : (size k n : ℕ) (xs : List ℕ) → k ≤ n → drop k (first_cells size n xs) ≡ first_cells size (n - k) (drop (k * size) xs)
unfolding first_cells
drop_cells size zero n xs le =
    let none : 0 ≡ 0 * size = omega arith in
    let all : n ≡ n - 0 = omega arith in
    ap₂ (λ m j. first_cells size m (drop j xs)) all none
drop_cells size (suc k) zero xs le = absurd (omega arith)
drop_cells size (suc k) (suc n) xs le =
    let at : size + k * size ≡ suc k * size = omega arith in
    let left : n - k ≡ suc n - suc k = omega arith in
    drop_cells size k n (drop size xs) (omega arith)
    ∙ ap (first_cells size (n - k)) (drop-drop (k * size) size xs ∙ ap (λ j. drop j xs) at)
    ∙ ap (λ m. first_cells size m (drop (suc k * size) xs)) left

take_cells : (size k n : ℕ) (xs : List ℕ) → k ≤ n → take k (first_cells size n xs) ≡ first_cells size k xs
unfolding first_cells
take_cells size zero n xs le = refl
take_cells size (suc k) zero xs le = absurd (omega arith)
take_cells size (suc k) (suc n) xs le = ap (λ cs. take size xs ∷ cs) (take_cells size k n (drop size xs) (omega arith))

-- the first cells are those of a long enough front
front_cells : (size k m : ℕ) (xs : List ℕ) → k * size ≤ m → first_cells size k (take m xs) ≡ first_cells size k xs
unfolding first_cells
front_cells size zero m xs le = refl
front_cells size (suc k) m xs le =
    let more : size + k * size ≤ m = omega (arith, le) in
    let fits : size ≤ m = omega (arith, more) in
    let at : m ≡ size + (m - size) = omega (arith, fits) in
    ap₂ (λ c cs. c ∷ cs) (take-take size m xs fits)
    (ap (first_cells size k) (ap (λ n. drop size (take n xs)) at ∙ drop-take size (m - size) xs)
    ∙ front_cells size k (m - size) (drop size xs) (omega (arith, more)))

counted_32 : (count size : ℕ) → size ≡ count * 32 → size / 32 ≡ count
counted_32 count size is = omega (arith, is)

counted_40 : (count size : ℕ) → size ≡ count * 40 → size / 40 ≡ count
counted_40 count size is = omega (arith, is)

pub counted : (width count size : ℕ) → IsWidth width → size ≡ count * width → size / width ≡ count
counted width count size is =
    by_width (λ w. size ≡ count * w → size / w ≡ count) width is (counted_32 count size) (counted_40 count size)

more_32 : (k n size : ℕ) → size ≡ k * 32 + n → size / 32 ≡ k + n / 32
more_32 k n size is = omega (arith, is)

more_40 : (k n size : ℕ) → size ≡ k * 40 + n → size / 40 ≡ k + n / 40
more_40 k n size is = omega (arith, is)

counted_more : (width k n size : ℕ) → IsWidth width → size ≡ k * width + n → size / width ≡ k + n / width
counted_more width k n size is =
    by_width (λ w. size ≡ k * w + n → size / w ≡ k + n / w) width is (more_32 k n size) (more_40 k n size)

first_both : (size k n : ℕ) (xs ys : List ℕ) → length xs ≡ k * size → first_cells size (k + n) (xs ++ ys) ≡ first_cells size k xs ++ first_cells size n ys
unfolding first_cells
first_both size zero n [] ys e =
    let none : 0 + n ≡ n = omega arith in
    ap (λ m. first_cells size m ys) none
first_both size zero n (x ∷ xs) ys e = absurd (omega (arith, e))
first_both size (suc k) n xs ys e =
    let fits : size ≤ length xs = omega (arith, e) in
    let next : suc k + n ≡ suc (k + n) = omega arith in
    ap (λ m. first_cells size m (xs ++ ys)) next
    ∙ ap₂ (λ c rest. c ∷ first_cells size (k + n) rest) (take-append-le size xs ys fits) (drop-append-le size xs ys fits)
    ∙ ap (λ cs. take size xs ∷ cs) (first_both size k n (drop size xs) ys (omega (arith, e, length-drop size xs)))

-- so many whole cells, and those behind them
pub cells_both : (width k : ℕ) (xs ys : List ℕ) → IsWidth width → length xs ≡ k * width → cells width (xs ++ ys) ≡ cells width xs ++ cells width ys
cells_both width k xs ys is len =
    let size : length (xs ++ ys) ≡ k * width + length ys = omega (arith, length-append xs ys, len) in
    ap (λ n. first_cells width n (xs ++ ys)) (counted_more width k (length ys) (length (xs ++ ys)) is size)
    ∙ first_both width k (length ys / width) xs ys len
    ∙ ap (λ n. first_cells width n xs ++ cells width ys) (sym (counted width k (length xs) is len))

pub page_cells : (width count i : ℕ) (body : List ℕ) → IsWidth width → length body ≡ count * width → i < page_count count
    → cells width (page_of width count i body) ≡ take 1024 (drop (i * 1024) (cells width body))
page_cells width count i body is len below =
    let e = entries_at count i in
    let rest = drop (i * page_size width) body in
    let behind = drop (i * 1024) (cells width body) in
    let fits = inside width count i (length body) is len below in
    let size : length (take (e * width) rest) ≡ e * width = length-take-le (e * width) rest (omega (arith, fits, length-drop (i * page_size width) body)) in
    let front : cells width (page_of width count i body) ≡ first_cells width e rest =
    ap (λ n. first_cells width n (take (e * width) rest)) (counted width e (length (take (e * width) rest)) is size)
    ∙ front_cells width e (e * width) rest (omega arith) in
    let at : i * 1024 * width ≡ i * page_size width = omega arith in
    let back : behind ≡ first_cells width (count - i * 1024) rest =
    ap (λ n. drop (i * 1024) (first_cells width n body)) (counted width count (length body) is len)
    ∙ drop_cells width (i * 1024) count body (omega (arith, below)) ∙ ap (λ n. first_cells width (count - i * 1024) (drop n body)) at in
    let left : e ≡ min 1024 (length behind) = ap (min 1024) (sym (ap length back ∙ length-cells width (count - i * 1024) rest)) in
    front ∙ sym (take_cells width e (count - i * 1024) rest (omega arith)) ∙ ap (take e) (sym back)
    ∙ ap (λ n. take n behind) left ∙ take_min 1024 behind
