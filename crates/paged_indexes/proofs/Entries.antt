-- Bytes cut into the entries of a dynamic index.
use Rattle.std.proofs.Common.{◌≡◌, ℕ, zero, suc, ◌+◌, ◌-◌, ◌*◌, ◌/◌, ◌<◌, ◌≤◌, ⊎_elim, inr, List, [], ◌∷◌, ◌++◌, length, map, take, drop, refl, sym, ap, ap₂, subst, ◌∙◌, arith}
use Rattle.std.proofs.lemmas.List.{drop-drop, drop-take, take-take, length-drop, length-take-le, length-map}
use Rattle.std.proofs.Math.ListN.{drop_of_length-le}
use Rattle.std.proofs.lemmas.Bool.{cases_lt}
use Rattle.std.specs.List.{take-map, drop-map}
use Rattle.store_files.specs.Cells.{first_cells, cells}
use Rattle.store_files.specs.DynamicIndex.{entry_of, fields_of}
use Rattle.index_pages.specs.Opening.{page_of}
use Rattle.index_pages.specs.Paged.{entries_at, page_count}
use Rattle.index_pages.proofs.Cutting.{length-cells}
use Rattle.paged_indexes.specs.Steps.{entries_of}
use Rattle.paged_indexes.proofs.Cells.{counted, page_cells}

pub entries_more : (rest : List ℕ) → 40 ≤ length rest → entries_of rest ≡ entry_of (take 40 rest) ∷ entries_of (drop 40 rest)
unfolding first_cells
entries_more rest long =
    let count : length rest / 40 ≡ suc (length (drop 40 rest) / 40) = omega (arith, length-drop 40 rest) in
    ap (λ n. map entry_of (first_cells 40 n rest)) count

pub entries_none : (rest : List ℕ) → length rest < 40 → entries_of rest ≡ []
unfolding first_cells
entries_none rest short =
    let count : length rest / 40 ≡ 0 = omega arith in
    ap (λ n. map entry_of (first_cells 40 n rest)) count

-- so many whole entries, and those behind them
entries_split : (k n : ℕ) (xs : List ℕ) → n ≡ k * 40 → n ≤ length xs → entries_of xs ≡ entries_of (take n xs) ++ entries_of (drop n xs)
unfolding first_cells
entries_split zero n xs e le =
    let none : 0 ≡ n = omega (arith, e) in
    subst (λ m. entries_of xs ≡ entries_of (take m xs) ++ entries_of (drop m xs)) none refl
entries_split (suc k) n xs e le =
    let m = k * 40 in
    let at : 40 + m ≡ n = omega (arith, e) in
    let front = take (40 + m) xs in
    let long : 40 ≤ length front = omega (arith, at, le, length-take-le (40 + m) xs (omega (arith, at, le))) in
    let cell = take-take 40 (40 + m) xs (omega arith) in
    let rest = drop-take 40 m xs in
    let behind = drop-drop m 40 xs in
    subst (λ j. entries_of xs ≡ entries_of (take j xs) ++ entries_of (drop j xs)) at
    (entries_more xs (omega (arith, at, le))
    ∙ ap (λ es. entry_of (take 40 xs) ∷ es) (entries_split k m (drop 40 xs) refl (omega (arith, at, le, length-drop 40 xs)))
    ∙ ap₂ (λ c b. entry_of c ∷ (entries_of b ++ entries_of (drop m (drop 40 xs)))) (sym cell) (sym rest)
    ∙ ap₂ (λ es b. es ++ entries_of b) (sym (entries_more front long)) behind)

-- behind a page the next one begins
behind_page : (count i : ℕ) (body : List ℕ) → length body ≡ count * 40 → drop (entries_at count i * 40) (drop (i * 40_960) body) ≡ drop ((i + 1) * 40_960) body
behind_page count i body len =
    drop-drop (entries_at count i * 40) (i * 40_960) body
    ∙ ⊎_elim {C = drop (i * 40_960 + entries_at count i * 40) body ≡ drop ((i + 1) * 40_960) body}
    (λ (short : count < (i + 1) * 1024).
    let a : drop (i * 40_960 + entries_at count i * 40) body ≡ [] = drop_of_length-le body (omega (arith, len, short)) in
    let b : drop ((i + 1) * 40_960) body ≡ [] = drop_of_length-le body (omega (arith, len, short)) in
    a ∙ sym b)
    (λ (long : (i + 1) * 1024 ≤ count).
    let at : i * 40_960 + entries_at count i * 40 ≡ (i + 1) * 40_960 = omega (arith, long) in
    ap (λ n. drop n body) at)
    (cases_lt count ((i + 1) * 1024))

-- of what is left, those of the next page, and the rest
pub entries_paged : (count i : ℕ) (body : List ℕ) → length body ≡ count * 40 → i < page_count count
    → entries_of (drop (i * 40_960) body) ≡ entries_of (page_of 40 count i body) ++ entries_of (drop ((i + 1) * 40_960) body)
entries_paged count i body len below =
    let rest = drop (i * 40_960) body in
    let within : entries_at count i * 40 ≤ length rest = omega (arith, len, below, length-drop (i * 40_960) body) in
    entries_split (entries_at count i) (entries_at count i * 40) rest refl within
    ∙ ap (λ xs. entries_of (page_of 40 count i body) ++ entries_of xs) (behind_page count i body len)

pub page_entries_are : (count i : ℕ) (body : List ℕ) → length body ≡ count * 40 → i < page_count count
    → entries_of (page_of 40 count i body) ≡ take 1024 (drop (i * 1024) (entries_of body))
page_entries_are count i body len below =
    ap (map entry_of) (page_cells 40 count i body (inr refl) len below)
    ∙ sym (take-map entry_of 1024 (drop (i * 1024) (cells 40 body)))
    ∙ ap (take 1024) (sym (drop-map entry_of (i * 1024) (cells 40 body)))

-- how many there are
pub entries_count : (count : ℕ) (bytes : List ℕ) → length bytes ≡ count * 40 → length (entries_of bytes) ≡ count
entries_count count bytes len =
    length-map (cells 40 bytes) entry_of ∙ length-cells 40 (length bytes / 40) bytes ∙ counted 40 count (length bytes) (inr refl) len

pub count_is : (text : List ℕ) → (length text - 4096) / 40 ≡ length (fields_of text).entries
count_is text =
    sym (length-map (cells 40 (drop 4096 text)) entry_of ∙ length-cells 40 (length (drop 4096 text) / 40) (drop 4096 text) ∙ ap (λ n. n / 40) (length-drop 4096 text))
