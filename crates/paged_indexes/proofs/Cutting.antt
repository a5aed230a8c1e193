-- The pieces of a fixed index, page by page.
use Rattle.std.proofs.Common.{◌≡◌, ℕ, min, suc, ◌+◌, ◌-◌, ◌*◌, ◌/◌, ◌<◌, ◌≤◌, true, List, [], ◌∷◌, ◌++◌, length, take, drop, inl, Some, refl, sym, ap, subst, ◌∙◌, arith}
use Rattle.std.specs.Prelude.{nat_le, bit_and, ◌&&◌, ◌==◌}
use Rattle.std.proofs.Math.Nat.{div-mul-le_self}
use Rattle.std.proofs.lemmas.Bool.{and_parts, eqb-true, leb-true}
use Rattle.std.proofs.lemmas.List.{length-drop}
use Rattle.store_files.specs.Cells.{cells, first_cells}
use Rattle.store_files.specs.FixedIndex.{is_chunk_size, piece_count, piece_len}
use Rattle.store_files.specs.DynamicIndex.{Ended}
use Rattle.dynamic_index.specs.Pieces.{last_end}
use Rattle.paged_indexes.specs.declared.pieces.Cut.{Cut}
use Rattle.paged_indexes.specs.Fixed.{Cuts, ends_in, fixed_ends_from, sizes_agree}
use Rattle.paged_indexes.specs.Handing.{IsStep}
use Rattle.paged_indexes.specs.Steps.{stepped}
use Rattle.index_pages.specs.Paged.{entries_at, page_count}
use Rattle.index_pages.proofs.Cutting.{length-cells}
use Rattle.paged_indexes.proofs.Cells.{counted}
use Rattle.paged_indexes.proofs.Handed.{is_step_by, page_and_rest}
use Rattle.paged_indexes.proofs.Stepping.{stepped_entry}

pub cells_more : (rest : List ℕ) → 32 ≤ length rest → cells 32 rest ≡ take 32 rest ∷ cells 32 (drop 32 rest)
unfolding first_cells
cells_more rest long =
    let count : length rest / 32 ≡ suc (length (drop 32 rest) / 32) = omega (arith, length-drop 32 rest) in
    ap (λ n. first_cells 32 n rest) count

pub cells_none : (rest : List ℕ) → length rest < 32 → cells 32 rest ≡ []
unfolding first_cells
cells_none rest short =
    let count : length rest / 32 ≡ 0 = omega arith in
    ap (λ n. first_cells 32 n rest) count

pub cells_count : (count : ℕ) (bytes : List ℕ) → length bytes ≡ count * 32 → length (cells 32 bytes) ≡ count
cells_count count bytes len = length-cells 32 (length bytes / 32) bytes ∙ counted 32 count (length bytes) (inl refl) len

-- ---- the next piece

abbrev pub end_of : Cut → ℕ → ℕ
end_of c start = start + piece_len c.size c.chunk_size start

pub one_step : (c : Cut) (start n : ℕ) → Cuts c start (suc n) → IsStep start (end_of c start)
one_step c start n is =
    let inside : start < c.size = omega (arith, is.reach) in
    (omega (arith, inside, is.least), omega (arith, is.most))

pub one_less : (c : Cut) (start n : ℕ) → Cuts c start (suc n) → Cuts c (end_of c start) n
one_less c start n is = record {
  least = is.least;
  most = is.most;
  within = omega (arith, is.within);
  reach = omega (arith, is.reach, is.within);
}

-- ---- some of them

pub front_cuts : (c : Cut) (start k n : ℕ) → k ≤ n → Cuts c start n → Cuts c start k
front_cuts c start k n le is =
    let all : n ≡ k + (n - k) = omega (arith, le) in
    let reach : start + (k + (n - k)) * c.chunk_size < c.size + c.chunk_size = subst (λ m. start + m * c.chunk_size < c.size + c.chunk_size) all is.reach in
    record { least = is.least; most = is.most; within = is.within; reach = omega (arith, reach) }

abbrev ends_by : Cut → ℕ → List (List ℕ) → List Ended
ends_by c start ds = fixed_ends_from c.size c.chunk_size start ds

pub length-ends_by : (size chunk_size start : ℕ) (ds : List (List ℕ)) → length (fixed_ends_from size chunk_size start ds) ≡ length ds
length-ends_by size chunk_size start [] = refl
length-ends_by size chunk_size start (d ∷ ds) = ap suc (length-ends_by size chunk_size (start + piece_len size chunk_size start) ds)

pub ends_by-append : (size chunk_size start : ℕ) (xs ys : List (List ℕ)) → fixed_ends_from size chunk_size start (xs ++ ys)
    ≡ fixed_ends_from size chunk_size start xs ++ fixed_ends_from size chunk_size (last_end start (fixed_ends_from size chunk_size start xs)) ys
ends_by-append size chunk_size start [] ys = refl
ends_by-append size chunk_size start (x ∷ xs) ys =
    let end = start + piece_len size chunk_size start in
    ap (λ (es : List Ended). record { end = end; digest = x } ∷ es) (ends_by-append size chunk_size end xs ys)

pub rest_cuts : (c : Cut) (start m n : ℕ) (ds : List (List ℕ)) → n ≡ length ds + m → Cuts c start n → Cuts c (last_end start (ends_by c start ds)) m
rest_cuts c start m n [] all is = let same : n ≡ m = omega (arith, all) in subst (Cuts c start) same is
rest_cuts c start m n (d ∷ ds) all is =
    let same : n ≡ suc (length ds + m) = omega (arith, all) in
    rest_cuts c (end_of c start) m (length ds + m) ds refl (one_less c start (length ds + m) (subst (Cuts c start) same is))

pub steps_cut : (c : Cut) (start : ℕ) (ds : List (List ℕ)) → Cuts c start (length ds) → stepped start (ends_by c start ds) ≡ Some (last_end start (ends_by c start ds))
steps_cut c start [] is = refl
steps_cut c start (d ∷ ds) is =
    let end = end_of c start in
    stepped_entry start (record { end = end; digest = d }) (ends_by c end ds) (is_step_by start end (one_step c start (length ds) is))
    ∙ steps_cut c end ds (one_less c start (length ds) is)

-- ---- all

pub all_cut : (size chunk_size count : ℕ) → sizes_agree size chunk_size count ≡ true → Cuts (record { size = size; chunk_size = chunk_size }) 0 count
all_cut size chunk_size count agree =
    let both = and_parts (is_chunk_size chunk_size) (count == piece_count size chunk_size) agree in
    let sized = and_parts (nat_le 4096 chunk_size && nat_le chunk_size 16_777_216) (bit_and chunk_size (chunk_size - 1) == 0) both.0 in
    let bounds = and_parts (nat_le 4096 chunk_size) (nat_le chunk_size 16_777_216) sized.0 in
    let low = leb-true 4096 chunk_size bounds.0 in
    let count_is : count ≡ piece_count size chunk_size = eqb-true _ _ both.1 in
    let most = div-mul-le_self (size + chunk_size - 1) chunk_size in
    let reach : piece_count size chunk_size * chunk_size < size + chunk_size = omega (arith, most, low) in
    record {
      least = omega (arith, low);
      most = leb-true chunk_size 16_777_216 bounds.1;
      within = omega arith;
      reach = subst (λ n. 0 + n * chunk_size < size + chunk_size) (sym count_is) (omega (arith, reach));
    }

-- ---- a page

-- a page that is not behind the last one begins within the archive
pub page_begins : (c : Cut) (count i : ℕ) → 1 ≤ c.chunk_size → c.chunk_size ≤ 16_777_216 → count * c.chunk_size < c.size + c.chunk_size → i < page_count count
    → Cuts c (i * 1024 * c.chunk_size) (count - i * 1024)
page_begins c count i least most reach below =
    let k = i * 1024 in
    let r = count - k - 1 in
    let all : count ≡ k + (1 + r) = omega (arith, below) in
    let left : count - k ≡ 1 + r = omega (arith, below) in
    let far : (k + (1 + r)) * c.chunk_size < c.size + c.chunk_size = subst (λ n. n * c.chunk_size < c.size + c.chunk_size) all reach in
    record {
      least = least;
      most = most;
      within = omega (arith, far);
      reach = subst (λ n. k * c.chunk_size + n * c.chunk_size < c.size + c.chunk_size) (sym left) (omega (arith, far));
    }

-- where so many pieces more end
pub cut_ends : (c : Cut) (start : ℕ) (ds : List (List ℕ)) → Cuts c start (length ds) → last_end start (ends_by c start ds) ≡ min c.size (start + length ds * c.chunk_size)
cut_ends c start [] is = omega (arith, is.within)
cut_ends c start (d ∷ ds) is =
    let more : suc (length ds) * c.chunk_size ≡ length ds * c.chunk_size + c.chunk_size = omega arith in
    let reach : start + (length ds * c.chunk_size + c.chunk_size) < c.size + c.chunk_size = subst (λ n. start + n < c.size + c.chunk_size) more is.reach in
    let inside : start < c.size = omega (arith, reach) in
    cut_ends c (end_of c start) ds (one_less c start (length ds) is) ∙ (let both : min c.size (end_of c start + length ds * c.chunk_size) ≡ min c.size (start + suc (length ds) * c.chunk_size) = omega (arith, more, inside, is.within, is.least) in both)

pub page_cuts : (c : Cut) (start count i : ℕ) (bytes room : List ℕ) → i < page_count count → bytes ≡ room → length room ≡ entries_at count i * 32
    → Cuts c start (count - i * 1024) → Cuts c start (length (cells 32 bytes))
page_cuts c start count i bytes room below same len is =
    let size : length bytes ≡ entries_at count i * 32 = ap length same ∙ len in
    let few = cells_count (entries_at count i) bytes size in
    front_cuts c start (length (cells 32 bytes)) (count - i * 1024) (omega (arith, few)) is

-- behind a page the rest is cut so too
pub cuts_behind : (c : Cut) (start end count i : ℕ) (bytes room : List ℕ) → i < page_count count → bytes ≡ room → length room ≡ entries_at count i * 32
    → Cuts c start (count - i * 1024) → end ≡ last_end start (ends_in c start bytes) → Cuts c end (count - (i + 1) * 1024)
cuts_behind c start end count i bytes room below same len is ends =
    let size : length bytes ≡ entries_at count i * 32 = ap length same ∙ len in
    let left : count - i * 1024 ≡ length (cells 32 bytes) + (count - (i + 1) * 1024) = omega (arith, cells_count (entries_at count i) bytes size, below) in
    subst (λ n. Cuts c n (count - (i + 1) * 1024)) (sym ends) (rest_cuts c start (count - (i + 1) * 1024) (count - i * 1024) (cells 32 bytes) left is)

-- of the pieces that are left, those of the page, and the rest
pub next_page : (c : Cut) (start end i : ℕ) (all : List (List ℕ)) (bytes : List ℕ) → cells 32 bytes ≡ take 1024 (drop (i * 1024) all) → end ≡ last_end start (ends_in c start bytes)
    → fixed_ends_from c.size c.chunk_size start (drop (i * 1024) all)
    ≡ ends_in c start bytes ++ fixed_ends_from c.size c.chunk_size end (drop ((i + 1) * 1024) all)
next_page c start end i all bytes page ends =
    let rest = drop ((i + 1) * 1024) all in
    ap (ends_by c start) (page_and_rest i all)
    ∙ ends_by-append c.size c.chunk_size start (take 1024 (drop (i * 1024) all)) rest
    ∙ ap (λ ds. ends_by c start ds ++ ends_by c (last_end start (ends_by c start ds)) rest) (sym page)
    ∙ ap (λ n. ends_in c start bytes ++ ends_by c n rest) (sym ends)
