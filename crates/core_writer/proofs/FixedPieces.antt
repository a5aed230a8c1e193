-- How many pieces of a fixed archive reach its size, and where they end.
use Rattle.std.proofs.Common.{◌≡◌, ℕ, ◌+◌, ◌-◌, ◌*◌, ◌/◌, ◌^◌, ◌<◌, ◌≤◌, Bool, true, ◌&&◌, ◌==◌, min, List, [], ◌∷◌, ◌++◌, length, inl, inr, sym, subst, arith}
use Rattle.std.proofs.Math.Nat.{div-lt_iff_lt-mul, mul-le-mul, suc-mul, lt-div-mul-add}
use Rattle.std.proofs.lemmas.Bool.{and_parts, and_from, cases_lt, eq-eqb, eqb-true, leb-true}
use Rattle.std.proofs.lemmas.List.{length-append}
use Rattle.std.specs.List.{AllByRecursion, concat}
use Rattle.store_files.specs.Cells.{entry_limit}
use Rattle.store_files.specs.Archive.{Layout, fixed}
use Rattle.store_files.specs.FixedIndex.{is_chunk_size, piece_count, piece_len}
use Rattle.store_model.specs.Archives.{fits_layout}
use Rattle.store_model.specs.Stands.{fills_size}
use Rattle.store_files.specs.Folder.{IsPiece}
use Rattle.backup_session.specs.Shown.{fits_from}

-- ---- sizes

chunk_size_bounds : (n : ℕ) → is_chunk_size n ≡ true → (4096 ≤ n) × (n ≤ 16_777_216)
chunk_size_bounds n h = let both = (and_parts _ _ h).0 in let two = and_parts _ _ both in (leb-true 4096 n two.0, leb-true n 16_777_216 two.1)

quotient_is : (n k q : ℕ) → 0 < k → q * k ≤ n → n < (q + 1) * k → n / k ≡ q
quotient_is n k q positive low high =
    let below = (div-lt_iff_lt-mul {k = k} {x = n} {y = q + 1} positive).1 high in
    elim (cases_lt (n / k) q) [
      | inl less ↦ absurd (omega (arith, (div-lt_iff_lt-mul {k = k} {x = n} {y = q} positive).0 less))
      | inr more ↦ omega arith
    ]

-- what the pieces count to fits its field
pub size_fits : (size cut : ℕ) → is_chunk_size cut ≡ true → piece_count size cut ≤ entry_limit → size < 2 ^ 64
size_fits size cut is limit =
    let bounds = chunk_size_bounds cut is in
    let least = bounds.0 in
    let most = bounds.1 in
    let under : size + cut - 1 < piece_count size cut * cut + cut = lt-div-mul-add {a = size + cut - 1} {b = cut} (omega (arith, least)) in
    let product : piece_count size cut * cut ≤ 1_048_576 * 16_777_216 = mul-le-mul limit most in
    omega (arith, under, product, least)

-- ---- pieces that follow one another

len_is : (size cut end : ℕ) (p : List ℕ) (rest : Bool) → (fits_layout (fixed size cut) end (length p) && rest) ≡ true → (length p ≡ min cut (size - end)) × (rest ≡ true)
len_is size cut end p rest h = let both = and_parts (length p == piece_len size cut end) rest h in (eqb-true (length p) (piece_len size cut end) both.0, both.1)

-- each piece has the length that is asked where it begins, and the last ends at the size
pub fills : (size cut end : ℕ) (ps : List (List ℕ)) → end ≤ size → fits_from (fixed size cut) end ps ≡ true → size ≤ end + length (concat ps) → fills_size size cut end ps ≡ true
fills size cut end [] within h full = eq-eqb end size (omega (arith, within, full))
fills size cut end (p ∷ ps) within h full =
    let both = len_is size cut end p (fits_from (fixed size cut) (end + length p) ps) h in
    let len = both.0 in
    let rest = fills size cut (end + length p) ps (omega (arith, len, within)) both.1 (omega (arith, length-append p (concat ps), full)) in
    and_from (length p == piece_len size cut end) (fills_size size cut (end + length p) ps) (eq-eqb (length p) (piece_len size cut end) len) rest

abbrev IsBetween : ℕ → ℕ → ℕ → ℕ → Type 0
IsBetween size cut end product = (size ≤ end + product) × (end + product < size + cut)

between : (size cut end : ℕ) (ps : List (List ℕ)) → 1 ≤ cut → end ≤ size → AllByRecursion IsPiece ps → fits_from (fixed size cut) end ps ≡ true → size ≤ end + length (concat ps) → IsBetween size cut end (length ps * cut)
between size cut end [] least within all h full = (omega (arith, within, full), omega (arith, within, least))
between size cut end (p ∷ []) least within all h full =
    let len = (len_is size cut end p true h).0 in
    let some = (all.0).0 in
    let reached : size ≤ end + length p = omega (arith, length-append p [], full) in
    (omega (arith, len, some, reached, within), omega (arith, len, some, reached, within))
between size cut end (p ∷ q ∷ qs) least within all h full =
    let both = len_is size cut end p (fits_from (fixed size cut) (end + length p) (q ∷ qs)) h in
    let len = both.0 in
    let next = (len_is size cut (end + length p) q (fits_from (fixed size cut) (end + length p + length q) qs) both.1).0 in
    let some = ((all.1).0).0 in
    let whole : length p ≡ cut = omega (arith, len, next, some, within) in
    let rest = between size cut (end + length p) (q ∷ qs) least (omega (arith, len, within)) all.1 both.1 (omega (arith, length-append p (concat (q ∷ qs)), full)) in
    let low = rest.0 in
    let high = rest.1 in
    let product = suc-mul (length (q ∷ qs)) cut in
    (omega (arith, low, whole, product), omega (arith, high, whole, product))

-- there are as many pieces as the size makes
pub counts : (size cut : ℕ) (ps : List (List ℕ)) → is_chunk_size cut ≡ true → AllByRecursion IsPiece ps → fits_from (fixed size cut) 0 ps ≡ true → size ≤ length (concat ps) → length ps ≡ piece_count size cut
counts size cut ps is all h full =
    let least = (chunk_size_bounds cut is).0 in
    let b = between size cut 0 ps (omega (arith, least)) (omega arith) all h (omega (arith, full)) in
    let low = b.0 in
    let high = b.1 in
    let product = suc-mul (length ps) cut in
    sym (quotient_is (size + cut - 1) cut (length ps) (omega (arith, least)) (omega (arith, high, least)) (omega (arith, low, product, least)))

-- ---- more pieces behind others

pub fits_more : (layout : Layout) (end : ℕ) (ps qs : List (List ℕ)) → fits_from layout end ps ≡ true → fits_from layout (end + length (concat ps)) qs ≡ true → fits_from layout end (ps ++ qs) ≡ true
fits_more layout end [] qs h more = let same : end + 0 ≡ end = omega arith in subst (λ n. fits_from layout n qs ≡ true) same more
fits_more layout end (p ∷ ps) qs h more =
    let both = and_parts (fits_layout layout end (length p)) (fits_from layout (end + length p) ps) h in
    let same : end + length (concat (p ∷ ps)) ≡ end + length p + length (concat ps) = omega (arith, length-append p (concat ps)) in
    and_from (fits_layout layout end (length p)) (fits_from layout (end + length p) (ps ++ qs)) both.0
    (fits_more layout (end + length p) ps qs both.1 (subst (λ n. fits_from layout n qs ≡ true) same more))
