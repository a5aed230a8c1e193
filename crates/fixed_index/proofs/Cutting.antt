-- How many pieces a size makes, and where they end.
use Rattle.std.proofs.Common.{◌≡◌, ℕ, ◌+◌, ◌-◌, ◌*◌, ◌/◌, ◌^◌, ◌<◌, ◌≤◌, Bool, true, false, ◌&&◌, IsTrue, min, List, [], ◌∷◌, ◌++◌, All, length, map, ℤ, refl, inl, inr, sym, ap, subst, ◌∙◌, append_assoc, arith}
use Rattle.std.proofs.Math.Nat.{div-lt_iff_lt-mul, mul-le-mul, mul-le-mul_right}
use Rattle.std.proofs.lemmas.Grind.{div_ceil_times}
use Rattle.std.proofs.lemmas.Bool.{cases_lt, leb-true}
use Rattle.std.proofs.lemmas.List.{length-append}
use Rattle.std.proofs.lemmas.List.Elements.{All-push, All-head, All-tail}
use Rattle.std.specs.Int.{div_ceil}
use Rattle.store_types.specs.declared.piece.Piece.{Piece}
use Rattle.fixed_index.specs.Writing.{IsBegun, piece_digests, FitsFrom}
use Rattle.store_files.specs.FixedIndex.{FixedIndex, is_chunk_size, piece_count, has_sizes}

left_true : (a b : Bool) → IsTrue (a && b) → IsTrue a
left_true true b h = refl
left_true false b h = h

right_true : (a b : Bool) → IsTrue (a && b) → IsTrue b
right_true true b h = h
right_true false b h = cc

pub chunk_size_bounds : (n : ℕ) → IsTrue (is_chunk_size n) → (4096 ≤ n) × (n ≤ 16_777_216)
chunk_size_bounds n h = let both = left_true _ _ h in (leb-true 4096 n (left_true _ _ both), leb-true n 16_777_216 (right_true _ _ both))

quotient_is : (n k q : ℕ) → 0 < k → q * k ≤ n → n < (q + 1) * k → n / k ≡ q
quotient_is n k q positive low high =
    let below = (div-lt_iff_lt-mul {k = k} {x = n} {y = q + 1} positive).1 high in
    elim (cases_lt (n / k) q) [
      | inl less ↦ absurd (omega (arith, (div-lt_iff_lt-mul {k = k} {x = n} {y = q} positive).0 less))
      | inr more ↦ omega arith
    ]

-- so `div_ceil` counts the pieces
pub div_ceil-is : (size cut : ℕ) → 1 ≤ cut → div_ceil size cut ≡ piece_count size cut
div_ceil-is size cut positive =
    let bounds = div_ceil_times size cut positive in
    sym (quotient_is (size + cut - 1) cut (div_ceil size cut) positive (omega (arith, bounds)) (omega (arith, bounds)))

-- the pieces reach the size, and no piece begins past it
pub count_bounds : (size cut : ℕ) → 1 ≤ cut → (size ≤ piece_count size cut * cut) × (piece_count size cut * cut < size + cut)
count_bounds size cut positive =
    let P : ℕ → Type 0 = λ n. (size ≤ n * cut) × (n * cut < size + cut) in
    subst P (div_ceil-is size cut positive) (div_ceil_times size cut positive)

-- where the pieces so far end before the size, there is room for one more
pub one_more : (size cut n : ℕ) → 1 ≤ cut → min size (n * cut) < size → n + 1 ≤ piece_count size cut
one_more size cut n positive room =
    let bounds = count_bounds size cut positive in
    elim (cases_lt n (piece_count size cut)) [
      | inl less ↦ omega arith
      | inr more ↦ absurd (omega (arith, bounds, mul-le-mul_right cut more))
    ]

pub product_small : (n cut : ℕ) → n ≤ 1_048_577 → cut ≤ 16_777_216 → n * cut < 2 ^ 64
product_small n cut few short = omega (arith, mul-le-mul few short)

-- where a piece of an index ends
pub end_small : (x : FixedIndex) (i cut : ℕ) → cut ≡ x.chunk_size → IsTrue (has_sizes x) → i < 1_048_576 → i * cut + cut < 2 ^ 64
end_small x i cut is sizes below =
    let bounds = chunk_size_bounds x.chunk_size (left_true _ _ sizes) in
    omega (arith, product_small (i + 1) cut (omega arith) (omega (arith, bounds)))

-- the pieces are all there once they reach the size
pub all_there : (size cut n : ℕ) → 1 ≤ cut → min size (n * cut) ≡ size → piece_count size cut ≤ n
all_there size cut n positive reached =
    let bounds = count_bounds size cut positive in
    elim (cases_lt n (piece_count size cut)) [
      | inl less ↦ absurd (omega (arith, bounds, mul-le-mul_right {m = n + 1} {n = piece_count size cut} cut (omega arith)))
      | inr more ↦ more
    ]

-- one more digest, where there is room
pub begun_more : (uuid : List ℕ) (ctime : ℤ) (size cut : ℕ) (digests : List (List ℕ)) (digest : List ℕ) →
    IsBegun uuid ctime size cut digests → min size (length digests * cut) < size → length digest ≡ 32 →
    IsBegun uuid ctime size cut (digests ++ digest ∷ [])
begun_more uuid ctime size cut digests digest is room long =
    let bounds = chunk_size_bounds cut is.sizes.chunk_size in
    let more = one_more size cut (length digests) (omega (arith, bounds)) room in
    record {
      uuid_len = is.uuid_len;
      ctime_fits = is.ctime_fits;
      size_fits = is.size_fits;
      sizes = is.sizes;
      count = omega (arith, more, length-append digests (digest ∷ []));
      digest_len = All-push (λ d. length d ≡ 32) digests digest is.digest_len long;
    }

-- ---- several pieces behind the others

-- a piece that is as long as is asked ends where so many pieces and one more end
pub next_end : (size cut n : ℕ) → min size (n * cut) + min cut (size - min size (n * cut)) ≡ min size ((n + 1) * cut)
next_end size cut n = omega arith

append_nothing : (ds : List (List ℕ)) → ds ++ [] ≡ ds
append_nothing [] = refl
append_nothing (d ∷ ds) = ap (λ (l : List (List ℕ)). d ∷ l) (append_nothing ds)

pub begun_all : (uuid : List ℕ) (ctime : ℤ) (size cut : ℕ) (digests : List (List ℕ)) (pieces : List Piece) → IsBegun uuid ctime size cut digests →
    FitsFrom size cut (min size (length digests * cut)) pieces → All (λ d. length d ≡ 32) (piece_digests pieces) →
    IsBegun uuid ctime size cut (digests ++ piece_digests pieces)
begun_all uuid ctime size cut digests [] is fits long = subst (IsBegun uuid ctime size cut) (sym (append_nothing digests)) is
begun_all uuid ctime size cut digests (p ∷ ps) is fits long =
    let digest = (p.digest).0 in
    let IsLong : List ℕ → Type 0 = λ d. length d ≡ 32 in
    let more = begun_more uuid ctime size cut digests digest is fits.0 (All-head IsLong digest (piece_digests ps) long) in
    let count : length (digests ++ digest ∷ []) ≡ length digests + 1 = omega (arith, length-append digests (digest ∷ [])) in
    let ends : min size (length digests * cut) + p.length ≡ min size (length (digests ++ digest ∷ []) * cut) =
    ap (λ n. min size (length digests * cut) + n) (fits.1) ∙ next_end size cut (length digests) ∙ ap (λ n. min size (n * cut)) (sym count) in
    subst (IsBegun uuid ctime size cut) (append_assoc digests (digest ∷ []) (piece_digests ps))
    (begun_all uuid ctime size cut (digests ++ digest ∷ []) ps more (subst (λ end. FitsFrom size cut end ps) ends fits.2) (All-tail IsLong digest (piece_digests ps) long))
