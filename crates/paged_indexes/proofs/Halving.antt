-- The first page that ends behind an offset, by where the ends part.
use Rattle.std.proofs.Common.{◌≡◌, ◌<◌, ◌≤◌, ℕ, true, false, cond, List, length, get_or, nat_lt, nat_le, Option, Some, None, ap, ◌∙◌, arith}
use Rattle.std.specs.List.{position_or_len}
use Rattle.std.proofs.lemmas.Bool.{leb-true, leb-false, le-ltb, lt-ltb}
use Rattle.std.proofs.lemmas.List.Sums.{position_or_len_is}
use Rattle.paged_indexes.specs.Steps.{page_with}

-- those before the place end at the offset or before it, and the others behind it
pub record Parts (offset : ℕ) (ends : List ℕ) (i : ℕ) : Type 0 where
  pub low : (k d : ℕ) → k < i → nat_le (get_or ends k d) offset ≡ true
  pub high : (k d : ℕ) → i ≤ k → k < length ends → nat_le (get_or ends k d) offset ≡ false

place_is : (offset : ℕ) (ends : List ℕ) (i : ℕ) → i ≤ length ends → Parts offset ends i → position_or_len (λ end. nat_lt offset end) ends ≡ i
place_is offset ends i within parts =
    position_or_len_is (λ end. nat_lt offset end) ends i 0 within
    (λ k below. le-ltb offset (get_or ends k 0) (leb-true (get_or ends k 0) offset (parts.low k 0 below)))
    (λ below. lt-ltb offset (get_or ends i 0) (leb-false (get_or ends i 0) offset (parts.high i 0 (omega arith) below)))

abbrev at_place : List ℕ → ℕ → Option ℕ
at_place ends i = cond (nat_lt i (length ends)) (Some i) None

pub no_page : (offset : ℕ) (ends : List ℕ) (i : ℕ) → i ≡ length ends → Parts offset ends i → page_with offset ends ≡ None
no_page offset ends i all parts =
    ap (at_place ends) (place_is offset ends i (omega (arith, all)) parts) ∙ ap (λ b. cond b (Some i) None) (le-ltb i (length ends) (omega (arith, all)))

pub page_there : (offset : ℕ) (ends : List ℕ) (i : ℕ) → i < length ends → Parts offset ends i → page_with offset ends ≡ Some i
page_there offset ends i within parts =
    ap (at_place ends) (place_is offset ends i (omega (arith, within)) parts) ∙ ap (λ b. cond b (Some i) None) (lt-ltb i (length ends) within)
