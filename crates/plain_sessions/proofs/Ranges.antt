-- The bytes of a range, piece by piece.
use Rattle.std.proofs.Common.{◌≡◌, ℕ, zero, suc, ◌+◌, ◌-◌, ◌≤◌, ◌<◌, List, [], ◌∷◌, ◌++◌, length, get_or, take, drop, drop-cons, add-one, append_assoc, append-nil, refl, sym, ap, ◌∙◌, arith}
use Rattle.std.specs.List.{concat}
use Rattle.std.proofs.lemmas.List.{drop_all, length-take}

drop_both : (n : ℕ) (a b : List ℕ) → drop n (a ++ b) ≡ drop n a ++ drop (n - length a) b
drop_both n [] b =
    let none : n ≡ n - 0 = omega arith in
    ap (λ k. drop k b) none ∙ ap (λ l. l ++ drop (n - 0) b) (sym (drop_all n [] (omega arith)))
drop_both zero (x ∷ xs) b =
    let none : 0 ≡ 0 - length (x ∷ xs) = omega arith in
    ap (λ k. (x ∷ xs) ++ drop k b) none
drop_both (suc n) (x ∷ xs) b =
    let less : n - length xs ≡ suc n - length (x ∷ xs) = omega arith in
    drop_both n xs b ∙ ap (λ k. drop n xs ++ drop k b) less

take_none : (n : ℕ) → let none : List ℕ = [] in take n none ≡ none
take_none zero = refl
take_none (suc n) = refl

take_both : (n : ℕ) (a b : List ℕ) → take n (a ++ b) ≡ take n a ++ take (n - length a) b
take_both n [] b =
    let none : n ≡ n - 0 = omega arith in
    ap (λ k. take k b) none ∙ ap (λ l. l ++ take (n - 0) b) (sym (take_none n))
take_both zero (x ∷ xs) b =
    let none : 0 ≡ 0 - length (x ∷ xs) = omega arith in
    ap (λ k. take k b) none
take_both (suc n) (x ∷ xs) b =
    let less : n - length xs ≡ suc n - length (x ∷ xs) = omega arith in
    ap (λ l. x ∷ l) (take_both n xs b ∙ ap (λ k. take n xs ++ take k b) less)

pub from_place : (xs : List (List ℕ)) (i : ℕ) (x : List ℕ) → i < length xs → x ≡ get_or xs i x → drop i xs ≡ x ∷ drop (i + 1) xs
from_place xs i x below is =
    drop-cons xs i x below ∙ ap (λ y. y ∷ drop (suc i) xs) (sym is) ∙ ap (λ k. x ∷ drop k xs) (sym (add-one i))

-- a piece gives what it has of the range
pub part_more : (bytes piece part new : List ℕ) (before left : ℕ) (pieces rest : List (List ℕ)) → pieces ≡ piece ∷ rest
    → part ≡ take left (drop before piece) → new ≡ bytes ++ part
    → new ++ take (left - length part) (drop (before - length piece) (concat rest)) ≡ bytes ++ take left (drop before (concat pieces))
part_more bytes piece part new before left pieces rest next is pushed =
    let own = drop before piece in
    let behind = drop (before - length piece) (concat rest) in
    let size : left - length part ≡ left - length own = omega (arith, ap length is, length-take left own) in
    ap (λ l. l ++ take (left - length part) behind) pushed
    ∙ append_assoc bytes part (take (left - length part) behind)
    ∙ ap (λ p. bytes ++ (p ++ take (left - length part) behind)) is
    ∙ ap (λ n. bytes ++ (take left own ++ take n behind)) size
    ∙ ap (λ l. bytes ++ l) (sym (take_both left own behind))
    ∙ ap (λ l. bytes ++ take left l) (sym (drop_both before piece (concat rest)))
    ∙ ap (λ ps. bytes ++ take left (drop before (concat ps))) (sym next)

-- behind the last piece
pub range_done : (bytes all : List ℕ) (before left n : ℕ) (pieces : List (List ℕ)) → length pieces ≤ n → bytes ++ take left (drop before (concat (drop n pieces))) ≡ all → bytes ≡ all
range_done bytes all before left n pieces le h =
    let none = ap (λ ps. take left (drop before (concat ps))) (drop_all n pieces le) ∙ ap (take left) (drop_all before [] (omega arith)) ∙ take_none left in
    sym (append-nil bytes) ∙ sym (ap (λ l. bytes ++ l) none) ∙ h
