-- How many archives are open after a change.
use Rattle.std.proofs.Common.{◌≡◌, ◌+◌, Bool, true, false, ◌||◌, cond, List, [], ◌∷◌, length, Some, refl, arith}
use Rattle.std.specs.List.{find, list_any}
use Rattle.store_model.specs.Archives.{change_first, without_first}

module _ {A : Type 0} (p : A → Bool) where
  pub length-change_first : (h : A → A) (xs : List A) → length (change_first p h xs) ≡ length xs
  length-change_first h [] = refl
  length-change_first h (x ∷ xs) = by_test (p x) (length-change_first h xs)
    where
      by_test : (b : Bool) → length (change_first p h xs) ≡ length xs → length (cond b (h x ∷ xs) (x ∷ change_first p h xs)) ≡ length (x ∷ xs)
      by_test true e = refl
      by_test false e = omega arith

  pub length-without_first : (xs : List A) → list_any p xs ≡ true → length (without_first p xs) + 1 ≡ length xs
  length-without_first [] h = cc
  length-without_first (x ∷ xs) h = by_test (p x) (length-without_first xs) h
    where
      by_test : (b : Bool) → (list_any p xs ≡ true → length (without_first p xs) + 1 ≡ length xs) → (b || list_any p xs) ≡ true → length (cond b xs (x ∷ without_first p xs)) + 1 ≡ length (x ∷ xs)
      by_test true go any = omega arith
      by_test false go any = omega (arith, go any)

  -- what is found passes
  pub found_any : (xs : List A) (x : A) → find p xs ≡ Some x → list_any p xs ≡ true
  found_any [] x h = cc
  found_any (y ∷ ys) x h = by_test (p y) (found_any ys x) h
    where
      by_test : (b : Bool) → (find p ys ≡ Some x → list_any p ys ≡ true) → cond b (Some y) (find p ys) ≡ Some x → (b || list_any p ys) ≡ true
      by_test true go found = refl
      by_test false go found = go found
