-- Lists of open archives: numbers and places.
use Rattle.std.proofs.Common.{◌≡◌, ℕ, zero, suc, ◌+◌, ◌<◌, ◌≤◌, Bool, true, false, not, cond, ◌||◌, [], ◌∷◌, List, length, get_or, set, map, Some, None, refl, sym, ap, subst, ◌∙◌, arith}
use Rattle.std.specs.Prelude.{◌==◌, nat_lt, position}
use Rattle.std.specs.List.{list_any, remove, position_or_len}
use Rattle.std.proofs.lemmas.Bool.{ltb-true, ltb-false}
use Rattle.store_model.specs.Store.{Begun}
use Rattle.store_model.specs.Archives.{free_from, change_first, without_first}
use Rattle.store_model.specs.WriterCalls.{has_number}

-- ---- a free number

pub number_taken : (n : ℕ) (begun : List Begun) → list_any (λ k. k == n) (map (λ b. b.number) begun) ≡ list_any (has_number n) begun
number_taken n [] = refl
number_taken n (b ∷ bs) = ap (λ t. (b.number == n) || t) (number_taken n bs)

-- the search goes on, or ends
pub free_more : (taken : List ℕ) (k m n : ℕ) → k ≡ suc m → list_any (λ j. j == n) taken ≡ true → free_from k n taken ≡ free_from m (n + 1) taken
unfolding free_from
free_more taken k m n is has = ap (λ j. free_from j n taken) is ∙ ap (λ b. cond b (free_from m (n + 1) taken) n) has

pub free_here : (taken : List ℕ) (k m n : ℕ) → k ≡ suc m → list_any (λ j. j == n) taken ≡ false → free_from k n taken ≡ n
unfolding free_from
free_here taken k m n is has = ap (λ j. free_from j n taken) is ∙ ap (λ b. cond b (free_from m (n + 1) taken) n) has

pub free_end : (taken : List ℕ) (k n : ℕ) → k ≡ 0 → free_from k n taken ≡ n
unfolding free_from
free_end taken k n is = ap (λ j. free_from j n taken) is

-- ---- the first that passes a test

-- it stands at this place
data First {A : Type 0} (p : A → Bool) : List A → ℕ → Type 0 where
  here : {x : A} {xs : List A} → p x ≡ true → First p (x ∷ xs) zero
  later : {x : A} {xs : List A} {i : ℕ} → p x ≡ false → First p xs i → First p (x ∷ xs) (suc i)

place_here : (b : Bool) (k : ℕ) → b ≡ true → cond (not b) (1 + k) 0 ≡ 0
place_here true k e = refl
place_here false k e = cc

place_later : (b : Bool) (k : ℕ) → b ≡ false → cond (not b) (1 + k) 0 ≡ suc k
place_later true k e = cc
place_later false k e = omega arith

first_of : {A : Type 0} (p : A → Bool) (xs : List A) → position_or_len p xs < length xs → First p xs (position_or_len p xs)
first_of p [] lt = absurd (omega (arith, lt))
first_of {A} p (y ∷ ys) lt = by_test (p y) refl (first_of p ys)
  where
    by_test : (b : Bool) → p y ≡ b → (position_or_len p ys < length ys → First p ys (position_or_len p ys)) → First p (y ∷ ys) (position_or_len p (y ∷ ys))
    by_test true e go = subst (First p (y ∷ ys)) (sym (place_here (p y) (position_or_len p ys) e)) (here e)
    by_test false e go =
        let next = place_later (p y) (position_or_len p ys) e in
        subst (First p (y ∷ ys)) (sym next) (later e (go (omega (arith, lt, next))))

place_first : {A : Type 0} (p : A → Bool) (xs : List A) (i : ℕ) → position p xs ≡ Some i → First p xs i
place_first p xs i is = by_test (nat_lt (position_or_len p xs) (length xs)) refl is
  where
    by_test : (b : Bool) → nat_lt (position_or_len p xs) (length xs) ≡ b → cond b (Some (position_or_len p xs)) None ≡ Some i → First p xs i
    by_test true e is_some =
        let same : position_or_len p xs ≡ i = cc in
        subst (First p xs) same (first_of p xs (ltb-true (position_or_len p xs) (length xs) e))
    by_test false e is_some = cc

first_within : {A : Type 0} {p : A → Bool} {xs : List A} {i : ℕ} → First p xs i → i < length xs
first_within (here e) = omega arith
first_within (later e f) = omega (arith, first_within f)

first_changed : {A : Type 0} {p : A → Bool} {xs : List A} {i : ℕ} (h : A → A) (new none : A) → First p xs i → new ≡ h (get_or xs i none) → set xs i new ≡ change_first p h xs
first_changed {p = p} h new none (here {x = x} {xs = xs} e) is = ap (λ y. y ∷ xs) is ∙ sym (ap (λ b. cond b (h x ∷ xs) (x ∷ change_first p h xs)) e)
first_changed {A} {p = p} h new none (later {x = x} {xs = xs} e f) is =
    ap (λ (ys : List A). x ∷ ys) (first_changed h new none f is) ∙ sym (ap (λ b. cond b (h x ∷ xs) (x ∷ change_first p h xs)) e)

first_gone : {A : Type 0} {p : A → Bool} {xs : List A} {i : ℕ} → First p xs i → remove xs i ≡ without_first p xs
first_gone {p = p} (here {x = x} {xs = xs} e) = sym (ap (λ b. cond b xs (x ∷ without_first p xs)) e)
first_gone {A} {p = p} (later {x = x} {xs = xs} e f) =
    ap (λ (ys : List A). x ∷ ys) (first_gone f) ∙ sym (ap (λ b. cond b xs (x ∷ without_first p xs)) e)

-- what the code does there
module _ {A : Type 0} (p : A → Bool) (xs : List A) where
  pub place_within : (i : ℕ) → position p xs ≡ Some i → i < length xs
  place_within i is = first_within (place_first p xs i is)

  pub changed_there : (h : A → A) (new none : A) (i : ℕ) → position p xs ≡ Some i → new ≡ h (get_or xs i none) → set xs i new ≡ change_first p h xs
  changed_there h new none i is at = first_changed h new none (place_first p xs i is) at

  pub gone_there : (i : ℕ) → position p xs ≡ Some i → remove xs i ≡ without_first p xs
  gone_there i is = first_gone (place_first p xs i is)

-- or none passes
module _ {A : Type 0} (p : A → Bool) where
  none_passes : (xs : List A) → length xs ≤ position_or_len p xs → ((h : A → A) → change_first p h xs ≡ xs) × (without_first p xs ≡ xs)
  none_passes [] le = ((λ h. refl), refl)
  none_passes (y ∷ ys) le = by_test (p y) refl (none_passes ys)
    where
      by_test : (b : Bool) → p y ≡ b → (length ys ≤ position_or_len p ys → ((h : A → A) → change_first p h ys ≡ ys) × (without_first p ys ≡ ys))
          → ((h : A → A) → change_first p h (y ∷ ys) ≡ y ∷ ys) × (without_first p (y ∷ ys) ≡ y ∷ ys)
      by_test true e go = absurd (omega (arith, le, place_here (p y) (position_or_len p ys) e))
      by_test false e go =
          let rest = go (omega (arith, le, place_later (p y) (position_or_len p ys) e)) in (
            λ h. ap (λ b. cond b (h y ∷ ys) (y ∷ change_first p h ys)) e ∙ ap (λ (l : List A). y ∷ l) (rest.0 h),
            ap (λ b. cond b ys (y ∷ without_first p ys)) e ∙ ap (λ (l : List A). y ∷ l) rest.1,
          )

  pub place_none : (xs : List A) → position p xs ≡ None → ((h : A → A) → change_first p h xs ≡ xs) × (without_first p xs ≡ xs)
  place_none xs is = by_test (nat_lt (position_or_len p xs) (length xs)) refl is
    where
      by_test : (b : Bool) → nat_lt (position_or_len p xs) (length xs) ≡ b → cond b (Some (position_or_len p xs)) None ≡ None
          → ((h : A → A) → change_first p h xs ≡ xs) × (without_first p xs ≡ xs)
      by_test true e none = cc
      by_test false e none = none_passes xs (ltb-false (position_or_len p xs) (length xs) e)
