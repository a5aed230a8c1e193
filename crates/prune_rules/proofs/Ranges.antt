-- Tests and lists over the first places.
use Rattle.std.proofs.Common.{◌≡◌, ℕ, zero, suc, ◌+◌, ◌<◌, ◌≤◌, inl, inr, Bool, true, false, ◌&&◌, ◌||◌, cond, List, [], ◌∷◌, map, filter, refl, sym, ap, subst, ◌∙◌, arith}
use Rattle.std.specs.List.{list_any, range_with_len}
use Rattle.std.proofs.lemmas.Bool.{cases_eq, or_left, or_right, or_from, or_cases}

abbrev pub any : (ℕ → Bool) → ℕ → Bool
any p n = list_any p (range_with_len 0 n)

any_from : (p : ℕ → Bool) (a n k : ℕ) → a ≤ k → k < a + n → p k ≡ true → list_any p (range_with_len a n) ≡ true
any_from p a zero k low high e = absurd (omega arith)
any_from p a (suc n) k low high e =
    elim (cases_eq a k) [
      | inl same ↦ or_left (p a) _ (subst (λ j. p j ≡ true) (sym same) e)
      | inr other ↦ or_right (p a) _ (any_from p (a + 1) n k (omega arith) (omega arith) e)
    ]

none_from : (p : ℕ → Bool) (a n : ℕ) → ((k : ℕ) → k < a + n → p k ≡ false) → list_any p (range_with_len a n) ≡ false
none_from p a zero none = refl
none_from p a (suc n) none =
    or_from (p a) _ (none a (omega arith)) (none_from p (a + 1) n (λ k h. none k (omega arith)))

found_from : (p : ℕ → Bool) (a n : ℕ) → list_any p (range_with_len a n) ≡ true → (k : ℕ) × (k < a + n) × (p k ≡ true)
found_from p a zero e = cc
found_from p a (suc n) e =
    elim (or_cases (p a) _ e) [
      | inl here ↦ (a, omega arith, here)
      | inr later ↦ let found = found_from p (a + 1) n later in (found.0, omega (arith, found.1), found.2)
    ]

same_from : (p q : ℕ → Bool) (a n : ℕ) → ((k : ℕ) → k < a + n → p k ≡ q k) → list_any p (range_with_len a n) ≡ list_any q (range_with_len a n)
same_from p q a zero same = refl
same_from p q a (suc n) same =
    ap (λ b. b || list_any p (range_with_len (a + 1) n)) (same a (omega arith))
    ∙ ap (λ b. q a || b) (same_from p q (a + 1) n (λ k h. same k (omega arith)))

pub any_at : (p : ℕ → Bool) (n k : ℕ) → k < n → p k ≡ true → any p n ≡ true
any_at p n k h e = any_from p 0 n k (omega arith) (omega arith) e

pub any_none : (p : ℕ → Bool) (n : ℕ) → ((k : ℕ) → k < n → p k ≡ false) → any p n ≡ false
any_none p n none = none_from p 0 n (λ k h. none k (omega arith))

pub any_found : (p : ℕ → Bool) (n : ℕ) → any p n ≡ true → (k : ℕ) × (k < n) × (p k ≡ true)
any_found p n e = let found = found_from p 0 n e in (found.0, omega (arith, found.1), found.2)

pub any_same : (p q : ℕ → Bool) (n : ℕ) → ((k : ℕ) → k < n → p k ≡ q k) → any p n ≡ any q n
any_same p q n same = same_from p q 0 n (λ k h. same k (omega arith))

map_from : {X : Type 0} (f g : ℕ → X) (a n : ℕ) → ((k : ℕ) → k < a + n → f k ≡ g k) → map f (range_with_len a n) ≡ map g (range_with_len a n)
map_from f g a zero same = refl
map_from f g a (suc n) same =
    ap (λ x. x ∷ map f (range_with_len (a + 1) n)) (same a (omega arith))
    ∙ ap (λ xs. g a ∷ xs) (map_from f g (a + 1) n (λ k h. same k (omega arith)))

pub map_same : {X : Type 0} (f g : ℕ → X) (n : ℕ) → ((k : ℕ) → k < n → f k ≡ g k) → map f (range_with_len 0 n) ≡ map g (range_with_len 0 n)
map_same f g n same = map_from f g 0 n (λ k h. same k (omega arith))

pub map_map : {X Y Z : Type 0} (f : Y → Z) (g : X → Y) (xs : List X) → map f (map g xs) ≡ map (λ x. f (g x)) xs
map_map f g [] = refl
map_map f g (x ∷ xs) = ap (λ ys. f (g x) ∷ ys) (map_map f g xs)

pub any_map : {X Y : Type 0} (p : Y → Bool) (f : X → Y) (xs : List X) → list_any p (map f xs) ≡ list_any (λ x. p (f x)) xs
any_map p f [] = refl
any_map p f (x ∷ xs) = ap (λ b. p (f x) || b) (any_map p f xs)

any_cond : {X : Type 0} (b : Bool) (p : X → Bool) (x : X) (xs : List X) → list_any p (cond b (x ∷ xs) xs) ≡ ((b && p x) || list_any p xs)
any_cond true p x xs = refl
any_cond false p x xs = refl

pub any_filter : {X : Type 0} (p f : X → Bool) (xs : List X) → list_any p (filter f xs) ≡ list_any (λ x. f x && p x) xs
any_filter p f [] = refl
any_filter p f (x ∷ xs) = any_cond (f x) p x (filter f xs) ∙ ap (λ b. (f x && p x) || b) (any_filter p f xs)
