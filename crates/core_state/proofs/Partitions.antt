-- What passes a test that divides a list.
use Rattle.std.proofs.Common.{◌≡◌, ◌∙◌, ◌-◌, ℕ, zero, suc, Bool, true, false, cond, List, [], ◌∷◌, length, take, drop, filter, refl, sym, ap, arith}
use Rattle.std.proofs.lemmas.List.{length-drop, take_all}
use Rattle.std.specs.List.{AllWithin}

drop_nil : {A : Type 0} (i : ℕ) → let none : List A = [] in drop i none ≡ []
drop_nil zero = refl
drop_nil (suc i) = refl

take_nil : {A : Type 0} (i : ℕ) → let none : List A = [] in take i none ≡ []
take_nil zero = refl
take_nil (suc i) = refl

-- a slice up to the end
pub tail_is : {A : Type 0} (i : ℕ) (xs : List A) → take (length xs - i) (drop i xs) ≡ drop i xs
tail_is i xs = take_all (length xs - i) (drop i xs) (omega (arith, length-drop i xs))

module _ {A : Type 0} (q : A → Bool) where
  abbrev Passes : A → Type 0
  Passes x = q x ≡ true

  abbrev Fails : A → Type 0
  Fails x = q x ≡ false

  -- none before this place, and all from it on
  pub suffix : (xs : List A) (i : ℕ) → AllWithin Fails xs 0 i → AllWithin Passes xs i (length xs) → filter q xs ≡ drop i xs
  suffix [] i none all = sym (drop_nil i)
  suffix (x ∷ xs) zero none all =
      ap (λ b. cond b (x ∷ filter q xs) (filter q xs)) (all zero x (omega arith) (omega arith))
      ∙ ap (λ (l : List A). x ∷ l) (suffix xs zero (λ k d lo hi. absurd (omega (arith, hi))) (λ k d lo hi. all (suc k) d (omega arith) (omega (arith, hi))))
  suffix (x ∷ xs) (suc i) none all =
      ap (λ b. cond b (x ∷ filter q xs) (filter q xs)) (none zero x (omega arith) (omega arith))
      ∙ suffix xs i (λ k d lo hi. none (suc k) d (omega arith) (omega (arith, hi))) (λ k d lo hi. all (suc k) d (omega (arith, lo)) (omega (arith, hi)))

  -- all before this place, and none from it on
  pub prefix : (xs : List A) (i : ℕ) → AllWithin Passes xs 0 i → AllWithin Fails xs i (length xs) → filter q xs ≡ take i xs
  prefix [] i all none = sym (take_nil i)
  prefix (x ∷ xs) zero all none =
      ap (λ b. cond b (x ∷ filter q xs) (filter q xs)) (none zero x (omega arith) (omega arith))
      ∙ prefix xs zero (λ k d lo hi. absurd (omega (arith, hi))) (λ k d lo hi. none (suc k) d (omega arith) (omega (arith, hi)))
  prefix (x ∷ xs) (suc i) all none =
      ap (λ b. cond b (x ∷ filter q xs) (filter q xs)) (all zero x (omega arith) (omega arith))
      ∙ ap (λ (l : List A). x ∷ l) (prefix xs i (λ k d lo hi. all (suc k) d (omega arith) (omega (arith, hi))) (λ k d lo hi. none (suc k) d (omega (arith, lo)) (omega (arith, hi))))

  -- what passes this test passes that one
  pub filter_within : (p : A → Bool) → ((x : A) → p x ≡ true → q x ≡ true) → (xs : List A) → filter p (filter q xs) ≡ filter p xs
  filter_within p also [] = refl
  filter_within p also (x ∷ xs) = by_tests (p x) (q x) refl refl (filter_within p also xs)
    where
      by_tests : (a b : Bool) → p x ≡ a → q x ≡ b → filter p (filter q xs) ≡ filter p xs → filter p (cond b (x ∷ filter q xs) (filter q xs)) ≡ cond a (x ∷ filter p xs) (filter p xs)
      by_tests true true e f go = ap (λ b. cond b (x ∷ filter p (filter q xs)) (filter p (filter q xs))) e ∙ ap (λ (l : List A). x ∷ l) go
      by_tests false true e f go = ap (λ b. cond b (x ∷ filter p (filter q xs)) (filter p (filter q xs))) e ∙ go
      by_tests false false e f go = go
      by_tests true false e f go = absurd (apart (sym (also x e) ∙ f))
        where
          apart : true ≡ false → ⊥
          apart e = cc
