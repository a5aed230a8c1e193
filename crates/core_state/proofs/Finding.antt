-- What is found in a list, and in what is kept of it.
use Rattle.std.proofs.Common.{◌≡◌, Bool, true, false, cond, List, [], ◌∷◌, map, Option, Some, None, IsSome, refl, sym, ap}
use Rattle.std.specs.List.{find}
use Rattle.std.specs.Option.{option_map}
pub use Rattle.store_model.proofs.Finding.{some_same, found_in, found_passes}

-- ---- what is found, mapped

pub mapped : {A B : Type 0} (f : A → B) (o : Option A) (y : B) → option_map f o ≡ Some y → (x : A) × (o ≡ Some x) × (y ≡ f x)
mapped f None y e = cc
mapped f (Some x) y e = (x, refl, sym (some_same (f x) y e))

pub no_mapped : {A B : Type 0} (f : A → B) (o : Option A) → option_map f o ≡ None → o ≡ None
no_mapped f None e = refl
no_mapped f (Some x) e = cc

pub is_some : {A : Type 0} (o : Option A) (x : A) → o ≡ Some x → IsSome o
is_some o x e = ap Rattle.std.specs.Option.is_some e

-- what is found where something is there
pub there_is : {A B : Type 0} (f : A → B) (o : Option A) (q : Option B) → option_map f o ≡ q → Rattle.std.specs.Option.is_none o ≡ false → (k : B) × (q ≡ Some k)
there_is f None q is empty = absurd (true_false empty)
  where
    true_false : true ≡ false → ⊥
    true_false e = cc
there_is f (Some x) q is there = (f x, sym is)

-- ---- lists

pub find_map : {A B : Type 0} (f : A → B) (p : B → Bool) (xs : List A) → find p (map f xs) ≡ option_map f (find (λ x. p (f x)) xs)
find_map f p [] = refl
find_map f p (x ∷ xs) =
    elim (p (f x)) as (λ b. cond b (Some (f x)) (find p (map f xs)) ≡ option_map f (cond b (Some x) (find (λ y. p (f y)) xs))) [
      | true ↦ refl
      | false ↦ find_map f p xs
    ]
