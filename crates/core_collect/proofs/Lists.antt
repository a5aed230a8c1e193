-- What is kept of each of a catalogue is what is found by its number, and what is said of each of two lists that are alike.
use Rattle.std.proofs.Common.{◌≡◌, ◌==◌, Bool, false, List, [], ◌∷◌, get_or, map, option_map, Some, refl, ap}
use Rattle.std.specs.List.{All, AllPairs}
use Rattle.std.proofs.lemmas.Bool.{eq-eqb, ne_eqb}
use Rattle.std.proofs.lemmas.List.Elements.{All-cons, All-head, All-nil, All-tail}
use Rattle.core_state.specs.declared.kept.Listed.{Listed}
use Rattle.core_state.specs.Numbers.{DifferInNumber}
use Rattle.core_state.specs.Sweeps.{by_number}
use Rattle.store_history.proofs.Found.{find_each}

-- ---- the catalogue

abbrev has_number : Listed → Listed → Bool
has_number x y = y.number == x.number

numbers_apart : (xs : List Listed) → AllPairs DifferInNumber xs → AllPairs (λ x y. has_number y x ≡ false) xs
numbers_apart xs once i j d lt within = ne_eqb (get_or xs i d).number (get_or xs j d).number (once i j d lt within)

-- what is kept of each is what is kept of the one of its number
pub each_numbered : (xs : List Listed) → AllPairs DifferInNumber xs → All (λ x. by_number x.number xs ≡ Some (x.kept)) xs
each_numbered xs once k d within =
    ap (option_map (λ (x : Listed). x.kept)) (find_each has_number (λ x. eq-eqb x.number x.number refl) xs (numbers_apart xs once) k d within)

-- ---- two lists that are alike

module _ {A B K : Type 0} (f : A → K) (g : B → K) (P : B → Type 0) where
  -- the element of the second of which this is said, and which the first's is like
  abbrev pub IsLike : A → Type 0
  IsLike a = (b : B) × (f a ≡ g b) × P b

  heads : (x y : K) (xs ys : List K) → x ∷ xs ≡ y ∷ ys → x ≡ y
  heads x y xs ys e = cc

  tails : (x y : K) (xs ys : List K) → x ∷ xs ≡ y ∷ ys → xs ≡ ys
  tails x y xs ys e = cc

  none_some : (y : K) (ys : List K) → [] ≡ y ∷ ys → ⊥
  none_some y ys e = cc

  some_none : (x : K) (xs : List K) → x ∷ xs ≡ [] → ⊥
  some_none x xs e = cc

  pub each_like : (xs : List A) (ys : List B) → map f xs ≡ map g ys → All P ys → All IsLike xs
  each_like [] ys same all = All-nil IsLike
  each_like (x ∷ xs) [] same all = absurd (some_none (f x) (map f xs) same)
  each_like (x ∷ xs) (y ∷ ys) same all =
      All-cons IsLike x xs (y, heads (f x) (g y) (map f xs) (map g ys) same, All-head P y ys all)
      (each_like xs ys (tails (f x) (g y) (map f xs) (map g ys) same) (All-tail P y ys all))
