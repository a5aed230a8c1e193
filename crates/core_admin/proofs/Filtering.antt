-- Images of a list's first elements, and what is found among images.
use Rattle.std.proofs.Common.{◌≡◌, ◌<◌, ◌≤◌, ◌+◌, ℕ, Bool, true, false, cond, length, get_or, map, take, List, [], ◌∷◌, ◌++◌, Option, refl, sym, ap, ◌∙◌, arith}
use Rattle.std.specs.Prelude.{min, nat_le}
use Rattle.std.proofs.lemmas.Bool.{leb-true, leb-false}
use Rattle.std.specs.List.{All, cons_option, filter, filter_map}
use Rattle.std.proofs.lemmas.List.{take_all, take_more, take-map, map-append}
use Rattle.std.proofs.lemmas.List.Elements.{All-head, All-tail}

-- ---- images, one after another

-- one more was looked at, and its image is written behind
pub mapped_more : {X Y : Type 0} (f : X → Y) (xs : List X) (i : ℕ) (x : X) (ys zs : List Y) (y : Y) → i < length xs → x ≡ get_or xs i x → ys ≡ map f (take i xs) → y ≡ f x → zs ≡ ys ++ y ∷ []
    → zs ≡ map f (take (i + 1) xs)
mapped_more f xs i x ys zs y lt is e same pushed =
    pushed ∙ ap (λ w. ys ++ w ∷ []) same ∙ ap (λ l. l ++ f x ∷ []) e
    ∙ sym (ap (map f) (take_more xs i x lt ∙ ap (λ w. take i xs ++ w ∷ []) (sym is)) ∙ map-append f (take i xs) (x ∷ []))

-- all were looked at
pub mapped_all : {X Y : Type 0} (f : X → Y) (xs first : List X) (n i k : ℕ) (ys : List Y) → ys ≡ map f (take i first) → first ≡ take k xs → length first ≤ i → k ≡ min (length xs) n
    → ys ≡ map f (take n xs)
mapped_all f xs first n i k ys e is past least = e ∙ ap (map f) (take_all i first past ∙ is ∙ by_order (nat_le (length xs) n) refl)
  where
    by_order : (b : Bool) → nat_le (length xs) n ≡ b → take k xs ≡ take n xs
    by_order true le = take_all k xs (omega (arith, least, leb-true (length xs) n le)) ∙ sym (take_all n xs (leb-true (length xs) n le))
    by_order false gt = ap (λ m. take m xs) (omega (arith, least, leb-false (length xs) n gt))

-- ---- what is found among images

pub filter_map_to : {X Z : Type 0} (f : X → Z) (p : Z → Bool) (xs : List X) → filter p (map f xs) ≡ map f (filter (λ x. p (f x)) xs)
filter_map_to f p [] = refl
filter_map_to f p (x ∷ xs) = by_test (p (f x)) (filter_map_to f p xs)
  where
    by_test : (b : Bool) → filter p (map f xs) ≡ map f (filter (λ x. p (f x)) xs) → cond b (f x ∷ filter p (map f xs)) (filter p (map f xs)) ≡ map f (cond b (x ∷ filter (λ x. p (f x)) xs) (filter (λ x. p (f x)) xs))
    by_test true e = ap (λ zs. f x ∷ zs) e
    by_test false e = e

pub map_twice : {X Y Z : Type 0} (f : X → Z) (g : Z → Y) (xs : List X) → map g (map f xs) ≡ map (λ x. g (f x)) xs
map_twice f g [] = refl
map_twice f g (x ∷ xs) = ap (λ ys. g (f x) ∷ ys) (map_twice f g xs)

pub found_map : {X Y Z : Type 0} (f : X → Z) (g : Z → Y) (p : Z → Bool) (n : ℕ) (xs : List X) → map g (take n (filter p (map f xs))) ≡ map (λ x. g (f x)) (take n (filter (λ x. p (f x)) xs))
found_map f g p n xs = ap (λ zs. map g (take n zs)) (filter_map_to f p xs) ∙ ap (map g) (take-map f n (filter (λ x. p (f x)) xs)) ∙ map_twice f g (take n (filter (λ x. p (f x)) xs))

-- functions that agree at each element
pub map_agree : {X Y : Type 0} (f g : X → Y) (xs : List X) → All (λ x. f x ≡ g x) xs → map f xs ≡ map g xs
map_agree f g [] all = refl
map_agree f g (x ∷ xs) all = ap (λ y. y ∷ map f xs) (All-head (λ x. f x ≡ g x) x xs all) ∙ ap (λ ys. g x ∷ ys) (map_agree f g xs (All-tail (λ x. f x ≡ g x) x xs all))

pub filter_map_agree : {X Y Z : Type 0} (f : X → Z) (h : Z → Option Y) (k : X → Option Y) (xs : List X) → All (λ x. h (f x) ≡ k x) xs → filter_map h (map f xs) ≡ filter_map k xs
filter_map_agree f h k [] all = refl
filter_map_agree f h k (x ∷ xs) all =
    ap (λ o. cons_option o (filter_map h (map f xs))) (All-head (λ x. h (f x) ≡ k x) x xs all)
    ∙ ap (cons_option (k x)) (filter_map_agree f h k xs (All-tail (λ x. h (f x) ≡ k x) x xs all))
