-- Where the first element stands that passes a test.
use Rattle.std.proofs.Common.{◌≡◌, ℕ, zero, suc, ◌+◌, ◌<◌, ◌≤◌, Bool, true, false, not, cond, length, get_or, set, map, List, [], ◌∷◌, Some, None, refl, sym, ap, subst, ◌∙◌, arith}
use Rattle.std.proofs.lemmas.Bool.{ltb-true, ltb-false}
use Rattle.std.proofs.lemmas.List.Sums.{prefix_len-le-length}
use Rattle.std.specs.Prelude.{nat_lt, position, unwrap_or}
use Rattle.std.specs.Option.{option_map}
use Rattle.std.specs.List.{find, insert, remove, position_or_len}
use Rattle.store_model.specs.Archives.{change_first, without_first}

-- the first that passes stands at this place
pub data First {A : Type 0} (p : A → Bool) : List A → ℕ → Type 0 where
  here : {x : A} {xs : List A} → p x ≡ true → First p (x ∷ xs) zero
  later : {x : A} {xs : List A} {i : ℕ} → p x ≡ false → First p xs i → First p (x ∷ xs) (suc i)

place_here : (b : Bool) (k : ℕ) → b ≡ true → cond (not b) (1 + k) 0 ≡ 0
place_here true k e = refl
place_here false k e = cc

place_later : (b : Bool) (k : ℕ) → b ≡ false → cond (not b) (1 + k) 0 ≡ suc k
place_later true k e = cc
place_later false k e = omega arith

first_of : {A : Type 0} (p : A → Bool) (xs : List A) → position_or_len p xs < length xs → First p xs (position_or_len p xs)
first_of p [] lt = absurd (omega (arith, lt))
first_of {A} p (y ∷ ys) lt = by_test (p y) refl (first_of p ys)
  where
    by_test : (b : Bool) → p y ≡ b → (position_or_len p ys < length ys → First p ys (position_or_len p ys)) → First p (y ∷ ys) (position_or_len p (y ∷ ys))
    by_test true e go = subst (First p (y ∷ ys)) (sym (place_here (p y) (position_or_len p ys) e)) (here e)
    by_test false e go =
        let next = place_later (p y) (position_or_len p ys) e in
        subst (First p (y ∷ ys)) (sym next) (later e (go (omega (arith, lt, next))))

pub place_first : {A : Type 0} (p : A → Bool) (xs : List A) (i : ℕ) → position p xs ≡ Some i → First p xs i
place_first p xs i is = by_test (nat_lt (position_or_len p xs) (length xs)) refl is
  where
    by_test : (b : Bool) → nat_lt (position_or_len p xs) (length xs) ≡ b → cond b (Some (position_or_len p xs)) None ≡ Some i → First p xs i
    by_test true e is_some =
        let same : position_or_len p xs ≡ i = cc in
        subst (First p xs) same (first_of p xs (ltb-true (position_or_len p xs) (length xs) e))
    by_test false e is_some = cc

none_found : {A : Type 0} (p : A → Bool) (xs : List A) → length xs ≤ position_or_len p xs → find p xs ≡ None
none_found p [] le = refl
none_found p (y ∷ ys) le = by_test (p y) refl (none_found p ys)
  where
    by_test : (b : Bool) → p y ≡ b → (length ys ≤ position_or_len p ys → find p ys ≡ None) → find p (y ∷ ys) ≡ None
    by_test true e go = absurd (omega (arith, le, place_here (p y) (position_or_len p ys) e))
    by_test false e go = ap (λ b. cond b (Some y) (find p ys)) e ∙ go (omega (arith, le, place_later (p y) (position_or_len p ys) e))

pub place_none : {A : Type 0} (p : A → Bool) (xs : List A) → position p xs ≡ None → find p xs ≡ None
place_none p xs is = by_test (nat_lt (position_or_len p xs) (length xs)) refl is
  where
    by_test : (b : Bool) → nat_lt (position_or_len p xs) (length xs) ≡ b → cond b (Some (position_or_len p xs)) None ≡ None → find p xs ≡ None
    by_test true e none = cc
    by_test false e none = none_found p xs (ltb-false (position_or_len p xs) (length xs) e)

-- ---- what stands there

pub first_within : {A : Type 0} {p : A → Bool} {xs : List A} {i : ℕ} → First p xs i → i < length xs
first_within (here e) = omega arith
first_within (later e f) = omega (arith, first_within f)

pub first_found : {A : Type 0} {p : A → Bool} {xs : List A} {i : ℕ} (none : A) → First p xs i → find p xs ≡ Some (get_or xs i none)
first_found {p = p} none (here {x = x} {xs = xs} e) = ap (λ b. cond b (Some x) (find p xs)) e
first_found {p = p} none (later {x = x} {xs = xs} e f) = ap (λ b. cond b (Some x) (find p xs)) e ∙ first_found none f

-- the same through a function that keeps the test
module _ {A B : Type 0} (f : A → B) (q : B → Bool) where
  pub find-map : (xs : List A) → find q (map f xs) ≡ option_map f (find (λ x. q (f x)) xs)
  find-map [] = refl
  find-map (x ∷ xs) = by_test (q (f x)) (find-map xs)
    where
      by_test : (b : Bool) → find q (map f xs) ≡ option_map f (find (λ y. q (f y)) xs)
          → cond b (Some (f x)) (find q (map f xs)) ≡ option_map f (cond b (Some x) (find (λ y. q (f y)) xs))
      by_test true e = refl
      by_test false e = e

  pub first_changed : {xs : List A} {i : ℕ} (h : B → B) (new none : A) → First (λ x. q (f x)) xs i → f new ≡ h (f (get_or xs i none))
      → change_first q h (map f xs) ≡ map f (set xs i new)
  first_changed h new none (here {x = x} {xs = xs} e) is =
      ap (λ b. cond b (h (f x) ∷ map f xs) (f x ∷ change_first q h (map f xs))) e ∙ ap (λ y. y ∷ map f xs) (sym is)
  first_changed h new none (later {x = x} {xs = xs} e first) is =
      ap (λ b. cond b (h (f x) ∷ map f xs) (f x ∷ change_first q h (map f xs))) e ∙ ap (λ (ys : List B). f x ∷ ys) (first_changed h new none first is)

  pub first_gone : {xs : List A} {i : ℕ} → First (λ x. q (f x)) xs i → without_first q (map f xs) ≡ remove (map f xs) i
  first_gone (here {x = x} {xs = xs} e) = ap (λ b. cond b (map f xs) (f x ∷ without_first q (map f xs))) e
  first_gone (later {x = x} {xs = xs} e first) =
      ap (λ b. cond b (map f xs) (f x ∷ without_first q (map f xs))) e ∙ ap (λ (ys : List B). f x ∷ ys) (first_gone first)

  -- what becomes of all is what becomes of what they stand for
  pub change_first-map : (g : A → A) (h : B → B) → ((x : A) → f (g x) ≡ h (f x)) → (xs : List A)
      → map f (change_first (λ x. q (f x)) g xs) ≡ change_first q h (map f xs)
  change_first-map g h same [] = refl
  change_first-map g h same (x ∷ xs) = by_test (q (f x)) (change_first-map g h same xs)
    where
      by_test : (b : Bool) → map f (change_first (λ y. q (f y)) g xs) ≡ change_first q h (map f xs)
          → map f (cond b (g x ∷ xs) (x ∷ change_first (λ y. q (f y)) g xs)) ≡ cond b (h (f x) ∷ map f xs) (f x ∷ change_first q h (map f xs))
      by_test true e = ap (λ y. y ∷ map f xs) (same x)
      by_test false e = ap (λ (ys : List B). f x ∷ ys) e

  pub without_first-map : (xs : List A) → map f (without_first (λ x. q (f x)) xs) ≡ without_first q (map f xs)
  without_first-map [] = refl
  without_first-map (x ∷ xs) = by_test (q (f x)) (without_first-map xs)
    where
      by_test : (b : Bool) → map f (without_first (λ y. q (f y)) xs) ≡ without_first q (map f xs)
          → map f (cond b xs (x ∷ without_first (λ y. q (f y)) xs)) ≡ cond b (map f xs) (f x ∷ without_first q (map f xs))
      by_test true e = refl
      by_test false e = ap (λ (ys : List B). f x ∷ ys) e

pub remove-map : {A B : Type 0} (f : A → B) (xs : List A) (i : ℕ) → map f (remove xs i) ≡ remove (map f xs) i
remove-map f [] zero = refl
remove-map f [] (suc i) = refl
remove-map f (x ∷ xs) zero = refl
remove-map {B = B} f (x ∷ xs) (suc i) = ap (λ (ys : List B). f x ∷ ys) (remove-map f xs i)

-- ---- an insertion before the first that passes

found_or_end : (b : Bool) (n m : ℕ) → (b ≡ false → m ≡ n) → unwrap_or (cond b (Some n) None) m ≡ n
found_or_end true n m e = refl
found_or_end false n m e = e refl

pub place_is : {A : Type 0} (p : A → Bool) (xs : List A) → unwrap_or (position p xs) (length xs) ≡ position_or_len p xs
place_is p xs =
    found_or_end (nat_lt (position_or_len p xs) (length xs)) (position_or_len p xs) (length xs)
    (λ e. omega (arith, prefix_len-le-length (λ x. not (p x)) xs, ltb-false (position_or_len p xs) (length xs) e))

pub place_within : {A : Type 0} (p : A → Bool) (xs : List A) → position_or_len p xs ≤ length xs
place_within p xs = prefix_len-le-length (λ x. not (p x)) xs

insert_here : {A : Type 0} (n : ℕ) (x y : A) (ys : List A) → n ≡ 0 → insert (y ∷ ys) n x ≡ x ∷ y ∷ ys
insert_here n x y ys e = ap (λ k. insert (y ∷ ys) k x) e

insert_later : {A : Type 0} (n k : ℕ) (x y : A) (ys zs : List A) → n ≡ suc k → insert ys k x ≡ zs → insert (y ∷ ys) n x ≡ y ∷ zs
insert_later {A} n k x y ys zs e f = ap (λ k. insert (y ∷ ys) k x) e ∙ ap (λ (l : List A). y ∷ l) f

-- by recursion on the list
pub insert_at : {A : Type 0} (p : A → Bool) (x : A) (ins : List A → List A) → ins [] ≡ x ∷ [] → ((y : A) (ys : List A) → ins (y ∷ ys) ≡ cond (p y) (x ∷ y ∷ ys) (y ∷ ins ys))
    → (xs : List A) → insert xs (position_or_len p xs) x ≡ ins xs
insert_at p x ins none more [] = sym none
insert_at {A} p x ins none more (y ∷ ys) = by_test (p y) refl (insert_at p x ins none more ys) ∙ sym (more y ys)
  where
    by_test : (b : Bool) → p y ≡ b → insert ys (position_or_len p ys) x ≡ ins ys → insert (y ∷ ys) (position_or_len p (y ∷ ys)) x ≡ cond b (x ∷ y ∷ ys) (y ∷ ins ys)
    by_test true e go = insert_here (position_or_len p (y ∷ ys)) x y ys (place_here (p y) (position_or_len p ys) e)
    by_test false e go = insert_later (position_or_len p (y ∷ ys)) (position_or_len p ys) x y ys (ins ys) (place_later (p y) (position_or_len p ys) e) go

pub remove-insert : {A : Type 0} (xs : List A) (i : ℕ) (x : A) → i ≤ length xs → remove (insert xs i x) i ≡ xs
remove-insert [] zero x le = refl
remove-insert [] (suc i) x le = absurd (omega arith)
remove-insert (y ∷ ys) zero x le = refl
remove-insert {A} (y ∷ ys) (suc i) x le = ap (λ (l : List A). y ∷ l) (remove-insert ys i x (omega arith))
