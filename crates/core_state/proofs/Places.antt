-- Where the first element stands that passes a test, and what comes before it.
use Rattle.std.proofs.Common.{◌≡◌, ℕ, zero, suc, ◌+◌, ◌<◌, ◌≤◌, Bool, true, false, not, cond, length, get_or, List, [], ◌∷◌, Some, None, refl, sym, ap, ◌∙◌, arith}
use Rattle.std.proofs.lemmas.Bool.{ltb-false}
use Rattle.std.proofs.lemmas.List.Edits.{length-insert, get_or-insert_at}
use Rattle.std.proofs.lemmas.Option.{slice_get-get_or}
use Rattle.std.proofs.lemmas.List.Sums.{prefix_len-le-length}
use Rattle.std.specs.Prelude.{nat_lt, position, slice_get, unwrap_or}
use Rattle.std.specs.List.{insert, remove, position_or_len}

found_or_end : (b : Bool) (n m : ℕ) → (b ≡ false → m ≡ n) → unwrap_or (cond b (Some n) None) m ≡ n
found_or_end true n m e = refl
found_or_end false n m e = e refl

-- where the first stands that passes, or the end
pub place_is : {A : Type 0} (p : A → Bool) (xs : List A) → unwrap_or (position p xs) (length xs) ≡ position_or_len p xs
place_is p xs =
    found_or_end (nat_lt (position_or_len p xs) (length xs)) (position_or_len p xs) (length xs)
    (λ e. omega (arith, prefix_len-le-length (λ x. not (p x)) xs, ltb-false (position_or_len p xs) (length xs) e))

pub place_within : {A : Type 0} (p : A → Bool) (xs : List A) → position_or_len p xs ≤ length xs
place_within p xs = prefix_len-le-length (λ x. not (p x)) xs

insert_here : {A : Type 0} (n : ℕ) (x y : A) (ys : List A) → n ≡ 0 → insert (y ∷ ys) n x ≡ x ∷ y ∷ ys
insert_here n x y ys e = ap (λ k. insert (y ∷ ys) k x) e

insert_later : {A : Type 0} (n k : ℕ) (x y : A) (ys zs : List A) → n ≡ suc k → insert ys k x ≡ zs → insert (y ∷ ys) n x ≡ y ∷ zs
insert_later {A} n k x y ys zs e f = ap (λ k. insert (y ∷ ys) k x) e ∙ ap (λ (l : List A). y ∷ l) f

place_here : (b : Bool) (k : ℕ) → b ≡ true → cond (not b) (1 + k) 0 ≡ 0
place_here true k e = refl
place_here false k e = cc

place_later : (b : Bool) (k : ℕ) → b ≡ false → cond (not b) (1 + k) 0 ≡ suc k
place_later true k e = cc
place_later false k e = omega arith

-- an insertion before the first that passes, by recursion on the list
pub insert_at : {A : Type 0} (p : A → Bool) (x : A) (ins : List A → List A) → ins [] ≡ x ∷ [] → ((y : A) (ys : List A) → ins (y ∷ ys) ≡ cond (p y) (x ∷ y ∷ ys) (y ∷ ins ys))
    → (xs : List A) → insert xs (position_or_len p xs) x ≡ ins xs
insert_at p x ins none more [] = sym none
insert_at {A} p x ins none more (y ∷ ys) = by_test (p y) refl (insert_at p x ins none more ys) ∙ sym (more y ys)
  where
    by_test : (b : Bool) → p y ≡ b → insert ys (position_or_len p ys) x ≡ ins ys → insert (y ∷ ys) (position_or_len p (y ∷ ys)) x ≡ cond b (x ∷ y ∷ ys) (y ∷ ins ys)
    by_test true e go = insert_here (position_or_len p (y ∷ ys)) x y ys (place_here (p y) (position_or_len p ys) e)
    by_test false e go = insert_later (position_or_len p (y ∷ ys)) (position_or_len p ys) x y ys (ins ys) (place_later (p y) (position_or_len p ys) e) go

-- ---- an insertion, and how it is taken back

remove-insert : {A : Type 0} (xs : List A) (i : ℕ) (x : A) → i ≤ length xs → remove (insert xs i x) i ≡ xs
remove-insert [] zero x le = refl
remove-insert [] (suc i) x le = absurd (omega arith)
remove-insert (y ∷ ys) zero x le = refl
remove-insert {A} (y ∷ ys) (suc i) x le = ap (λ (l : List A). y ∷ l) (remove-insert ys i x (omega arith))

pub record IsTakenIn {A : Type 0} (xs ys : List A) (i : ℕ) (x : A) : Type 0 where
  pub within : i < length ys
  pub there : slice_get ys i ≡ Some x
  pub back : remove ys i ≡ xs

pub taken_in : {A : Type 0} (xs ys : List A) (i : ℕ) (x : A) → i ≤ length xs → ys ≡ insert xs i x → IsTakenIn xs ys i x
taken_in xs ys i x le is =
    let within : i < length ys = omega (arith, ap length is, length-insert xs i x le) in
    record {
      within = within;
      there = slice_get-get_or ys i x within ∙ ap (λ y. Some y) (ap (λ l. get_or l i x) is ∙ get_or-insert_at xs i x x le);
      back = ap (λ l. remove l i) is ∙ remove-insert xs i x le;
    }
