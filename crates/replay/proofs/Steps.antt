-- One more byte of a comparison.
use Rattle.std.proofs.Common.{◌≡◌, ℕ, suc, zero, ◌+◌, Bool, true, false, ◌||◌, cond, List, [], ◌∷◌, ◌++◌, drop, take, Option, Some, None, is_some, refl, sym, ap, ◌∙◌, arith, append_assoc}
use Rattle.std.specs.Prelude.{◌==◌, slice_get}
use Rattle.std.proofs.lemmas.Option.{same_Some}
use Rattle.plain_store.specs.declared.frees.Free.{Free}
use Rattle.replay.specs.declared.difference.Unequal.{Unequal}
use Rattle.replay.specs.declared.comparing.Comparing.{Comparing}
use Rattle.replay.specs.Compare.{is_free, unequal, differs_from}
use Rattle.replay.specs.Comparing.{meets, outcome, Takes}

at_some : (xs : List ℕ) (i a : ℕ) → slice_get xs i ≡ Some a → drop i xs ≡ a ∷ drop (i + 1) xs
at_some [] i a is = cc
at_some (x ∷ xs) zero a is = ap (λ y. y ∷ xs) (same_Some x a is)
at_some (x ∷ xs) (suc i) a is = at_some xs i a is ∙ ap (λ n. a ∷ drop n (x ∷ xs)) (let e : suc (i + 1) ≡ suc i + 1 = omega arith in e)

at_none : (xs : List ℕ) (i : ℕ) → slice_get xs i ≡ None → drop i xs ≡ []
at_none [] zero is = refl
at_none [] (suc i) is = refl
at_none (x ∷ xs) zero is = cc
at_none (x ∷ xs) (suc i) is = at_none xs i is

pub none_of : (o : Option Unequal) → is_some o ≡ false → o ≡ None
none_of None is = refl
none_of (Some u) is = cc

module _ (frees : List Free) (lane : ℕ) (replayed : List ℕ) (place : ℕ) where
  -- what differs here, where this is replayed and that was kept
  by_test : Bool → ℕ → ℕ → List ℕ → Option Unequal
  by_test b a k kept = cond b (differs_from frees lane (place + 1) (drop (place + 1) replayed) kept) (Some (unequal lane place (Some a) (Some k)))

  step : (a k : ℕ) (kept : List ℕ) → slice_get replayed place ≡ Some a →
      by_test ((a == k) || is_free frees lane place) a k kept ≡ differs_from frees lane place (drop place replayed) (k ∷ kept)
  unfolding differs_from by_test
  step a k kept is = sym (ap (λ r. differs_from frees lane place r (k ∷ kept)) (at_some replayed place a is))

  same : (r : Option ℕ) (k : ℕ) (kept : List ℕ) → r ≡ slice_get replayed place → meets frees lane place r k ≡ true →
      differs_from frees lane (place + 1) (drop (place + 1) replayed) kept ≡ differs_from frees lane place (drop place replayed) (k ∷ kept)
  unfolding by_test
  same None k kept here is = cc
  same (Some a) k kept here is = sym (ap (λ b. by_test b a k kept) is) ∙ step a k kept (sym here)

  other : (r : Option ℕ) (k : ℕ) (kept : List ℕ) → r ≡ slice_get replayed place → meets frees lane place r k ≡ false →
      Some (unequal lane place r (Some k)) ≡ differs_from frees lane place (drop place replayed) (k ∷ kept)
  unfolding differs_from by_test
  other None k kept here is = sym (ap (λ r. differs_from frees lane place r (k ∷ kept)) (at_none replayed place (sym here)))
  other (Some a) k kept here is = sym (ap (λ b. by_test b a k kept) is) ∙ step a k kept (sym here)

  short : (a : ℕ) → slice_get replayed place ≡ Some a → Some (unequal lane place (Some a) None) ≡ differs_from frees lane place (drop place replayed) []
  unfolding differs_from
  short a is = sym (ap (λ r. differs_from frees lane place r []) (at_some replayed place a is))

  over : slice_get replayed place ≡ None → None ≡ differs_from frees lane place (drop place replayed) []
  unfolding differs_from
  over is = sym (ap (λ r. differs_from frees lane place r []) (at_none replayed place is))

-- ---- by the comparison's state

-- what it comes to by what was found, where the rest comes to this
abbrev by_found : Option Unequal → Option Unequal → Option Unequal
by_found (Some u) rest = Some u
by_found None rest = rest

rest_of : Comparing → List ℕ → Option Unequal
rest_of c kept = differs_from c.frees.now c.lane c.place (drop c.place c.replayed.now) kept

by_rest : (c : Comparing) (kept : List ℕ) → outcome c kept ≡ by_found c.found (rest_of c kept)
unfolding rest_of
by_rest c kept = go c.found
  where
    go : (f : Option Unequal) → elim f as (λ _. Option Unequal) [ Some u ↦ Some u | None ↦ differs_from c.frees.now c.lane c.place (drop c.place c.replayed.now) kept ]
        ≡ by_found f (differs_from c.frees.now c.lane c.place (drop c.place c.replayed.now) kept)
    go None = refl
    go (Some u) = refl

open_at : (c : Comparing) (kept : List ℕ) → c.found ≡ None → outcome c kept ≡ rest_of c kept
open_at c kept none = by_rest c kept ∙ ap (λ f. by_found f (rest_of c kept)) none

module _ (c : Comparing) (none : c.found ≡ None) where
  pub moves : (r : Option ℕ) (k : ℕ) → r ≡ slice_get c.replayed.now c.place → meets c.frees.now c.lane c.place r k ≡ true →
      Takes c (record c { place = c.place + 1 }) (k ∷ [])
  unfolding rest_of
  moves r k here is kept =
      open_at (record c { place = c.place + 1 }) kept none
      ∙ same c.frees.now c.lane c.replayed.now c.place r k kept here is ∙ sym (open_at c (k ∷ kept) none)

  pub differs : (r : Option ℕ) (k : ℕ) → r ≡ slice_get c.replayed.now c.place → meets c.frees.now c.lane c.place r k ≡ false →
      Takes c (record c { found = Some (unequal c.lane c.place r (Some k)) }) (k ∷ [])
  unfolding rest_of
  differs r k here is kept = other c.frees.now c.lane c.replayed.now c.place r k kept here is ∙ sym (open_at c (k ∷ kept) none)

  pub is_shorter : (a : ℕ) → slice_get c.replayed.now c.place ≡ Some a → Some (unequal c.lane c.place (Some a) None) ≡ outcome c []
  unfolding rest_of
  is_shorter a is = short c.frees.now c.lane c.replayed.now c.place a is ∙ sym (open_at c [] none)

  pub is_equal : slice_get c.replayed.now c.place ≡ None → None ≡ outcome c []
  unfolding rest_of
  is_equal is = over c.frees.now c.lane c.replayed.now c.place is ∙ sym (open_at c [] none)

-- ---- more bytes

pub goes_on : (old new : Comparing) (frees : List Free) (lane : ℕ) (replayed bytes piece : List ℕ) (n : ℕ) (all : List ℕ) → Takes old new bytes → bytes ≡ take n piece →
    ((kept : List ℕ) → outcome old kept ≡ differs_from frees lane 0 replayed (all ++ kept)) →
    (kept : List ℕ) → outcome new kept ≡ differs_from frees lane 0 replayed ((all ++ take n piece) ++ kept)
goes_on old new frees lane replayed bytes piece n all takes is before kept =
    takes kept ∙ ap (λ t. outcome old (t ++ kept)) is ∙ before (take n piece ++ kept)
    ∙ ap (differs_from frees lane 0 replayed) (sym (append_assoc all (take n piece) kept))
