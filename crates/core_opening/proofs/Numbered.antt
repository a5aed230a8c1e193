-- The snapshots that were found have numbers of their own.
use Rattle.std.proofs.Common.{◌≡◌, ◌<◌, ◌≤◌, ◌+◌, ℕ, List, [], inr, arith}
use Rattle.std.proofs.lemmas.List.Elements.{All-nil, All-weaker}
use Rattle.std.specs.List.{All}
use Rattle.std.specs.Prelude.{AllPairs}
use Rattle.snapshot_files.proofs.Listing.{pairs_nil}
use Rattle.core_state.specs.declared.kept.Listed.{Listed}
use Rattle.core_state.specs.Catalogue.{insert_listed}
use Rattle.core_state.specs.Numbers.{DifferInNumber, IsGiven, first_number}
use Rattle.core_state.proofs.Numbering.{all_insert, pairs_insert}
use Rattle.core_opening.specs.Opening.{NumbersAll}

-- from the first number up to this one, each its own
pub record AreBelow (n : ℕ) (ys : List Listed) : Type 0 where
  pub least : All (λ y. first_number ≤ y.number) ys
  pub below : All (λ y. y.number < n) ys
  pub once : AllPairs DifferInNumber ys

pub none_below : (n : ℕ) → AreBelow n []
none_below n = record { least = All-nil (λ y. first_number ≤ y.number); below = All-nil (λ y. y.number < n); once = pairs_nil DifferInNumber }

-- one more
pub one_below : (n : ℕ) (y : Listed) (ys : List Listed) → first_number ≤ n → y.number ≡ n → AreBelow n ys → AreBelow (n + 1) (insert_listed y ys)
one_below n y ys from is are = record {
  least = all_insert (λ z. first_number ≤ z.number) y ys (omega (arith, from, is)) are.least;
  below = all_insert (λ z. z.number < n + 1) y ys (omega (arith, is)) (All-weaker (λ z. z.number < n) (λ z. z.number < n + 1) (λ z lt. omega (arith, lt)) ys are.below);
  once = pairs_insert y ys (All-weaker (λ z. z.number < n) (DifferInNumber y) (λ z lt e. omega (arith, lt, e, is)) ys are.below) are.once;
}

pub all_numbered : (n : ℕ) (ys : List Listed) → AreBelow n ys → NumbersAll ys
all_numbered n ys are acts = record {
  given = All-weaker (λ y. first_number ≤ y.number) (IsGiven acts) (λ y found. inr found) ys are.least;
  once = are.once;
}
