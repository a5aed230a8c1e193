-- The numbers of the catalogue's snapshots.
use Rattle.std.specs.Prelude.{◌≢◌, ◌<◌, ◌≤◌, ◌^◌, ◌⊎◌, ℕ, List, AllPairs}
use Rattle.std.specs.List.{All}
use Rattle.core_state.specs.declared.kept.Listed.{Listed}

-- the number of the first snapshot that was found at opening: those of entries of the order are less
abbrev pub first_number : ℕ
first_number = 2 ^ 63

-- it was finished by one of so many acts, or found at opening
abbrev pub IsGiven : ℕ → Listed → Type 0
IsGiven acts x = (x.number < acts) ⊎ (first_number ≤ x.number)

abbrev pub DifferInNumber : Listed → Listed → Type 0
DifferInNumber x y = x.number ≢ y.number

-- each is so, and no two have one number
pub record AreNumbered (acts : ℕ) (catalogue : List Listed) : Type 0 where
  pub given : All (IsGiven acts) catalogue
  pub once : AllPairs DifferInNumber catalogue
