-- Values that stand for a history.
use Rattle.std.specs.Prelude.{ℕ, ◌^◌, ◌<◌, List, [], ◌∷◌, ◌++◌, length}

module _ {T E : Type 0} (stands : T → List E → Type 0) where
  -- each history that a value stands for is shorter than 2^63
  abbrev pub StandsForShort : Type 0
  StandsForShort = (value : T) (history : List E) → stands value history → length history < 2 ^ 63

  -- the value stands for what was seen and one event more, which is such a one
  abbrev pub StandsWithOne : (E → Type 0) → T → List E → Type 0
  StandsWithOne is value seen = (event : E) × is event × stands value (seen ++ event ∷ [])
