-- Rows whose keys never fall.
use Rattle.std.specs.Prelude.{◌≡◌, false, List, [], ◌∷◌, ⊤}
use Rattle.std.specs.Coded.{×_prop, Unit-prop}
use mathlib.Core.Bool.{Bool-set}
use Rattle.store_types.specs.Names.{key_lt}
use Rattle.listing_views.specs.declared.listed.Listed.{Listed}

-- none of these rows is before the row
abbrev pub NoneBefore : Listed → List Listed → Type 0
NoneBefore x [] = ⊤
NoneBefore x (y ∷ ys) = (key_lt y.key x.key ≡ false) × NoneBefore x ys

abbrev pub Rises : List Listed → Type 0
Rises [] = ⊤
Rises (x ∷ xs) = NoneBefore x xs × Rises xs

pub NoneBefore-prop : (x : Listed) (xs : List Listed) → IsProp (NoneBefore x xs)
NoneBefore-prop x [] = Unit-prop
NoneBefore-prop x (y ∷ ys) = ×_prop (Bool-set (key_lt y.key x.key) false) (NoneBefore-prop x ys)

pub Rises-prop : (xs : List Listed) → IsProp (Rises xs)
Rises-prop [] = Unit-prop
Rises-prop (x ∷ xs) = ×_prop (NoneBefore-prop x xs) (Rises-prop xs)
