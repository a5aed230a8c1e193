-- The least of some names.
use Rattle.std.specs.Prelude.{ℕ, List, if◌then◌else◌, Option, Some, None}
use Rattle.store_types.specs.Names.{name_lt}

-- the lesser of two names that may be there, the first of two that are the same
abbrev pub lesser : Option (List ℕ) → Option (List ℕ) → Option (List ℕ)
lesser None b = b
lesser (Some x) None = Some x
lesser (Some x) (Some y) = if name_lt y x then Some y else Some x
