-- Kinds of entries in the order.
use Rattle.std.specs.Prelude.{ℕ, Bool, ◌==◌, List}
use Rattle.std.specs.List.{list_any}
use Rattle.store_types.specs.declared.order.Entry.{Entry}

-- an entry of the order is of this kind
abbrev pub has_kind : ℕ → List Entry → Bool
has_kind kind order = list_any (λ e. e.kind == kind) order
