-- The order that is replayed.
use Rattle.std.specs.Prelude.{◌≡◌, ℕ, Bool, false, List, ◌==◌, if◌then◌else◌, IsTrue, Option, Some, None}
use Rattle.std.specs.List.{list_any}
use Rattle.store_types.specs.declared.order.Entry.{Entry}
use Rattle.store_types.specs.declared.order.TheConstants.{FAULT_KIND}
use Rattle.store_files.specs.Order.{keeps_rules, order_of}

-- whether an act of the order was answered that the disk failed
abbrev pub has_faults : List Entry → Bool
has_faults order = list_any (λ e. e.kind == FAULT_KIND) order

abbrev pub unless_faults : Option (List Entry) → Option (List Entry)
unless_faults None = None
unless_faults (Some order) = if has_faults order then None else Some order

-- the order whose file this is, for so many lanes, where no act of it was
abbrev pub faultless_order : ℕ → List ℕ → Option (List Entry)
faultless_order lanes bytes = unless_faults (order_of lanes bytes)

pub record IsFaultless (lanes : ℕ) (order : List Entry) : Type 0 where
  pub rules : IsTrue (keeps_rules lanes order)
  pub faults : has_faults order ≡ false
