-- Orders that are put into a sink, by what it has taken before and after.
use Rattle.std.specs.Prelude.{ℕ, List, Option, Result, is_ok}
use Rattle.std.specs.List.{flat_map}
use Rattle.port_traits.specs.Bytes.{Writes}
use Rattle.store_types.specs.declared.order.Entry.{Entry}
use Rattle.store_files.specs.Order.{entry_text, order_text}

module _ {K : Type 0} (taken : K → Option (List ℕ)) where
  -- an order's file, whole where the call did not fail
  abbrev pub PutsOrder : {A E : Type 0} → K → K → List Entry → Result A E → Type 0
  PutsOrder old new order result = Writes (taken old) (taken new) (order_text order) (is_ok result)

  -- entries alone
  abbrev pub PutsEntries : {A E : Type 0} → K → K → List Entry → Result A E → Type 0
  PutsEntries old new entries result = Writes (taken old) (taken new) (flat_map entry_text entries) (is_ok result)
