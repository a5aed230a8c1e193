-- What contracts see as the catalogue, and what holds of it on any disk.
use Rattle.std.specs.Prelude.{◌≡◌, ℕ, false, List, IsTrue}
use Rattle.std.specs.List.{AllPairs, list_all}
use Rattle.store_types.specs.Names.{key_lt}
use Rattle.core_state.specs.declared.kept.Listed.{Listed}
use Rattle.core_state.specs.Named.{is_named_snapshot}

pub record Catalogued : Type 0 where
  -- the finished snapshots
  pub listed : List Listed
  -- how many more are taken in without memory
  pub room : ℕ

-- the second key is not before the first
abbrev pub NotBehind : Listed → Listed → Type 0
NotBehind x y = key_lt (y.kept).key (x.kept).key ≡ false

-- keys never fall, and each snapshot is in form
pub record IsListing (listed : List Listed) : Type 0 where
  pub named : IsTrue (list_all is_named_snapshot listed)
  pub order : AllPairs NotBehind listed
