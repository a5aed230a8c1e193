-- The rules of an order, tested entry by entry.
use Rattle.std.specs.Prelude.{◌≡◌, ℕ, Bool, true, false, not, ◌&&◌, List, [], ◌∷◌, ◌++◌, map, replicate, ◌==◌, nat_lt, nat_le, slice_index_or, slice_set, if◌then◌else◌, Option, Some, None, option_map, Vec}
use Rattle.std.specs.declared.alloc.Global.{Global}
use Rattle.std.specs.List.{list_all}
use Rattle.store_types.specs.declared.order.Entry.{Entry}
use Rattle.store_types.specs.Times.{last_moment}
use Rattle.store_files.specs.Cells.{cells}
use Rattle.store_files.specs.Order.{entry_of}

-- the moment that no later entry may be before, and of each lane whether it has ended
pub record Progress : Type 0 where
  pub last : ℕ
  pub ended : List Bool

abbrev pub begun : ℕ → Progress
begun lanes = record { last = 0; ended = replicate lanes false }

-- no entry is of a lane that has ended or is not there
abbrev pub is_next : Progress → Entry → Bool
is_next p e =
    not (slice_index_or p.ended e.lane true) && nat_le p.last e.moment && nat_le e.moment last_moment && nat_lt e.kind 8

abbrev pub after : Progress → Entry → Progress
after p e = record { last = e.moment; ended = slice_set p.ended e.lane (e.kind == 6) }

abbrev pub is_over : Progress → Bool
is_over p = list_all (λ ended. ended) p.ended

-- whether these entries may follow, as the last ones
abbrev pub may_follow : Progress → List Entry → Bool
may_follow p [] = is_over p
may_follow p (e ∷ es) = is_next p e && may_follow (after p e) es

-- ---- the entries of a text

abbrev pub entries_at : List ℕ → List Entry
entries_at bytes = map entry_of (cells 13 bytes)

-- the first entries with the others, where these may follow
abbrev pub joined : Progress → List Entry → List Entry → Option (List Entry)
joined p first others = if may_follow p others then Some (first ++ others) else None

-- an answer has the entries that the bytes are, where they keep the rules
abbrev pub TellsEntries : ℕ → List ℕ → Option (Vec Entry Global) → Type 0
TellsEntries lanes bytes found = option_map (λ v. v.items) found ≡ joined (begun lanes) [] (entries_at bytes)
