-- Where the pieces of a dynamic index begin and end.
use Rattle.std.specs.Prelude.{ℕ, ◌<◌, ◌≤◌, List, [], ◌∷◌, length, take, slice_index_or}
use Rattle.store_files.specs.DynamicIndex.{DynamicIndex, Ended}

-- where the last of these pieces ends, or the start where there is none
abbrev pub last_end : ℕ → List Ended → ℕ
last_end start [] = start
last_end start (e ∷ es) = last_end e.end es

-- the archive's size
abbrev pub size_of : DynamicIndex → ℕ
size_of x = last_end 0 x.entries

-- the entry at a place, where there is one
abbrev pub entry_at : DynamicIndex → ℕ → Ended
entry_at x i = slice_index_or x.entries i (record { end = 0; digest = [] })

-- a piece begins where those before it end
abbrev pub start_of : DynamicIndex → ℕ → ℕ
start_of x i = last_end 0 (take i x.entries)

-- where it ends
abbrev pub stop_of : DynamicIndex → ℕ → ℕ
stop_of x i = (entry_at x i).end

-- the piece at this place has the byte at the offset
pub record HoldsOffset (x : DynamicIndex) (offset i : ℕ) : Type 0 where
  pub place : i < length x.entries
  pub starts : start_of x i ≤ offset
  pub stops : offset < stop_of x i
