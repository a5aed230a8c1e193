-- The entries of a page of a dynamic index, and the steps from one to the next.
use Rattle.std.specs.Prelude.{ℕ, zero, suc, ◌+◌, ◌*◌, ◌==◌, Bool, false, ◌&&◌, List, [], ◌∷◌, ◌++◌, map, take, nat_lt, nat_le, if◌then◌else◌, Option, Some, None, Result, Ok, Err}
use Rattle.std.specs.List.{position, position_or_len}
use Rattle.store_files.specs.Cells.{cells}
use Rattle.store_files.specs.DynamicIndex.{Ended, entry_of}
use Rattle.dynamic_index.specs.Pieces.{last_end}
use Rattle.index_pages.specs.declared.fault.PageFault.{PageFault}
use Rattle.index_pages.specs.declared.fault.PageFault.TheVariants.{Changed}

abbrev pub entries_of : List ℕ → List Ended
entries_of bytes = map entry_of (cells 40 bytes)

-- a piece has 1 to 16,777,216 bytes
abbrev pub is_step : ℕ → ℕ → Bool
is_step start end = nat_lt start end && nat_le end (start + 16_777_216)

-- where the last of these pieces ends, where each is as long as a piece may be
abbrev pub stepped : ℕ → List Ended → Option ℕ
stepped start [] = Some start
stepped start (e ∷ es) = if is_step start e.end then stepped e.end es else None

abbrev pub ends_at : ℕ → Option ℕ → Bool
ends_at stop None = false
ends_at stop (Some end) = end == stop

-- Of page i, which begins and stops there, these are the entries where each piece is as long as a piece may be and the last one ends
-- where the page stops. Else it is not as it was opened.
abbrev pub entries_told : ℕ → ℕ → ℕ → List Ended → Result (List Ended) PageFault
entries_told i start stop es = if ends_at stop (stepped start es) then Ok es else Err (Changed i)

-- of each of the first so many pages, where its last piece ends
unfoldable pub page_ends : ℕ → List Ended → List ℕ
page_ends zero es = []
page_ends (suc n) es = page_ends n es ++ last_end 0 (take (suc n * 1024) es) ∷ []

-- how many of these pieces, from the first on, end at the offset or before it
abbrev pub ended_before : ℕ → List Ended → ℕ
ended_before offset es = position_or_len (λ e. nat_lt offset e.end) es

-- the first page that ends behind the offset
abbrev pub page_with : ℕ → List ℕ → Option ℕ
page_with offset ends = position (λ end. nat_lt offset end) ends
