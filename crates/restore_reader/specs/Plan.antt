-- What a range of an archive has of each piece.
use Rattle.std.specs.Prelude.{ℕ, ◌-◌, min, max, List, [], ◌∷◌, ◌++◌, map, take, drop, nat_lt, if◌then◌else◌}
use Rattle.store_files.specs.DynamicIndex.{Ended}
use Rattle.paged_indexes.specs.declared.kinds.IndexEntry.{IndexEntry}
use Rattle.paged_indexes.specs.Handing.{ended_of}
use Rattle.restore_reader.specs.declared.ranges.Part.{Part}

-- The range's bytes go from one offset up to another. Of a piece that begins at start it has one part, or nothing.
abbrev pub part_in : ℕ → ℕ → ℕ → Ended → List Part
part_in from to start e =
    if nat_lt (max from start) (min to e.end) then
    record { digest = record { 0 = e.digest }; from = max from start - start; length = min to e.end - max from start; chunk_length = e.end - start } ∷ []
    else []

-- of pieces that follow one another, the first of which begins at start
abbrev pub parts_in : ℕ → ℕ → ℕ → List Ended → List Part
parts_in from to start [] = []
parts_in from to start (e ∷ es) = part_in from to start e ++ parts_in from to e.end es

-- its bytes of content that begins at start
abbrev pub bytes_in : ℕ → ℕ → ℕ → List ℕ → List ℕ
bytes_in from to start content = take (to - max from start) (drop (from - start) content)

abbrev pub ends_of : List IndexEntry → List Ended
ends_of entries = map ended_of entries

-- behind these, what the range has of the piece of an entry
abbrev pub with_part : List Part → ℕ → ℕ → ℕ → IndexEntry → List Part
with_part parts from to start entry = parts ++ part_in from to start (ended_of entry)
