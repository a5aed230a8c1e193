-- Lengths by digest, as a finite map.
use Rattle.std.specs.Prelude.{ℕ, List, [], ◌∷◌, map, Option, None, Some, is_some, if◌then◌else◌}
use Rattle.std.specs.FinMap.{FinMap, entries, from_entries, get, insert}
use Rattle.store_types.specs.declared.names.Digest32.{Digest32}
use Rattle.store_types.specs.Names.{text_cmp}

-- from the bytes of digests
abbrev pub Lengths : Type 0
Lengths = FinMap text_cmp ℕ

abbrev pub lengths_of : List (Digest32 × ℕ) → Lengths
lengths_of entries = from_entries (map (λ e. ((e.0).0, e.1)) entries)

-- ---- several chunks, each by its digest and its length

-- a length that is there already stays
abbrev pub with_length : Lengths → List ℕ × ℕ → Lengths
with_length m k = if is_some (get m k.0) then m else insert m k.0 k.1

abbrev pub with_lengths : Lengths → List (List ℕ × ℕ) → Lengths
with_lengths m [] = m
with_lengths m (k ∷ ks) = with_lengths (with_length m k) ks

-- ---- several maps

-- a length of the first stays
abbrev pub joined : Lengths → Lengths → Lengths
joined m n = with_lengths m (entries n)

abbrev pub joined_all : Lengths → List Lengths → Lengths
joined_all m [] = m
joined_all m (n ∷ ns) = joined_all (joined m n) ns

abbrev pub first_of : Option ℕ → Option ℕ → Option ℕ
first_of None o = o
first_of (Some x) o = Some x

-- in the first of these that has it
abbrev pub found_in : List ℕ → List Lengths → Option ℕ
found_in digest [] = None
found_in digest (m ∷ ms) = first_of (get m digest) (found_in digest ms)
