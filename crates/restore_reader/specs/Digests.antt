-- Digests of pieces.
use Rattle.std.specs.Prelude.{ℕ, List, map}
use Rattle.std.specs.FinSet as set
use Rattle.std.specs.declared.cmp.Ordering.{Ordering}
use Rattle.store_types.specs.declared.names.Digest32.{Digest32}
use Rattle.store_types.specs.Names.{text_cmp}
use Rattle.store_files.specs.DynamicIndex.{Ended}

abbrev pub digest_cmp : Digest32 → Digest32 → Ordering
digest_cmp a b = text_cmp a.0 b.0

abbrev pub bytes_of : List Digest32 → List (List ℕ)
bytes_of digests = map (λ d. d.0) digests

abbrev pub digests_in : List Ended → List (List ℕ)
digests_in entries = map (λ e. e.digest) entries

-- each once, in byte order
abbrev pub distinct : List (List ℕ) → List (List ℕ)
distinct digests = set.items (set.from_list {R = text_cmp} digests)
