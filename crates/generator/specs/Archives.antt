-- The archive that a snapshot's pieces make, and what an APPEND and a CLOSE_INDEX say of it.
use Rattle.std.specs.Prelude.{ℕ, ◌+◌, ◌≤◌, List, [], ◌∷◌, length, map}
use Rattle.std.specs.List.{AllByRecursion, concat, flat_map}
use Rattle.sha2.specs.Sha256.{sha256}
use Rattle.store_types.specs.declared.append.AppendEntry.{AppendEntry}
use Rattle.store_types.specs.declared.names.Digest32.{Digest32}
use Rattle.store_types.specs.declared.piece.Piece.{Piece}
use Rattle.store_files.specs.Archive.{digest_of, ends_from}
use Rattle.store_files.specs.DynamicIndex.{entry_text}
use Rattle.generator.specs.Pieces.{pieces}

-- each piece with the offset at which it begins, from a start on
abbrev pub begins_from : ℕ → List (List ℕ) → List AppendEntry
begins_from start [] = []
begins_from start (p ∷ ps) = record { digest = digest_of p; offset = start } ∷ begins_from (start + length p) ps

-- the size of the archive
abbrev pub size_of : List (List ℕ) → ℕ
size_of ps = length (concat ps)

-- the checksum of its dynamic index: the SHA-256 of the entries
abbrev pub csum_of : List (List ℕ) → Digest32
csum_of ps = record { 0 = sha256 (flat_map entry_text (ends_from 0 ps)) }

-- ---- what is kept of a piece: its digest, and its length

abbrev pub fact_of : List ℕ → Piece
fact_of p = record { digest = digest_of p; length = length p }

-- the entries of an APPEND of these pieces
abbrev pub entries_from : ℕ → List Piece → List AppendEntry
entries_from start [] = []
entries_from start (f ∷ fs) = record { digest = f.digest; offset = start } ∷ entries_from (start + f.length) fs

-- the lengths are those of pieces
abbrev pub AreLengths : List Piece → Type 0
AreLengths facts = AllByRecursion (λ f. (1 ≤ f.length) × (f.length ≤ 16_777_216)) facts

-- of the pieces of snapshot j of lane k
abbrev pub facts : ℕ → ℕ → List Piece
facts k j = map fact_of (pieces k j)
