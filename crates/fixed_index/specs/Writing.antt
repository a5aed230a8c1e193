-- A fixed index as it is written: its digests come one by one.
use Rattle.std.specs.Prelude.{◌≡◌, ℕ, ◌+◌, ◌*◌, ◌^◌, ◌<◌, ◌≤◌, FitsSigned, All, List, [], ◌∷◌, ◌++◌, map, length, replicate, min, ℤ, IsTrue}
use Rattle.std.specs.Int.{w64, to_le_bytes, cast_unsigned}
use Rattle.store_files.specs.Cells.{entry_limit}
use Rattle.store_files.specs.FixedIndex.{FixedIndex, magic, csum_of, is_chunk_size, piece_count, piece_len}
use Rattle.store_types.specs.declared.names.Digest32.{Digest32}
use Rattle.store_types.specs.declared.piece.Piece.{Piece}

-- the rest of the header
unfoldable pub reserved : List ℕ
reserved = replicate 4016 0

-- sizes that an index can have
pub record FitsSizes (size cut : ℕ) : Type 0 where
  pub chunk_size : IsTrue (is_chunk_size cut)
  pub limit : piece_count size cut ≤ entry_limit

-- no digest yet
abbrev pub begun : List ℕ → ℤ → ℕ → ℕ → FixedIndex
begun uuid ctime size chunk_size =
    record { uuid = uuid; ctime = ctime; reserved = reserved; size = size; chunk_size = chunk_size; digests = [] }

-- an index's text before the digests
abbrev pub header_text : FixedIndex → List ℕ
header_text x =
    magic ++ x.uuid ++ to_le_bytes w64 (cast_unsigned w64 x.ctime) ++ csum_of x
    ++ to_le_bytes w64 x.size ++ to_le_bytes w64 x.chunk_size ++ x.reserved

-- the digests' bytes
abbrev pub bytes_of : List Digest32 → List (List ℕ)
bytes_of digests = map (λ d. d.0) digests

-- where the pieces so far end
abbrev pub end_of : FixedIndex → ℕ
end_of x = min x.size (length x.digests * x.chunk_size)

-- The next piece is as long as the chunk size, or, as the last one, as what is left.
pub record FitsPiece (x : FixedIndex) (len : ℕ) : Type 0 where
  pub room : end_of x < x.size
  pub exact : len ≡ piece_len x.size x.chunk_size (end_of x)

abbrev pub with_digest : FixedIndex → List ℕ → FixedIndex
with_digest x digest = record x { digests = x.digests ++ digest ∷ [] }

-- ---- several pieces at once

-- their digests' bytes
abbrev pub piece_digests : List Piece → List (List ℕ)
piece_digests pieces = map (λ p. (p.digest).0) pieces

-- from an end on, each is as long as is asked where it begins
abbrev pub FitsFrom : ℕ → ℕ → ℕ → List Piece → Type 0
FitsFrom size cut end [] = Unit {0}
FitsFrom size cut end (p ∷ ps) = (end < size) × (p.length ≡ piece_len size cut end) × FitsFrom size cut (end + p.length) ps

abbrev pub FitsPieces : FixedIndex → List Piece → Type 0
FitsPieces x pieces = FitsFrom x.size x.chunk_size (end_of x) pieces

-- they all stand behind the others
abbrev pub with_pieces : FixedIndex → List Piece → FixedIndex
with_pieces x pieces = record x { digests = x.digests ++ piece_digests pieces }

-- what a writer keeps
pub record IsBegun (uuid : List ℕ) (ctime : ℤ) (size cut : ℕ) (digests : List (List ℕ)) : Type 0 where
  pub uuid_len : length uuid ≡ 16
  pub ctime_fits : FitsSigned w64 ctime
  pub size_fits : size < 2 ^ 64
  pub sizes : FitsSizes size cut
  pub count : length digests ≤ piece_count size cut
  pub digest_len : All (λ d. length d ≡ 32) digests
