-- A dynamic index as it is written: its pieces come one by one.
use Rattle.std.specs.Prelude.{ℕ, ◌≡◌, ◌+◌, ◌<◌, ◌≤◌, FitsSigned, All, List, [], ◌∷◌, ◌++◌, length, replicate, ℤ, IsTrue}
use Rattle.std.specs.List.{AllByRecursion}
use Rattle.std.specs.Int.{w64, to_le_bytes, cast_unsigned}
use Rattle.store_files.specs.Cells.{entry_limit}
use Rattle.store_files.specs.DynamicIndex.{DynamicIndex, Ended, magic, csum_of, steps_fit}
use Rattle.store_types.specs.declared.piece.Piece.{Piece}
use Rattle.dynamic_index.specs.Pieces.{size_of}

-- the rest of the header
unfoldable pub reserved : List ℕ
reserved = replicate 4032 0

-- no piece yet
abbrev pub begun : List ℕ → ℤ → DynamicIndex
begun uuid ctime = record { uuid = uuid; ctime = ctime; reserved = reserved; entries = [] }

-- an index's text before the entries
abbrev pub header_text : DynamicIndex → List ℕ
header_text x = magic ++ x.uuid ++ to_le_bytes w64 (cast_unsigned w64 x.ctime) ++ csum_of x ++ x.reserved

-- each digest has 32 bytes
abbrev pub HaveDigests : List Ended → Type 0
HaveDigests entries = All (λ e. length e.digest ≡ 32) entries

-- there is room for a piece of this length
pub record FitsPiece (x : DynamicIndex) (len : ℕ) : Type 0 where
  pub room : length x.entries < entry_limit
  pub not_empty : 1 ≤ len
  pub limit : len ≤ 16_777_216

-- a piece of this length behind the others
abbrev pub with_piece : DynamicIndex → List ℕ → ℕ → DynamicIndex
with_piece x digest len = record x { entries = x.entries ++ record { end = size_of x + len; digest = digest } ∷ [] }

-- ---- several pieces at once

-- where each of them ends, behind a start
abbrev pub ends_behind : ℕ → List Piece → List Ended
ends_behind start [] = []
ends_behind start (p ∷ ps) = record { end = start + p.length; digest = (p.digest).0 } ∷ ends_behind (start + p.length) ps

-- there is room for them all
pub record FitsPieces (x : DynamicIndex) (pieces : List Piece) : Type 0 where
  pub room : length x.entries + length pieces ≤ entry_limit
  pub lengths : AllByRecursion (λ p. (1 ≤ p.length) × (p.length ≤ 16_777_216)) pieces

-- they all stand behind the others
abbrev pub with_pieces : DynamicIndex → List Piece → DynamicIndex
with_pieces x pieces = record x { entries = x.entries ++ ends_behind (size_of x) pieces }

-- what a writer keeps
pub record IsBegun (uuid : List ℕ) (ctime : ℤ) (entries : List Ended) : Type 0 where
  pub uuid_len : length uuid ≡ 16
  pub ctime_fits : FitsSigned w64 ctime
  pub steps : IsTrue (steps_fit 0 entries)
  pub limit : length entries ≤ entry_limit
  pub digest_len : HaveDigests entries
