-- An open index, by its layout.
use Rattle.std.specs.Prelude.{◌≡◌, ℕ, List, length}
use Rattle.store_types.specs.declared.names.Digest32.{Digest32}
use Rattle.store_types.specs.declared.piece.Piece.{Piece}
use Rattle.store_files.specs.Archive.{dynamic, fixed, Archive, dynamic_of_archive, fixed_of_archive}
use Rattle.store_files.specs.Archive as archives
use Rattle.store_files.specs.DynamicIndex as dynamic_files
use Rattle.store_files.specs.FixedIndex as fixed_files
use Rattle.dynamic_index.specs.Pieces as dynamic_pieces
use Rattle.dynamic_index.specs.Writing as dynamic_indexes
use Rattle.fixed_index.specs.Writing as fixed_indexes
use Rattle.backup_session.specs.declared.index.Layout.{Layout}
use Rattle.backup_session.specs.declared.index.Layout.TheVariants as layouts
use Rattle.backup_session.specs.declared.index.OpenIndex.{OpenIndex}
use Rattle.backup_session.specs.declared.index.OpenIndex.TheVariants.{Dynamic, Fixed}

abbrev pub layout_view : Layout → archives.Layout
layout_view layouts.Dynamic = dynamic
layout_view (layouts.Fixed size chunk_size) = fixed size chunk_size

abbrev pub layout_of : OpenIndex → archives.Layout
layout_of (Dynamic x) = dynamic
layout_of (Fixed x) = fixed x.size x.chunk_size

-- how many pieces there are, and where they end
abbrev pub count_of : OpenIndex → ℕ
count_of (Dynamic x) = length x.entries
count_of (Fixed x) = length x.digests

abbrev pub end_of : OpenIndex → ℕ
end_of (Dynamic x) = dynamic_pieces.size_of x
end_of (Fixed x) = fixed_indexes.end_of x

-- the archive's size, the csum and the text of the file that it becomes
abbrev pub size_of : OpenIndex → ℕ
size_of (Dynamic x) = dynamic_pieces.size_of x
size_of (Fixed x) = x.size

abbrev pub csum_of : OpenIndex → Digest32
csum_of (Dynamic x) = record { 0 = dynamic_files.csum_of x }
csum_of (Fixed x) = record { 0 = fixed_files.csum_of x }

abbrev pub text_of : OpenIndex → List ℕ
text_of (Dynamic x) = dynamic_files.dynamic_text x
text_of (Fixed x) = fixed_files.fixed_text x

-- ---- several pieces at once

abbrev pub with_pieces : List Piece → OpenIndex → OpenIndex
with_pieces pieces (Dynamic x) = Dynamic (dynamic_indexes.with_pieces x pieces)
with_pieces pieces (Fixed x) = Fixed (fixed_indexes.with_pieces x pieces)

-- there is room for them
abbrev pub FitsPieces : OpenIndex → List Piece → Type 0
FitsPieces (Dynamic x) pieces = dynamic_indexes.FitsPieces x pieces
FitsPieces (Fixed x) pieces = fixed_indexes.FitsPieces x pieces

-- the pieces of a fixed archive reach its size
abbrev pub IsFull : OpenIndex → Type 0
IsFull (Dynamic x) = Unit {0}
IsFull (Fixed x) = fixed_indexes.end_of x ≡ x.size

-- ---- the index of an archive

abbrev pub index_by : archives.Layout → Archive → OpenIndex
index_by dynamic a = Dynamic (dynamic_of_archive a)
index_by (fixed size chunk_size) a = Fixed (fixed_of_archive a size chunk_size)
