-- Archives and snapshots with all their bytes, and the texts of their files.
use Rattle.std.specs.Prelude.{ℕ, ◌+◌, ℤ, List, [], ◌∷◌, map, length, Option}
use Rattle.std.specs.List.{concat, find}
use Rattle.std.specs.Str.{bytes_eq}
use Rattle.sha2.specs.Sha256.{sha256}
use Rattle.store_types.specs.declared.names.Digest32.{Digest32}
use Rattle.store_types.specs.declared.names.SnapshotKey.{SnapshotKey}
use Rattle.store_files.specs.FixedIndex.{fixed_text}
use Rattle.store_files.specs.FixedIndex as fixed_index
use Rattle.store_files.specs.DynamicIndex.{Ended, dynamic_text}
use Rattle.store_files.specs.DynamicIndex as dynamic_index
use Rattle.blob_codec.specs.Blob as blobs

-- how an archive is cut
pub data Layout : Type 0 where
  -- anywhere
  dynamic : Layout
  -- at each multiple of the chunk size, up to the size
  fixed : ℕ → ℕ → Layout

pub record Archive : Type 0 where
  pub layout : Layout
  pub uuid : List ℕ
  pub ctime : ℤ
  pub reserved : List ℕ
  pub pieces : List (List ℕ)

-- what a file holds: an archive, or the data of a blob
pub data Content : Type 0 where
  archive : Archive → Content
  blob : List ℕ → Content

pub record File : Type 0 where
  pub name : List ℕ
  pub content : Content

-- the files stand in byte order of their names
pub record Snapshot : Type 0 where
  pub key : SnapshotKey
  pub files : List File

abbrev pub digest_of : List ℕ → Digest32
digest_of bytes = record { 0 = sha256 bytes }

abbrev pub content_of : Archive → List ℕ
content_of a = concat a.pieces

-- where each piece ends, behind a start
abbrev pub ends_from : ℕ → List (List ℕ) → List Ended
ends_from start [] = []
ends_from start (p ∷ ps) = record { end = start + length p; digest = sha256 p } ∷ ends_from (start + length p) ps

abbrev pub fixed_of_archive : Archive → ℕ → ℕ → fixed_index.FixedIndex
fixed_of_archive a size chunk_size = record {
  uuid = a.uuid;
  ctime = a.ctime;
  reserved = a.reserved;
  size = size;
  chunk_size = chunk_size;
  digests = map sha256 a.pieces;
}

abbrev pub dynamic_of_archive : Archive → dynamic_index.DynamicIndex
dynamic_of_archive a = record { uuid = a.uuid; ctime = a.ctime; reserved = a.reserved; entries = ends_from 0 a.pieces }

-- by the layout: the index file's text, its csum, and the archive's size
abbrev pub text_by : Layout → Archive → List ℕ
text_by dynamic a = dynamic_text (dynamic_of_archive a)
text_by (fixed size chunk_size) a = fixed_text (fixed_of_archive a size chunk_size)

abbrev pub csum_by : Layout → Archive → Digest32
csum_by dynamic a = record { 0 = dynamic_index.csum_of (dynamic_of_archive a) }
csum_by (fixed size chunk_size) a = record { 0 = fixed_index.csum_of (fixed_of_archive a size chunk_size) }

abbrev pub size_by : Layout → Archive → ℕ
size_by dynamic a = length (content_of a)
size_by (fixed size chunk_size) a = size

unfoldable pub archive_text : Archive → List ℕ
archive_text a = text_by a.layout a

unfoldable pub file_text : Content → List ℕ
file_text (archive a) = archive_text a
file_text (blob bytes) = blobs.blob bytes

-- the pieces of an archive; a blob has none
abbrev pub pieces_of : Content → List (List ℕ)
pieces_of (archive a) = a.pieces
pieces_of (blob bytes) = []

-- what a manifest lists of a file: an archive's size and csum, or a blob file's length and SHA-256
abbrev pub size_of : Content → ℕ
size_of (archive a) = size_by a.layout a
size_of (blob bytes) = length (blobs.blob bytes)

abbrev pub csum_of : Content → Digest32
csum_of (archive a) = csum_by a.layout a
csum_of (blob bytes) = digest_of (blobs.blob bytes)

-- the first piece with this digest
abbrev pub piece_with : Digest32 → List (List ℕ) → Option (List ℕ)
piece_with digest pieces = find (λ p. bytes_eq (sha256 p) digest.0) pieces

abbrev pub file_named : List ℕ → List File → Option File
file_named name files = find (λ f. bytes_eq f.name name) files
