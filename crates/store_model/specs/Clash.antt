-- Pieces by their digests: what stands at a digest is one piece.
use Rattle.std.specs.Prelude.{ℕ, ◌≡◌, Bool, ◌&&◌, List, length, nat_le, Option, Some, None, if◌then◌else◌, drop}
use Rattle.std.specs.List.{Contains, filter_map}
use Rattle.std.specs.Str.{bytes_eq}
use Rattle.std.specs.FinMap.{entries}
use Rattle.sha2.specs.Sha256.{sha256}
use Rattle.blob_codec.specs.Blob.{blob, data_limit}
use Rattle.store_files.specs.Folder.{Files, chunk_name}

-- no two unequal pieces have one digest
abbrev pub NoClash : List (List ℕ) → Type 0
NoClash pieces = (p q : List ℕ) → Contains pieces p → Contains pieces q → sha256 p ≡ sha256 q → p ≡ q

-- the bytes are the piece's blob, and the name is that of the piece's digest
abbrev pub is_chunk : List ℕ → List ℕ × List ℕ → Bool
is_chunk piece file = nat_le (length piece) data_limit && bytes_eq file.1 (blob piece) && bytes_eq file.0 (chunk_name (sha256 piece))

-- the piece of a chunk's file: what stands behind a blob's 12 first bytes
abbrev pub chunk_piece : List ℕ × List ℕ → Option (List ℕ)
chunk_piece file = if is_chunk (drop 12 file.1) file then Some (drop 12 file.1) else None

-- the pieces of the chunk files among these
abbrev pub chunk_pieces : Files → List (List ℕ)
chunk_pieces m = filter_map chunk_piece (entries m)
