-- Which pieces chunk files have.
use Rattle.std.specs.Prelude.{◌≡◌, ℕ, List, Some}
use Rattle.std.specs.List.{Contains}
use Rattle.std.specs.FinMap.{get}
use Rattle.sha2.specs.Sha256.{sha256}
use Rattle.blob_codec.specs.Blob.{blob}
use Rattle.store_files.specs.Folder.{Files, chunk_name}

-- the chunk file of the piece is there
abbrev pub HasChunk : Files → List ℕ → Type 0
HasChunk m p = get m (chunk_name (sha256 p)) ≡ Some (blob p)

-- each is one of these pieces'
abbrev pub HoldsOnly : Files → List (List ℕ) → Type 0
HoldsOnly m pieces = (p : List ℕ) → HasChunk m p → Contains pieces p
