-- The datastore's folder: which names its files have, and what stands under a chunk's.
use Rattle.std.specs.Prelude.{◌<◌, ◌≡◌, ℕ, ◌≤◌, List, ◌++◌, length, take, Some, codes}
use Rattle.std.specs.List.{All}
use Rattle.std.specs.FinMap.{FinMap, get}
use Rattle.hex.specs.Hex.{encode_lower}
use Rattle.sha2.specs.Sha256.{sha256}
use Rattle.store_types.specs.declared.names.SnapshotKey.{SnapshotKey}
use Rattle.store_types.specs.FileNames.{manifest_name}
use Rattle.store_types.specs.Names.{key_text, text_cmp}
use Rattle.blob_codec.specs.Blob as blobs

-- a disk as it reads: from names, in byte order, to bytes
abbrev pub Files : Type 0
Files = FinMap text_cmp (List ℕ)

-- `.chunks/<first four hex digits>/<64 hex digits>`
abbrev pub chunk_name : List ℕ → List ℕ
chunk_name digest = codes ".chunks/" ++ take 4 (encode_lower digest) ++ codes "/" ++ encode_lower digest

-- a snapshot's file: `<type>/<id>/<time>/<file name>`
abbrev pub file_path : SnapshotKey → List ℕ → List ℕ
file_path key name = key_text key ++ codes "/" ++ name

abbrev pub manifest_path : SnapshotKey → List ℕ
manifest_path key = file_path key manifest_name

-- a piece has 1 to 16,777,216 bytes
abbrev pub IsPiece : List ℕ → Type 0
IsPiece p = (1 ≤ length p) × (length p ≤ blobs.data_limit) × All (λ b. b < 256) p

-- 32 bytes
abbrev pub IsDigest : List ℕ → Type 0
IsDigest digest = (length digest ≡ 32) × All (λ b. b < 256) digest

-- under a chunk's name is the blob of a piece with that digest
abbrev pub HasWholeChunks : Files → Type 0
HasWholeChunks m = (digest bytes : List ℕ) → IsDigest digest → get m (chunk_name digest) ≡ Some bytes →
    (p : List ℕ) × IsPiece p × (bytes ≡ blobs.blob p) × (sha256 p ≡ digest)
