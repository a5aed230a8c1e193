-- The map from digests to pieces that files stand for.
use Rattle.std.specs.Prelude.{◌≡◌, ◌⊎◌, ℕ, List, length, ◌&&◌, nat_le, if◌then◌else◌, Option, Some, None, Result, Ok, Err, is_some, IsSome, IsOk, OnOk, MatchResult}
use Rattle.std.specs.Result.{result_ok}
use Rattle.std.specs.Str.{bytes_eq}
use Rattle.std.specs.FinMap.{get}
use Rattle.sha2.specs.Sha256.{sha256}
use Rattle.disk_trait.specs.Files.{Files}
use Rattle.disk_trait.specs.Disk.{Steps, Same}
use Rattle.disk_trait.specs.Effects.{StepsOn}
use Rattle.disk_trait.specs.declared.disk.Disk.{Ghosts}
use Rattle.file_install.specs.Install.{installed, Installs}
use Rattle.store_types.specs.declared.refusal.BadBlob.{BadBlob}
use Rattle.store_types.specs.declared.refusal.ChunkFault.{ChunkFault}
use Rattle.store_types.specs.declared.refusal.ChunkFault.TheVariants.{Nothing, NotABlob, Other}
use Rattle.blob_codec.specs.Blob.{blob, data_of}
use Rattle.store_files.specs.Archive.{digest_of}
use Rattle.store_files.specs.Folder.{HasWholeChunks, IsPiece, IsDigest, chunk_name}

-- the bytes are the blob of a piece with this digest
abbrev pub IsChunk : List ℕ → List ℕ → Type 0
IsChunk digest bytes = (p : List ℕ) × IsPiece p × (bytes ≡ blob p) × (sha256 p ≡ digest)

-- ---- what stands under a digest

-- the data of a blob, where they are a piece with this digest, and else their own digest
abbrev pub checked : List ℕ → List ℕ → Result (List ℕ) ChunkFault
checked digest p = if nat_le 1 (length p) && bytes_eq (sha256 p) digest then Ok p else Err (Other (digest_of p))

-- the answer is whether these data are a piece with this digest
abbrev pub TellsChecked : {A : Type 0} → List ℕ → List ℕ → Result A ChunkFault → Type 0
TellsChecked digest p result = MatchResult result (λ _. checked digest p ≡ Ok p) (λ fault. checked digest p ≡ Err fault)

abbrev pub by_data : List ℕ → Result (List ℕ) BadBlob → Result (List ℕ) ChunkFault
by_data digest (Ok p) = checked digest p
by_data digest (Err cause) = Err NotABlob

-- the piece that a file's bytes hold, or why they hold none with this digest
abbrev pub piece_in : List ℕ → List ℕ → Result (List ℕ) ChunkFault
piece_in digest bytes = by_data digest (data_of bytes)

-- the answer is that piece, or why there is none
abbrev pub TellsPiece : List ℕ → List ℕ → Result (List ℕ) ChunkFault → Type 0
TellsPiece digest bytes result = MatchResult result (λ chunk. piece_in digest bytes ≡ Ok chunk) (λ fault. piece_in digest bytes ≡ Err fault)

-- the answer is whether they hold one
abbrev pub TestsPiece : {A : Type 0} → List ℕ → List ℕ → Result A ChunkFault → Type 0
TestsPiece digest bytes result = MatchResult result (λ _. IsOk (piece_in digest bytes)) (λ fault. piece_in digest bytes ≡ Err fault)

-- of the blob of a piece with the digest, the answer is the piece
abbrev pub TakesBlob : {E : Type 0} → List ℕ → List ℕ → Result (List ℕ) E → Type 0
TakesBlob digest bytes result = (p : List ℕ) → bytes ≡ blob p → IsPiece p → sha256 p ≡ digest → MatchResult result (λ chunk. chunk ≡ p) (λ _. ⊥)

abbrev pub found_in : List ℕ → Option (List ℕ) → Result (List ℕ) ChunkFault
found_in digest None = Err Nothing
found_in digest (Some bytes) = piece_in digest bytes

-- the piece with this digest, or the first cause for which there is none
abbrev pub found_at : Files → List ℕ → Result (List ℕ) ChunkFault
found_at files digest = found_in digest (get files (chunk_name digest))

-- the map from digests to pieces
unfoldable pub piece_at : Files → List ℕ → Option (List ℕ)
piece_at files digest = result_ok (found_at files digest)

-- the piece's blob stands under its digest
abbrev pub IsHeld : Files → List ℕ → Type 0
IsHeld files p = (get files (chunk_name (sha256 p)) ≡ Some (blob p)) × IsPiece p

-- ---- what changes it

-- a file that is there stays, whatever it holds
abbrev pub with_chunk : List ℕ → List ℕ → Files → Files
with_chunk digest bytes files = if is_some (get files (chunk_name digest)) then files else installed files (chunk_name digest) bytes

-- nothing stands under the digest, or this piece
abbrev pub IsFree : List ℕ → List ℕ → Files → Type 0
IsFree digest p files = (get files (chunk_name digest) ≡ None) ⊎ (piece_at files digest ≡ Some p)

-- the map has this piece under the digest, and is else as it was
abbrev pub AddsPiece : List ℕ → List ℕ → Files → Files → Type 0
AddsPiece digest p old new = (d : List ℕ) → IsDigest d → piece_at new d ≡ (if bytes_eq d digest then Some p else piece_at old d)

-- the map has nothing under the digest, and is else as it was
abbrev pub TakesPiece : List ℕ → Files → Files → Type 0
TakesPiece digest old new = (d : List ℕ) → IsDigest d → piece_at new d ≡ (if bytes_eq d digest then None else piece_at old d)

-- what a crash leaves of a chunk that is installed, on a disk that read so: where nothing stood there, nothing or the whole chunk
abbrev pub Stores : List ℕ → List ℕ → Files → Files → Files → Type 0
Stores digest bytes read old new = (new ≡ old) ⊎ ((get read (chunk_name digest) ≡ None) × Installs read (chunk_name digest) bytes old new)

-- ---- what changes it on a disk

-- a crash leaves of it what it leaves of a chunk that is installed
abbrev pub StepsStore : {D : Type 0} → Ghosts D → D → D → List ℕ → List ℕ → Type 0
StepsStore d old new digest bytes = StepsOn d old new (Stores digest bytes (d.content old))

-- after Ok a file is there
abbrev pub OkStores : {D A E : Type 0} → Ghosts D → D → D → List ℕ → List ℕ → Result A E → Type 0
OkStores d old new digest bytes result = d.honest old → OnOk result (d.content new ≡ with_chunk digest bytes (d.content old))

-- where a file is there, nothing is changed
abbrev pub KeepsPresent : {D : Type 0} → Ghosts D → D → D → List ℕ → Type 0
KeepsPresent d old new digest = d.honest old → IsSome (get (d.content old) (chunk_name digest)) → (d.content new ≡ d.content old) × Steps d.calls d.images old new Same

-- after Ok the map has the piece, where nothing else stood there
abbrev pub OkAdds : {D A E : Type 0} → Ghosts D → D → D → List ℕ → List ℕ → Result A E → Type 0
OkAdds d old new digest p result = d.honest old → OnOk result (IsFree digest p (d.content old) → AddsPiece digest p (d.content old) (d.content new))

-- after Ok the map has the piece with this blob, where nothing else stood there
abbrev pub OkAddsBlob : {D A E : Type 0} → Ghosts D → D → D → List ℕ → List ℕ → Result A E → Type 0
OkAddsBlob d old new digest bytes result = d.honest old → OnOk result ((p : List ℕ) → bytes ≡ blob p → IsFree digest p (d.content old) → AddsPiece digest p (d.content old) (d.content new))

-- after Ok the map has nothing under the digest
abbrev pub OkTakes : {D A E : Type 0} → Ghosts D → D → D → List ℕ → Result A E → Type 0
OkTakes d old new digest result = d.honest old → OnOk result (TakesPiece digest (d.content old) (d.content new))

-- after Ok all chunks are whole, where they were before
abbrev pub OkKeepsWhole : {D A E : Type 0} → Ghosts D → D → D → Result A E → Type 0
OkKeepsWhole d old new result = d.honest old → OnOk result (HasWholeChunks (d.content old) → HasWholeChunks (d.content new))
