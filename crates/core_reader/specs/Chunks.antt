-- Chunks as a reader's answers have them.
use Rattle.std.specs.Prelude.{◌≡◌, ℕ, List, [], ◌∷◌, ◌++◌, length, map, ◌==◌, nat_lt, if◌then◌else◌, Option, None, Some, Result, Ok, Err, IfErr}
use Rattle.std.specs.FinMap.{get}
use Rattle.std.specs.List.{All, Contains}
use Rattle.disk_trait.specs.Files.{Files}
use Rattle.store_types.specs.declared.names.Digest32.{Digest32}
use Rattle.store_types.specs.declared.refusal.ChunkFault.{ChunkFault}
use Rattle.store_types.specs.declared.refusal.ChunkFault.TheVariants.{Nothing, NotABlob, Other}
use Rattle.store_types.specs.declared.refusal.Refusal.{Refusal}
use Rattle.store_types.specs.declared.refusal.Refusal.TheVariants.{Damaged}
use Rattle.store_types.specs.Chain.Refusing.{◌>>=◌}
use Rattle.blob_codec.specs.Blob.{blob_limit}
use Rattle.store_files.specs.Archive.{digest_of}
use Rattle.store_files.specs.Folder.{chunk_name}
use Rattle.restore_reader.specs.declared.ranges.Part.{Part}
use Rattle.restore_reader.specs.Cutting.{ArePartsOf, IsPartOf, cut}
use Rattle.wire_commands.specs.declared.reply.Reply.TheVariants.{Refused}
use Rattle.wire_commands.specs.HasText.{ReplyHasText}
use Rattle.chunk_store.specs.Pieces.{IsHeld, found_at}
use Rattle.chunk_store.specs.declared.chunk.LoadFault.{LoadFault}
use Rattle.chunk_store.specs.declared.chunk.LoadFault.TheVariants as loads
use Rattle.store_stops.specs.declared.stop.Stop.{Stop}
use Rattle.store_stops.specs.declared.stop.Stop.TheVariants as stops
use Rattle.store_stops.specs.Stops.{Gives, IfRefused}

-- ---- as they are read

-- the bytes of the chunk's file, or that it is damaged: nothing stands there, or more than a blob may have
abbrev pub bytes_in : Digest32 → Option (List ℕ) → Result (List ℕ) Refusal
bytes_in digest None = Err (Damaged digest Nothing)
bytes_in digest (Some bytes) = if nat_lt blob_limit (length bytes) then Err (Damaged digest NotABlob) else Ok bytes

abbrev pub bytes_at : Files → Digest32 → Result (List ℕ) Refusal
bytes_at files digest = bytes_in digest (get files (chunk_name digest.0))

abbrev pub GivesBytes : Files → Digest32 → Result (List ℕ) Stop → Type 0
GivesBytes files digest result = Gives (λ bytes. bytes) result (bytes_at files digest)

-- ---- as they are tested

abbrev pub or_damaged : Digest32 → Result (List ℕ) ChunkFault → Result (List ℕ) Refusal
or_damaged digest (Ok piece) = Ok piece
or_damaged digest (Err found) = Err (Damaged digest found)

-- the piece with this digest, or that it is damaged by what is found there
abbrev pub chunk_at : Files → Digest32 → Result (List ℕ) Refusal
chunk_at files digest = or_damaged digest (found_at files digest.0)

-- ---- as long as the index says

-- what is found, where it has this length; of another length it is another piece, with this digest
abbrev pub of_length : Digest32 → ℕ → Result (List ℕ) ChunkFault → Result (List ℕ) ChunkFault
of_length digest len (Ok piece) = if length piece == len then Ok piece else Err (Other digest)
of_length digest len (Err found) = Err found

-- the piece of a part's chunk, with the digest and the length that the index gives it, or what is found there
abbrev pub part_found : Files → Part → Result (List ℕ) ChunkFault
part_found files x = of_length x.digest x.chunk_length (found_at files x.digest.0)

-- or that it is damaged by that
abbrev pub part_chunk_at : Files → Part → Result (List ℕ) Refusal
part_chunk_at files x = or_damaged x.digest (part_found files x)

-- the bytes of parts of chunks, one after another
abbrev pub parts_at : Files → List Part → Result (List ℕ) Refusal
parts_at files [] = Ok []
parts_at files (x ∷ xs) = do
  piece ← part_chunk_at files x
  rest ← parts_at files xs
  Ok (cut x piece ++ rest)

-- behind bytes that were read before
abbrev pub behind : List ℕ → Result (List ℕ) Refusal → Result (List ℕ) Refusal
behind front r = r >>= λ rest. Ok (front ++ rest)

abbrev pub digests_of : List Part → List Digest32
digests_of parts = map (λ x. x.digest) parts

-- the piece is given, or its refusal
abbrev pub GivesChunk : Files → Digest32 → Result (List ℕ) Stop → Type 0
GivesChunk files digest result = Gives (λ chunk. chunk) result (chunk_at files digest)

-- a piece with this digest that stands there is given
abbrev pub GivesHeld : Files → Digest32 → Result (List ℕ) Stop → Type 0
GivesHeld files digest result =
    (p : List ℕ) → IsHeld files p → digest ≡ digest_of p → Gives (λ chunk. chunk) result (Ok p)

-- the piece of the part's chunk is given, or its refusal
abbrev pub GivesPartChunk : Files → Part → Result (List ℕ) Stop → Type 0
GivesPartChunk files x result = Gives (λ chunk. chunk) result (part_chunk_at files x)

-- the piece of which it is a part is given, where that stands there
abbrev pub GivesHeldPart : Files → Part → Result (List ℕ) Stop → Type 0
GivesHeldPart files x result = (p : List ℕ) → IsHeld files p → IsPartOf x p → Gives (λ chunk. chunk) result (Ok p)

-- these are parts of pieces that stand there
pub record HoldsParts (files : Files) (parts : List Part) : Type 0 where
  pub pieces : List (List ℕ)
  pub are : ArePartsOf parts pieces
  pub held : All (IsHeld files) pieces

-- it stops by memory or disk alone
abbrev pub IsUnrefused : {A : Type 0} → Result A Stop → Type 0
IsUnrefused result = IfErr result (IfRefused (λ refusal. ⊥))

-- the bytes of these parts are read behind those that were there, or the first refusal is told
abbrev pub ReadsParts : {A : Type 0} → Files → List Part → List ℕ → List ℕ → Result A Stop → Type 0
ReadsParts files parts old new result = Gives (λ _. new) result (behind old (parts_at files parts))

-- a chunk is not loaded
abbrev pub stop_by_load : LoadFault → Stop
stop_by_load (loads.Damaged digest found) = stops.Refused (Damaged digest found)
stop_by_load loads.Failed = stops.DiskFailed
stop_by_load loads.NoMemory = stops.NoMemory

-- it tells of the chunk with this digest
abbrev pub IsDamageOf : Digest32 → Refusal → Type 0
IsDamageOf digest refusal = (found : ChunkFault) × (refusal ≡ Damaged digest found)

-- it tells of one of these
abbrev pub IsDamageAmong : List Digest32 → Refusal → Type 0
IsDamageAmong digests refusal = (digest : Digest32) × Contains digests digest × IsDamageOf digest refusal

-- it stops by damage to the chunk with this digest, which has a spelling, or by no refusal
abbrev pub StopsAt : Digest32 → Stop → Type 0
StopsAt digest stop = IfRefused (λ refusal. IsDamageOf digest refusal × ReplyHasText (Refused refusal)) stop

-- by damage to one of these
abbrev pub StopsAmong : List Digest32 → Stop → Type 0
StopsAmong digests stop = IfRefused (λ refusal. IsDamageAmong digests refusal × ReplyHasText (Refused refusal)) stop
