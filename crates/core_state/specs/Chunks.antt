-- Chunk files and pieces: when an act may put a chunk, and which pieces chunk files may have.
use Rattle.disk_trait.specs.declared.disk.Disk.{Ghosts}
use Rattle.std.specs.Prelude.{◌≡◌, ◌⊎◌, ℕ, List, Some, IfSome, Result, Ok, Err}
use Rattle.std.specs.List.{Contains}
use Rattle.std.specs.FinMap.{get}
use Rattle.store_types.specs.declared.names.Digest32.{Digest32}
use Rattle.store_types.specs.declared.refusal.Refusal.{Refusal}
use Rattle.blob_codec.specs.Blob.{blob}
use Rattle.disk_trait.specs.Files.{Files}
use Rattle.disk_trait.specs.declared.disk.DiskError.{DiskError}
use Rattle.disk_trait.specs.declared.disk.DiskError.TheVariants.{NoMemory, Failed}
use Rattle.wire_commands.specs.declared.reply.Reply.{Reply}
use Rattle.store_model.specs.Store.{Store}
use Rattle.store_files.specs.Folder.{chunk_name}
use Rattle.store_history.specs.declared.act.Act.{Act}
use Rattle.store_history.specs.Acts.{sent_chunk}
use Rattle.store_history.specs.History.{data_in, sent_by}
use Rattle.core_state.specs.declared.parts.Parts.{Parts}
use Rattle.core_state.specs.Holds.{Holds}
use Rattle.store_history.specs.ChunkFiles.{HasChunk}

-- ---- putting a chunk

-- what stands at the digest's name, if anything, is the piece's blob
abbrev pub MayStand : Files → Digest32 → Result (List ℕ) Refusal → Type 0
MayStand m digest (Ok p) = (found : List ℕ) → get m (chunk_name digest.0) ≡ Some found → found ≡ blob p
MayStand m digest (Err refusal) = Unit {0}

-- no other piece's chunk stands where the act puts one
abbrev pub IsSafe : Files → Act → Type 0
IsSafe m act = IfSome (sent_chunk act) (λ c. MayStand m c.0 (data_in c.1))

-- ---- which chunk files there are

-- each was there before, or is of the piece that the act sent
abbrev pub AddsChunks : Files → Files → Act → Type 0
AddsChunks m n act = (p : List ℕ) → HasChunk n p → HasChunk m p ⊎ Contains (sent_by act) p

-- after a fault of the disk nothing is said
abbrev pub AddsUnless : Files → Files → Act → Result Reply DiskError → Type 0
AddsUnless m n act (Ok reply) = AddsChunks m n act
AddsUnless m n act (Err NoMemory) = AddsChunks m n act
AddsUnless m n act (Err Failed) = Unit {0}

-- for every store that the parts stood for
abbrev pub Adds : {D : Type 0} → Ghosts D → Parts D → Parts D → Act → Result Reply DiskError → Type 0
Adds d old new act result =
    (s : Store) → Holds d old s → AddsUnless (d.content old.disk) (d.content new.disk) act result
