-- What is answered has a text.
use Rattle.std.proofs.Common.{ℕ, ◌<◌, ◌≤◌, ◌^◌, length, List, arith, length-append}
use Rattle.store_types.specs.declared.refusal.Refusal.{Refusal}
use Rattle.store_types.specs.declared.refusal.Refusal.TheVariants.{BadFrame, TooLong, WrongState, BadName, GroupBusy, SnapshotBusy, NotNewer, NoSnapshot, NoFile, Exists, BadBlob, WrongDigest, WrongSize, UnknownChunk, BadOffset, BadClose, OpenIndexes, BadManifest, ManifestMismatch, NotAllowed, TooMany, BadRange, Damaged, Unreadable, CollectorBusy, DiskFault, Halted, NoMemory, NoRemote, RemoteFault}
use Rattle.store_types.specs.declared.refusal.BadBlob.{BadBlob as BlobCause}
use Rattle.store_types.specs.declared.refusal.BadBlob.TheVariants as blobs
use Rattle.store_types.specs.declared.refusal.CloseFault.{CloseFault}
use Rattle.store_types.specs.declared.refusal.CloseFault.TheVariants.{Count, Size, Csum, Rest}
use Rattle.store_types.specs.declared.refusal.ChunkFault.{ChunkFault}
use Rattle.store_types.specs.declared.refusal.ChunkFault.TheVariants.{Nothing, NotABlob, Other}
use Rattle.blob_codec.specs.Blob.{blob_limit}
use Rattle.wire_commands.specs.declared.reply.Reply.TheVariants.{Done, Base, Part, Data, Number, Collected, Refused}
use Rattle.wire_commands.specs.RefusalText.{blob_fault_text, close_fault_text, chunk_fault_text, refusal_text}
use Rattle.wire_commands.specs.ReplyText.{reply_text}
use Rattle.wire_commands.specs.HasText.{FitsCloseFault, FitsChunkFault, FitsRefusal, ReplyHasText}

-- ---- replies

pub done_spelled : ReplyHasText Done
unfolding reply_text
done_spelled = (tt, omega arith)

pub base_spelled : (text : List ℕ) → length text < 256 → ReplyHasText (Base text)
unfolding reply_text
base_spelled text h = (h, omega arith)

pub part_spelled : (total : ℕ) (bytes : List ℕ) → total < 2 ^ 64 → length bytes ≤ 4_194_304 → ReplyHasText (Part total bytes)
unfolding reply_text
part_spelled total bytes h few = (h, omega arith)

pub data_spelled : (bytes : List ℕ) → length bytes ≤ blob_limit → ReplyHasText (Data bytes)
unfolding reply_text
data_spelled bytes few = (tt, omega arith)

pub number_spelled : (n : ℕ) → n < 256 → ReplyHasText (Number n)
unfolding reply_text
number_spelled n h = (h, omega arith)

-- five numbers, as a replay has them
pub collected_spelled : ReplyHasText (Collected 0 0 0 0 0)
unfolding reply_text
collected_spelled = ((omega arith, omega arith, omega arith, omega arith, omega arith), omega arith)

blob_fault_short : (f : BlobCause) → length (blob_fault_text f) ≤ 9
blob_fault_short blobs.Short = omega arith
blob_fault_short blobs.Compressed = omega arith
blob_fault_short blobs.Encrypted = omega arith
blob_fault_short blobs.EncryptedCompressed = omega arith
blob_fault_short blobs.UnknownMagic = omega arith
blob_fault_short blobs.TooLong = omega arith
blob_fault_short (blobs.WrongCrc kept found) = omega arith

close_fault_short : (f : CloseFault) → FitsCloseFault f → length (close_fault_text f) ≤ 33
close_fault_short (Count n) h = omega arith
close_fault_short (Size n) h = omega arith
close_fault_short (Csum d) h = omega arith
close_fault_short (Rest n) h = omega arith

chunk_fault_short : (f : ChunkFault) → FitsChunkFault f → length (chunk_fault_text f) ≤ 33
chunk_fault_short Nothing h = omega arith
chunk_fault_short NotABlob h = omega arith
chunk_fault_short (Other d) h = omega arith

refusal_short : (r : Refusal) → FitsRefusal r → length (refusal_text r) ≤ 300
unfolding refusal_text
refusal_short (BadFrame offset) h = omega arith
refusal_short (TooLong len) h = omega arith
refusal_short (WrongState state) h = omega arith
refusal_short BadName h = omega arith
refusal_short (GroupBusy lane) h = omega arith
refusal_short (SnapshotBusy lane) h = omega arith
refusal_short (NotNewer latest) h = omega arith
refusal_short NoSnapshot h = omega arith
refusal_short NoFile h = omega arith
refusal_short Exists h = omega arith
refusal_short (BadBlob fault) h = omega (arith, blob_fault_short fault)
refusal_short (WrongDigest found) h = omega arith
refusal_short (WrongSize place size) h = omega arith
refusal_short (UnknownChunk place) h = omega arith
refusal_short (BadOffset place expected) h = omega arith
refusal_short (BadClose fault) h = omega (arith, close_fault_short fault h)
refusal_short (OpenIndexes count) h = omega arith
refusal_short (BadManifest cause) h = omega arith
refusal_short (ManifestMismatch file field) h = simp length-append (omega (arith, h.0))
refusal_short NotAllowed h = omega arith
refusal_short (TooMany limit) h = omega arith
refusal_short (BadRange size) h = omega arith
refusal_short (Damaged digest fault) h = simp length-append (omega (arith, h.0, chunk_fault_short fault h.1))
refusal_short (Unreadable name) h = omega arith
refusal_short (CollectorBusy lane) h = omega arith
refusal_short DiskFault h = omega arith
refusal_short (Halted place) h = omega arith
refusal_short NoMemory h = omega arith
refusal_short NoRemote h = omega arith
refusal_short RemoteFault h = omega arith

pub refusal_spelled : (r : Refusal) → FitsRefusal r → ReplyHasText (Refused r)
unfolding reply_text
refusal_spelled r h = (h, omega (arith, refusal_short r h))
