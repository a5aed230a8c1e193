-- The one spelling of each refusal: its number, and its fields.
use Rattle.std.specs.Prelude.{ℕ, List, [], ◌∷◌, ◌++◌, replicate}
use Rattle.store_types.specs.declared.refusal.SessionState.{SessionState}
use Rattle.store_types.specs.declared.refusal.SessionState.TheVariants.{Idle, Writer, Reader}
use Rattle.store_types.specs.declared.refusal.BadBlob.{BadBlob as BlobCause}
use Rattle.store_types.specs.declared.refusal.BadBlob.TheVariants as blobs
use Rattle.store_types.specs.declared.refusal.CloseFault.{CloseFault}
use Rattle.store_types.specs.declared.refusal.CloseFault.TheVariants.{Count, Size, Csum, Rest}
use Rattle.store_types.specs.declared.refusal.ChunkFault.{ChunkFault}
use Rattle.store_types.specs.declared.refusal.ChunkFault.TheVariants.{Nothing, NotABlob, Other}
use Rattle.store_types.specs.declared.refusal.Refusal.{Refusal}
use Rattle.store_types.specs.declared.refusal.Refusal.TheVariants.{BadFrame, TooLong, WrongState, BadName, GroupBusy, SnapshotBusy, NotNewer, NoSnapshot, NoFile, Exists, BadBlob, WrongDigest, WrongSize, UnknownChunk, BadOffset, BadClose, OpenIndexes, BadManifest, ManifestMismatch, NotAllowed, TooMany, BadRange, Damaged, Unreadable, CollectorBusy, DiskFault, Halted, NoMemory, NoRemote, RemoteFault}
use Rattle.wire_commands.specs.Fields.{u32, u64, text}

abbrev pub state_number : SessionState → ℕ
state_number Idle = 0
state_number Writer = 1
state_number Reader = 2

abbrev pub zeros : ℕ → List ℕ
zeros n = replicate n 0

abbrev pub blob_fault_text : BlobCause → List ℕ
blob_fault_text blobs.Short = 1 ∷ []
blob_fault_text blobs.Compressed = 2 ∷ []
blob_fault_text blobs.Encrypted = 3 ∷ []
blob_fault_text blobs.EncryptedCompressed = 4 ∷ []
blob_fault_text blobs.UnknownMagic = 5 ∷ []
blob_fault_text blobs.TooLong = 6 ∷ []
blob_fault_text (blobs.WrongCrc kept found) = 7 ∷ u32 kept ++ u32 found

-- the expected value: a number is a u64 and 24 zero bytes
abbrev pub close_fault_text : CloseFault → List ℕ
close_fault_text (Count n) = 1 ∷ u64 n ++ zeros 24
close_fault_text (Size n) = 2 ∷ u64 n ++ zeros 24
close_fault_text (Csum d) = 3 ∷ d.0
close_fault_text (Rest n) = 4 ∷ u64 n ++ zeros 24

abbrev pub chunk_fault_text : ChunkFault → List ℕ
chunk_fault_text Nothing = 0 ∷ zeros 32
chunk_fault_text NotABlob = 1 ∷ zeros 32
chunk_fault_text (Other d) = 2 ∷ d.0

unfoldable pub refusal_text : Refusal → List ℕ
refusal_text (BadFrame offset) = 1 ∷ u64 offset
refusal_text (TooLong length) = 2 ∷ u32 length
refusal_text (WrongState state) = 3 ∷ state_number state ∷ []
refusal_text BadName = 4 ∷ []
refusal_text (GroupBusy lane) = 5 ∷ u32 lane
refusal_text (SnapshotBusy lane) = 6 ∷ u32 lane
refusal_text (NotNewer latest) = 7 ∷ u64 latest
refusal_text NoSnapshot = 8 ∷ []
refusal_text NoFile = 9 ∷ []
refusal_text Exists = 10 ∷ []
refusal_text (BadBlob fault) = 11 ∷ blob_fault_text fault
refusal_text (WrongDigest found) = 12 ∷ found.0
refusal_text (WrongSize place size) = 13 ∷ u32 place ++ u64 size
refusal_text (UnknownChunk place) = 14 ∷ u32 place
refusal_text (BadOffset place expected) = 15 ∷ u32 place ++ u64 expected
refusal_text (BadClose fault) = 16 ∷ close_fault_text fault
refusal_text (OpenIndexes count) = 17 ∷ count ∷ []
refusal_text (BadManifest cause) = 18 ∷ cause ∷ []
refusal_text (ManifestMismatch file field) = 19 ∷ text file ++ field ∷ []
refusal_text NotAllowed = 20 ∷ []
refusal_text (TooMany limit) = 21 ∷ u32 limit
refusal_text (BadRange size) = 22 ∷ u64 size
refusal_text (Damaged digest fault) = 23 ∷ digest.0 ++ chunk_fault_text fault
refusal_text (Unreadable name) = 24 ∷ text name
refusal_text (CollectorBusy lane) = 25 ∷ u32 lane
refusal_text DiskFault = 26 ∷ []
refusal_text (Halted place) = 27 ∷ u64 place
refusal_text NoMemory = 28 ∷ []
refusal_text NoRemote = 29 ∷ []
refusal_text RemoteFault = 30 ∷ []
