-- The refusal that a body spells.
use Rattle.std.specs.Prelude.{ℕ, Bool, not, ◌&&◌, List, length, ◌==◌, nat_le, if◌then◌else◌, Option, Some, None}
use Rattle.std.specs.Int.{w32, w64}
use Rattle.std.specs.List.{list_all}
use Rattle.store_types.specs.declared.refusal.SessionState.{SessionState}
use Rattle.store_types.specs.declared.refusal.SessionState.TheVariants.{Idle, Writer, Reader}
use Rattle.store_types.specs.declared.refusal.BadBlob.{BadBlob as BlobCause}
use Rattle.store_types.specs.declared.refusal.BadBlob.TheVariants as blobs
use Rattle.store_types.specs.declared.refusal.CloseFault.{CloseFault}
use Rattle.store_types.specs.declared.refusal.CloseFault.TheVariants.{Count, Size, Csum, Rest}
use Rattle.store_types.specs.declared.refusal.ChunkFault.{ChunkFault}
use Rattle.store_types.specs.declared.refusal.ChunkFault.TheVariants.{Nothing, NotABlob, Other}
use Rattle.store_types.specs.declared.refusal.Refusal.{Refusal}
use Rattle.store_types.specs.declared.refusal.Refusal.TheVariants.{BadFrame, TooLong, WrongState, BadName, GroupBusy, SnapshotBusy, NotNewer, NoSnapshot, NoFile, Exists, BadBlob, WrongDigest, WrongSize, UnknownChunk, BadOffset, BadClose, OpenIndexes, BadManifest, ManifestMismatch, NotAllowed, TooMany, BadRange, Damaged, Unreadable, CollectorBusy, DiskFault, Halted, NoMemory, NoRemote, RemoteFault}
use Rattle.store_types.specs.Chain.Reading.{◌>>=◌, only_if}
use Rattle.wire_commands.specs.Fields.{Read, whole, byte_at, bytes_at, number_at, digest_at, text_at}

abbrev pub RefusalReader : Type 0
RefusalReader = List ℕ → Option Refusal

unfoldable pub alone : Refusal → RefusalReader
alone r bytes = if length bytes == 0 then Some r else None

-- one field
unfoldable pub one : {A : Type 0} → (List ℕ → Read A) → (A → Refusal) → RefusalReader
one read make bytes = do
  x ← whole (read bytes)
  Some (make x)

-- two fields
unfoldable pub two : {A B : Type 0} → (List ℕ → Read A) → (List ℕ → Read B) → (A → B → Refusal) → RefusalReader
two read_first read_second make bytes = do
  x ← read_first bytes
  y ← whole (read_second x.1)
  Some (make x.0 y)

abbrev pub state_from : ℕ → Option SessionState
state_from n =
    if n == 0 then Some Idle else
    if n == 1 then Some Writer else
    if n == 2 then Some Reader else
    None

abbrev pub state_at : List ℕ → Read SessionState
state_at bytes = do
  n ← byte_at bytes
  state ← state_from n.0
  Some (state, n.1)

abbrev pub crcs_at : List ℕ → Read BlobCause
crcs_at bytes = do
  kept ← number_at w32 bytes
  found ← number_at w32 kept.1
  Some (blobs.WrongCrc kept.0 found.0, found.1)

abbrev pub blob_fault_from : ℕ → List ℕ → Read BlobCause
blob_fault_from n rest =
    if n == 1 then Some (blobs.Short, rest) else
    if n == 2 then Some (blobs.Compressed, rest) else
    if n == 3 then Some (blobs.Encrypted, rest) else
    if n == 4 then Some (blobs.EncryptedCompressed, rest) else
    if n == 5 then Some (blobs.UnknownMagic, rest) else
    if n == 6 then Some (blobs.TooLong, rest) else
    if n == 7 then crcs_at rest else
    None

abbrev pub blob_fault_at : List ℕ → Read BlobCause
blob_fault_at bytes = do
  n ← byte_at bytes
  blob_fault_from n.0 n.1

-- so many zero bytes
abbrev pub zeros_at : ℕ → List ℕ → Read (Unit {0})
zeros_at n bytes = do
  z ← bytes_at n bytes
  _ ← only_if (list_all (λ b. b == 0) z.0)
  Some (tt, z.1)

-- a number as a u64 and 24 zero bytes
abbrev pub wide_at : List ℕ → Read ℕ
wide_at bytes = do
  n ← number_at w64 bytes
  z ← zeros_at 24 n.1
  Some (n.0, z.1)

abbrev pub made : {A B : Type 0} → (A → B) → Read A → Read B
made make None = None
made make (Some found) = Some (make found.0, found.1)

abbrev pub close_fault_from : ℕ → List ℕ → Read CloseFault
close_fault_from n rest =
    if n == 1 then made Count (wide_at rest) else
    if n == 2 then made Size (wide_at rest) else
    if n == 3 then made Csum (digest_at rest) else
    if n == 4 then made Rest (wide_at rest) else
    None

abbrev pub close_fault_at : List ℕ → Read CloseFault
close_fault_at bytes = do
  n ← byte_at bytes
  close_fault_from n.0 n.1

abbrev pub chunk_fault_from : ℕ → List ℕ → Read ChunkFault
chunk_fault_from n rest =
    if n == 0 then made (λ _. Nothing) (zeros_at 32 rest) else
    if n == 1 then made (λ _. NotABlob) (zeros_at 32 rest) else
    if n == 2 then made Other (digest_at rest) else
    None

abbrev pub chunk_fault_at : List ℕ → Read ChunkFault
chunk_fault_at bytes = do
  n ← byte_at bytes
  chunk_fault_from n.0 n.1

-- a number from 1 to the greatest
abbrev pub small_at : ℕ → List ℕ → Read ℕ
small_at greatest bytes = do
  n ← byte_at bytes
  _ ← only_if (nat_le 1 n.0 && nat_le n.0 greatest)
  Some n

-- the cause of a bad manifest
abbrev pub cause_at : List ℕ → Read ℕ
cause_at bytes = small_at 5 bytes

-- Just the fields 1 to 3, which are the key's, name no file.
abbrev pub names_no_file : ℕ → Bool
names_no_file field = nat_le field 3

unfoldable pub mismatch_in : List ℕ → Option Refusal
mismatch_in bytes = do
  file ← text_at bytes
  field ← whole (small_at 7 file.1)
  _ ← only_if (if names_no_file field then length file.0 == 0 else not (length file.0 == 0))
  Some (ManifestMismatch file.0 field)

-- what the fields of a refusal's number make
unfoldable pub refusal_from : ℕ → RefusalReader
refusal_from n bytes =
    if n == 1 then one (number_at w64) BadFrame bytes else
    if n == 2 then one (number_at w32) TooLong bytes else
    if n == 3 then one state_at WrongState bytes else
    if n == 4 then alone BadName bytes else
    if n == 5 then one (number_at w32) GroupBusy bytes else
    if n == 6 then one (number_at w32) SnapshotBusy bytes else
    if n == 7 then one (number_at w64) NotNewer bytes else
    if n == 8 then alone NoSnapshot bytes else
    if n == 9 then alone NoFile bytes else
    if n == 10 then alone Exists bytes else
    if n == 11 then one blob_fault_at BadBlob bytes else
    if n == 12 then one digest_at WrongDigest bytes else
    if n == 13 then two (number_at w32) (number_at w64) WrongSize bytes else
    if n == 14 then one (number_at w32) UnknownChunk bytes else
    if n == 15 then two (number_at w32) (number_at w64) BadOffset bytes else
    if n == 16 then one close_fault_at BadClose bytes else
    if n == 17 then one byte_at OpenIndexes bytes else
    if n == 18 then one cause_at BadManifest bytes else
    if n == 19 then mismatch_in bytes else
    if n == 20 then alone NotAllowed bytes else
    if n == 21 then one (number_at w32) TooMany bytes else
    if n == 22 then one (number_at w64) BadRange bytes else
    if n == 23 then two digest_at chunk_fault_at Damaged bytes else
    if n == 24 then one text_at Unreadable bytes else
    if n == 25 then one (number_at w32) CollectorBusy bytes else
    if n == 26 then alone DiskFault bytes else
    if n == 27 then one (number_at w64) Halted bytes else
    if n == 28 then alone NoMemory bytes else
    if n == 29 then alone NoRemote bytes else
    if n == 30 then alone RemoteFault bytes else
    None
