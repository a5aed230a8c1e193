-- A chunk that a lane's writer notes, by what the core keeps.
use Rattle.std.specs.Prelude.{◌≡◌, ◌-◌, ℕ, List, length, None, Result, OnOk, IsErrOf}
use Rattle.disk_trait.specs.Disk.{Serves}
use Rattle.disk_trait.specs.Effects.{LeavesBy, LeavesSame, SameContent}
use Rattle.disk_trait.specs.declared.disk.Disk.{Ghosts}
use Rattle.disk_trait.specs.declared.disk.DiskError.{DiskError}
use Rattle.disk_trait.specs.declared.disk.DiskError.TheVariants.{NoMemory, Failed}
use Rattle.store_types.specs.declared.names.Digest32.{Digest32}
use Rattle.chunk_store.specs.Pieces.{Stores, with_chunk}
use Rattle.backup_session.specs.Session.{IsPool, length_at, settled}
use Rattle.backup_session.specs.Session as backups
use Rattle.backup_session.specs.Steps as rows
use Rattle.core_state.specs.declared.kept.Session.{Session}
use Rattle.core_state.specs.declared.kept.Session.TheVariants.{Idle, Writer, Reader}
use Rattle.core_state.specs.declared.kept.Writing.{Writing}

-- no file of the writer is pending, and it may not name the digest's chunk
pub record IsUnknown (digest : List ℕ) (w : Writing) : Type 0 where
  pub settled : (w.session).pending ≡ None
  pub pool : IsPool ((w.session).writer).pool
  pub unknown : length_at ((w.session).writer).pool digest ≡ None

-- the session has such a writer
abbrev pub MayNote : List ℕ → Session → Type 0
MayNote digest Idle = ⊥
MayNote digest (Writer w) = IsUnknown digest w
MayNote digest (Reader r) = ⊥

-- the writer may name the chunk
abbrev pub noted : Writing → List ℕ → ℕ → Writing
noted w digest len = record w { session = settled (rows.chunk (w.session).writer digest len) }

abbrev pub with_noted : List ℕ → ℕ → Session → Session
with_noted digest len Idle = Idle
with_noted digest len (Writer w) = Writer (noted w digest len)
with_noted digest len (Reader r) = Reader r

-- a chunk that is sent as this blob, behind whose 12 bytes of header the piece stands
abbrev pub with_blob_noted : Digest32 → List ℕ → Session → Session
with_blob_noted digest bytes session = with_noted digest.0 (length bytes - 12) session

-- a backup's writer that had noted the chunk is as it was before it did
abbrev pub ForgetsNoted : List ℕ → backups.Session → backups.Session → Type 0
ForgetsNoted digest old new =
    (before : backups.Writing) (size : ℕ) → IsPool before.pool → length_at before.pool digest ≡ None
    → old ≡ settled (rows.chunk before digest size) → new ≡ settled before

-- ---- what it leaves on the disk

-- The chunk is installed where its file isn't there. Want of memory changes nothing.
pub record PutsChunk {D : Type 0} (d : Ghosts D) (old new : D) (digest bytes : List ℕ) (result : Result (Unit {0}) DiskError) : Type 0 where
  pub serves : Serves d.honest d.faults old new (IsErrOf result Failed)
  pub crash : LeavesBy d old new (Stores digest bytes (d.content old))
  pub put : d.honest old → OnOk result (d.content new ≡ with_chunk digest bytes (d.content old))
  pub same : IsErrOf result NoMemory → SameContent d old new
  pub unmoved : IsErrOf result NoMemory → LeavesSame d old new
