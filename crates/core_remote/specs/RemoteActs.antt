-- The acts that read the remote.
use Rattle.std.specs.Prelude.{◌≡◌, ◌≤◌, ◌⊎◌, ℕ, Bool, List, length, map, take, Option, Some, is_some, IsSome, IfSome, IfOk, IsErrOf, Result, Ok, Err}
use Rattle.disk_trait.specs.Disk.{Rose}
use Rattle.disk_trait.specs.Files.{Files}
use Rattle.disk_trait.specs.declared.disk.Disk.{Ghosts}
use Rattle.store_types.specs.declared.names.Digest32.{Digest32}
use Rattle.store_types.specs.declared.names.SnapshotKey.{SnapshotKey}
use Rattle.store_types.specs.declared.refusal.ChunkFault.{ChunkFault}
use Rattle.store_types.specs.declared.refusal.Refusal.{Refusal}
use Rattle.store_types.specs.declared.refusal.Refusal.TheVariants.{Damaged, NoRemote}
use Rattle.store_types.specs.Chain.Refusing.{◌>>=◌, unless}
use Rattle.store_types.specs.Names.{group_of, key_of, key_text}
use Rattle.store_types.specs.declared.order.TheConstants.{COMMAND_KIND, PART_KIND, REMOTE_FAULT_KIND}
use Rattle.blob_codec.specs.Blob.{blob}
use Rattle.store_files.specs.Folder.{file_path}
use Rattle.wire_commands.specs.declared.command.Command.TheVariants.{Sync}
use Rattle.wire_commands.specs.declared.reply.Reply.{Reply}
use Rattle.wire_commands.specs.declared.reply.Reply.TheVariants.{Data, Keys, Refused}
use Rattle.store_model.specs.Stands.{group_limit}
use Rattle.chunk_store.specs.Pieces.{IsChunk, found_at}
use Rattle.snapshot_files.specs.Grouped.{GroupKeys}
use Rattle.snapshot_files.specs.Parts.{part_at}
use Rattle.store_history.specs.declared.act.Act.{Act}
use Rattle.store_history.specs.declared.act.Act.TheVariants.{RemoteChunk, RemoteFile, RemoteList}
use Rattle.store_history.specs.declared.act.Answer.{Answer}
use Rattle.core_state.specs.declared.parts.Parts.{Parts}
use Rattle.core_state.specs.declared.state.Core.{Core}
use Rattle.store_stops.specs.declared.stop.Stop.{Stop}
use Rattle.store_stops.specs.declared.stop.Stop.TheVariants as stops
use Rattle.core_state.specs.Heads.{idle_group}
use Rattle.core_state.specs.Kept.{KeptAt, kept_at}
use Rattle.store_history.specs.RemoteDisk.{faults_of}
use Rattle.store_history.specs.Replies.{reply_told}

-- ---- what refuses it

-- of a SYNC's first read also what its head refuses
abbrev pub read_told : Act → Bool → KeptAt → Result (Unit {0}) Refusal
read_told (RemoteList (Sync group)) has_remote k = idle_group group k >>= λ _. unless NoRemote has_remote
read_told act has_remote k = unless NoRemote has_remote

-- it is read exactly where nothing refuses it, or memory is wanting
abbrev pub EndsBy : Result (Unit {0}) Refusal → Result Reply Stop → Type 0
EndsBy told (Ok reply) = told ≡ Ok tt
EndsBy told (Err (stops.Refused refusal)) = told ≡ Err refusal
EndsBy told (Err stops.NoMemory) = Unit {0}
EndsBy told (Err stops.DiskFailed) = told ≡ Ok tt

abbrev pub TellsEnd : {D E : Type 0} → Parts D → Option E → ℕ → Act → Result Reply Stop → Type 0
TellsEnd parts remote lane act result = EndsBy (read_told act (is_some remote) (kept_at parts lane)) result

-- the remote is not called where something refuses the read
abbrev pub UnreadWhere : {D E : Type 0} → Parts D → Option E → Option E → ℕ → Act → Type 0
UnreadWhere parts old new lane act =
    (refusal : Refusal) → read_told act (is_some old) (kept_at parts lane) ≡ Err refusal → new ≡ old

-- the group, or the snapshot, that it names
abbrev pub HasName : Act → Type 0
HasName (RemoteList (Sync group)) = IsSome (group_of group)
HasName (RemoteFile snapshot name offset) = IsSome (key_of snapshot)
HasName act = Unit {0}

-- the bytes that are given of a chunk are the blob of a piece with its digest
abbrev pub IsTested : Act → Reply → Type 0
IsTested (RemoteChunk digest) (Data bytes) = IsChunk digest.0 bytes
IsTested act reply = Unit {0}

-- On any remote: a read is made exactly where nothing refuses it, and else this is the refusal. The remote is not called where
-- something refuses the read, nor after the disk failed. What is given of a chunk is the blob of a piece with its digest.
pub record RemoteTells {D E C : Type 0} (old new : Core D E C) (lane : ℕ) (act : Act) (answer : Answer) : Type 0 where
  pub refused : (answer.entry).kind ≡ COMMAND_KIND
      → (refusal : Refusal) × (answer.reply ≡ Some (Refused refusal)) × (read_told act (is_some old.remote) (kept_at old.parts lane) ≡ Err refusal)
  pub reads : ((answer.entry).kind ≡ PART_KIND) ⊎ ((answer.entry).kind ≡ REMOTE_FAULT_KIND) → read_told act (is_some old.remote) (kept_at old.parts lane) ≡ Ok tt
  pub unread : UnreadWhere old.parts old.remote new.remote lane act
  pub halted : IfSome old.fault (λ _. new.remote ≡ old.remote)
  pub tested : (answer.entry).kind ≡ PART_KIND → IfSome answer.reply (IsTested act)

-- ---- what it gives

-- a snapshot's text
abbrev pub IsShort : List ℕ → Type 0
IsShort text = length text ≤ 90

-- as a reply to GROUP has them
abbrev pub texts_of : List SnapshotKey → List (List ℕ)
texts_of keys = map key_text (take group_limit keys)

abbrev pub blob_told : Digest32 → Result (List ℕ) ChunkFault → Reply
blob_told digest (Ok piece) = Data (blob piece)
blob_told digest (Err fault) = Refused (Damaged digest fault)

-- of these files: the group's snapshots whose manifest is there; a part of the file, which is unreadable where nothing is there; and the
-- chunk's blob, which is damaged where it is none
abbrev pub GivesFrom : Files → Act → Reply → Type 0
GivesFrom files (RemoteList (Sync group)) reply =
    IfSome (group_of group) (λ g. (keys : List SnapshotKey) × GroupKeys files g keys × (reply ≡ Keys (texts_of keys)))
GivesFrom files (RemoteFile snapshot name offset) reply = IfSome (key_of snapshot) (λ key. reply ≡ reply_told (part_at files (file_path key name) offset))
GivesFrom files (RemoteChunk digest) reply = reply ≡ blob_told digest (found_at files digest.0)
GivesFrom files act reply = Unit {0}

-- those of an honest remote
abbrev pub Gives : {E X : Type 0} → Ghosts E → E → Act → Result Reply X → Type 0
Gives e remote act result = e.honest remote → IfOk result (GivesFrom (e.content remote) act)

abbrev pub GivesRemote : {E : Type 0} → Ghosts E → Option E → Act → Result Reply Stop → Type 0
GivesRemote e remote act result = IfSome remote (λ r. Gives e r act result)

-- by its failure, or memory was wanting
abbrev pub IsUnread : Stop → Type 0
IsUnread (stops.Refused refusal) = ⊥
IsUnread stop = Unit {0}

-- it failed only where its count rose
abbrev pub FailsBy : {E : Type 0} → Ghosts E → Option E → Option E → Result Reply Stop → Type 0
FailsBy e old new result = IsErrOf result stops.DiskFailed → Rose (faults_of e old) (faults_of e new)

-- Of an honest remote, whatever it holds: what was read is what stands there.
abbrev pub RemoteGives : {D E C : Type 0} → Ghosts E → Core D E C → Act → Answer → Type 0
RemoteGives e old act answer =
    (answer.entry).kind ≡ PART_KIND → IfSome old.remote (λ r. e.honest r → IfSome answer.reply (GivesFrom (e.content r) act))
