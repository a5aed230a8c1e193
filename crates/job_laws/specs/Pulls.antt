-- What holds of a SYNC, as the machine that its lane runs (`Pulling`).
use Rattle.std.specs.Prelude.{◌≡◌, ◌≤◌, ◌<◌, ◌⊎◌, ◌↔◌, ⊤, ℕ, Bool, true, false, not, ◌&&◌, MatchBool, List, [], ◌∷◌, ◌++◌, map, length, Some, None, IfSome, Ok, IsErr}
use Rattle.std.specs.List.{All, AllPairs, Contains, flat_map, fold}
use Rattle.store_types.specs.declared.append.AppendEntry.{AppendEntry}
use Rattle.store_types.specs.declared.names.Digest32.{Digest32}
use Rattle.store_types.specs.declared.refusal.ChunkFault.TheVariants.{Other}
use Rattle.store_types.specs.declared.refusal.Refusal.{Refusal}
use Rattle.store_types.specs.declared.refusal.Refusal.TheVariants.{Damaged, DiskFault, Halted, NoMemory, Unreadable}
use Rattle.store_types.specs.FileNames.{manifest_name}
use Rattle.store_types.specs.Names.{IsKey, key_text}
use Rattle.blob_codec.specs.Blob.{data_of, blob_limit}
use Rattle.store_files.specs.Archive.{Snapshot, digest_of, pieces_of}
use Rattle.wire_commands.specs.declared.command.Command.{Command}
use Rattle.wire_commands.specs.declared.command.Command.TheVariants.{NewFixed, NewDynamic, Chunk, Blob, Abort, Sync}
use Rattle.wire_commands.specs.declared.reply.Reply.{Reply}
use Rattle.wire_commands.specs.declared.reply.Reply.TheVariants.{Data, Part, Refused}
use Rattle.store_model.specs.AdminSteps.{group as group_here}
use Rattle.store_model.specs.Job.{Pull, Asking, sending, Job, over, asking, step_of}
use Rattle.store_model.specs.Jobs.{take_more as job_takes}
use Rattle.store_model.specs.Load.{read_manifest}
use Rattle.store_model.specs.SizeLimits.{size_limit}
use Rattle.store_model.specs.Store.{Store}
use Rattle.store_model.specs.SyncJob.{commands_of, listed_files, next_snapshot, to_pull}
use Rattle.store_history.specs.declared.act.Act.{Act}
use Rattle.store_history.specs.declared.act.Act.TheVariants.{Plain, RemoteList, RemoteFile, RemoteChunk}
use Rattle.store_history.specs.Acts.{Class, reaching, class_of, act_of_step}
use Rattle.store_history.specs.Pulling.{Stock, Index, Pulling, seeking, reading_manifest, reading_file, opening, reading_chunk, sending_chunk, rejecting, aborting, SyncJob, reports, asks, act_of, blob_size, has_writer, index_in, is_index, path_of, size_sent, take_more}
use Rattle.store_history.specs.Remote.{IsList, Reads}

abbrev pub is_refusal : Reply → Bool
is_refusal (Refused refusal) = true
is_refusal reply = false

-- the SYNC of a group behind these replies
abbrev pub pull_after : List ℕ → List Reply → SyncJob
pull_after group replies = fold take_more (asks (seeking group)) replies

-- ---- beside a remote that stands for a list

-- a read of the remote is refused, or replied what the list gives; of the reply to a step nothing is asked
abbrev pub IsToldBy : List Snapshot → SyncJob → Reply → Type 0
IsToldBy L (reports report) reply = ⊤
IsToldBy L (asks x) reply =
    class_of (act_of x) ≡ reaching → (is_refusal reply ≡ true) ⊎ Reads L (act_of x) (Some reply)

abbrev pub AreToldBy : List Snapshot → SyncJob → List Reply → Type 0
AreToldBy L pull [] = ⊤
AreToldBy L pull (r ∷ rs) = IsToldBy L pull r × AreToldBy L (take_more pull r) rs

-- The job that knows the list reads nothing. Of the replies it takes those to steps; and the refusal of a read, as that of the step that it asks then.
abbrev pub replies_by : Class → Reply → List Reply
replies_by reaching (Refused refusal) = Refused refusal ∷ []
replies_by reaching reply = []
replies_by class reply = reply ∷ []

abbrev pub reply_to_job : SyncJob → Reply → List Reply
reply_to_job (reports report) reply = []
reply_to_job (asks x) reply = replies_by (class_of (act_of x)) reply

abbrev pub replies_to_job : SyncJob → List Reply → List Reply
replies_to_job pull [] = []
replies_to_job pull (r ∷ rs) = reply_to_job pull r ++ replies_to_job (take_more pull r) rs

-- the command is of this file, or of the chunk with this digest
abbrev pub IsOfFile : Command → List ℕ → Type 0
IsOfFile (NewFixed file size chunk_size) name = name ≡ file
IsOfFile (NewDynamic file) name = name ≡ file
IsOfFile (Blob file blob) name = name ≡ file
IsOfFile command name = ⊥

abbrev pub IsOfChunk : Command → Digest32 → Type 0
IsOfChunk (Chunk sent blob) digest = digest ≡ sent
IsOfChunk command digest = ⊥

-- the manifest is read for the first command of a snapshot
abbrev pub IsManifest : Pull → List Command → List ℕ → Type 0
IsManifest p commands name = (name ≡ manifest_name) × (commands ≡ commands_of p.snapshot)

-- The read is for the command that the job asks: of its snapshot's manifest, or of the command's file or chunk.
abbrev pub IsReadFor : Asking → Act → Type 0
IsReadFor (sending p command later) (RemoteFile text name offset) =
    (text ≡ key_text (p.snapshot).key)
    × (IsManifest p (command ∷ later) name ⊎ IsOfFile command name)
IsReadFor (sending p command later) (RemoteChunk digest) = IsOfChunk command digest
IsReadFor j act = ⊥

-- Both are over with one report; or both go on, and what the SYNC asks is the job's step, or a read for it.
abbrev pub IsAlike : SyncJob → Job → Type 0
IsAlike (reports report) (over reply) = report ≡ reply
IsAlike (asks x) (asking j) = (act_of x ≡ act_of_step (step_of j)) ⊎ IsReadFor j (act_of x)
IsAlike pull job = ⊥

-- A SYNC is told what the list has of its group, and then what the store has of it. From there on it is alike to the job that pulls these
-- snapshots: those of the list's that are later than the newest here, the oldest first. That is so behind replies to reads that the list gives, or that
-- refuse, and any to steps.
abbrev pub PullsByTheList : Type 0
PullsByTheList =
    (L : List Snapshot) (s : Store) (lane : ℕ) (group : List ℕ) (snapshots : List Snapshot) (there here : Reply) (rs : List Reply)
    → IsList L → All (λ x. IsKey x.key) s.snapshots → to_pull (Some L) s lane group ≡ Ok snapshots
    → Reads L (RemoteList (Sync group)) (Some there) → group_here s lane group ≡ Ok (s, here)
    → (let begun = pull_after group (there ∷ here ∷ []) in
    AreToldBy L begun rs → IsAlike (fold take_more begun rs) (fold job_takes (next_snapshot [] snapshots) (replies_to_job begun rs)))

-- ---- beside any remote

-- the bytes are no manifest, or list more files than a snapshot may have beside it
abbrev pub IsNoManifest : List ℕ → Type 0
IsNoManifest bytes = IfSome (read_manifest bytes) (λ m. 63 < length m.files)

-- the bytes are no index of this name, or no blob
abbrev pub DoesNotDecodeBy : Bool → List ℕ → List ℕ → Type 0
DoesNotDecodeBy true name bytes = index_in name bytes ≡ None
DoesNotDecodeBy false name bytes = IsErr (data_of bytes)

-- as the name says
abbrev pub DoesNotDecode : List ℕ → List ℕ → Type 0
DoesNotDecode name bytes = DoesNotDecodeBy (is_index name) name bytes

-- The reply has a part of the file that was asked for, and this is longer than one of its kind may be; or it has the last
-- part, and the whole is none. This is its full name.
abbrev pub EndsBad : Pulling → Reply → List ℕ → Type 0
EndsBad (reading_manifest c bytes) (Part total more) path =
    (path ≡ path_of c manifest_name)
    × ((blob_limit < total) ⊎ ((total ≤ length (bytes ++ more)) × IsNoManifest (bytes ++ more)))
EndsBad (reading_file c s name bytes) (Part total more) path =
    (path ≡ path_of c name)
    × ((size_limit name < total) ⊎ ((total ≤ length (bytes ++ more)) × DoesNotDecode name (bytes ++ more)))
EndsBad x reply path = ⊥

-- with the last of these replies such a file was read
pub record HasReadBad (group : List ℕ) (replies : List Reply) (path : List ℕ) : Type 0 where
  pub before : List Reply
  pub last : Reply
  pub state : Pulling
  pub are : replies ≡ before ++ last ∷ []
  pub asked : pull_after group before ≡ asks state
  pub bad : EndsBad state last path

-- each of these entries was sent, before the rest, with the size that the index says
abbrev pub AreSent : Stock → Index → List AppendEntry → List AppendEntry → Type 0
AreSent s i [] rest = ⊤
AreSent s i (e ∷ es) rest = (size_sent s e ≡ Some (blob_size i e (es ++ rest))) × AreSent s i es rest

-- of these entries the first that was not so was sent with another size; this is its digest
pub record HasOther (s : Stock) (i : Index) (entries : List AppendEntry) (digest : Digest32) : Type 0 where
  pub before : List AppendEntry
  pub entry : AppendEntry
  pub later : List AppendEntry
  pub size : ℕ
  pub are : entries ≡ before ++ entry ∷ later
  pub names : digest ≡ entry.digest
  pub sent : AreSent s i before (entry ∷ later)
  pub kept : size_sent s entry ≡ Some size
  pub other : size ≡ blob_size i entry later → ⊥

-- behind a reply that is no refusal: the chunk that was read has another length than the index says of its entry, or that
-- of a later entry, which was sent before, has
abbrev pub FindsOther : Pulling → Reply → Digest32 → Type 0
FindsOther (reading_chunk c s i e later) (Data blob) digest =
    (digest ≡ e.digest) × (length blob ≡ blob_size i e later → ⊥)
FindsOther (opening c s i) reply digest = HasOther s i i.entries digest
FindsOther (sending_chunk c s i e later blob) reply digest = HasOther s i later digest
FindsOther state reply digest = ⊥

pub record IsMismatch (state : Pulling) (reply : Reply) (refusal : Refusal) : Type 0 where
  pub digest : Digest32
  pub fine : is_refusal reply ≡ false
  pub finds : FindsOther state reply digest
  pub is : refusal ≡ Damaged digest (Other digest)

-- What the reply gives the SYNC to report is the refusal that it is, or that a chunk has another length than its index
-- says. But where the writer is ended for a file that is none, it is that file's name, whatever is replied, unless memory
-- is wanting. Where it is ended for a refusal this came before.
abbrev pub IsCause : Pulling → Reply → Refusal → Type 0
IsCause (rejecting path) (Refused NoMemory) refusal = refusal ≡ NoMemory
IsCause (rejecting path) reply refusal = refusal ≡ Unreadable path
IsCause (aborting first) reply refusal = ⊥
IsCause state reply refusal = (reply ≡ Refused refusal) ⊎ IsMismatch state reply refusal

-- A SYNC is to end its writer for a file exactly where this was read just before and is none, or is too long to be one.
abbrev pub BadFilesEndIt : Type 0
BadFilesEndIt =
    (group : List ℕ) (replies : List Reply) (path : List ℕ)
    → (pull_after group replies ≡ asks (rejecting path)) ↔ HasReadBad group replies path

-- No reply before this one is a refusal, and it gives this one. Where the writer is ended for a file, this was read just before and is none.
pub record IsFirstRefusal (group : List ℕ) (replies : List Reply) (refusal : Refusal) : Type 0 where
  pub before : List Reply
  pub reply : Reply
  pub later : List Reply
  pub state : Pulling
  pub are : replies ≡ before ++ reply ∷ later
  pub asked : pull_after group before ≡ asks state
  pub fine : All (λ r. is_refusal r ≡ false) before
  pub cause : IsCause state reply refusal
  pub bad : (path : List ℕ) → state ≡ rejecting path → HasReadBad group before path

-- A SYNC that is over reports a refusal exactly where it is the first so.
abbrev pub FirstRefusalIsTold : Type 0
FirstRefusalIsTold =
    (group : List ℕ) (replies : List Reply) (report : Reply) (refusal : Refusal)
    → pull_after group replies ≡ reports report
    → (report ≡ Refused refusal) ↔ IsFirstRefusal group replies refusal

-- ---- behind a refusal

-- it is over
abbrev pub IsOver : SyncJob → Type 0
IsOver (reports report) = ⊤
IsOver (asks x) = ⊥

-- it asks to end its writer
abbrev pub EndsWriter : SyncJob → Type 0
EndsWriter (reports report) = ⊥
EndsWriter (asks x) = act_of x ≡ Plain Abort

abbrev pub IsOverOrEnding : SyncJob → Type 0
IsOverOrEnding pull = IsOver pull ⊎ EndsWriter pull

-- the disk failed
abbrev pub is_fault : Refusal → Bool
is_fault DiskFault = true
is_fault (Halted place) = true
is_fault refusal = false

-- what the refusal of what it asks makes of it
abbrev pub EndsBy : Pulling → Refusal → SyncJob → Type 0
EndsBy x refusal pull =
    MatchBool (has_writer x && not (is_fault refusal)) (EndsWriter pull) (IsOver pull)

-- Where a step or a read is refused a SYNC ends its writer next, if it has one and the disk did not fail; else it is over.
-- That is said of what does not itself end the writer. So too where a chunk has another length than its index says. Behind
-- any refusal and such a chunk it asks nothing but to end its writer.
pub record RefusalsEndIt : Type 0 where
  pub next :
      (group : List ℕ) (before : List Reply) (x : Pulling) (refusal : Refusal)
      → pull_after group before ≡ asks x → (act_of x ≡ Plain Abort → ⊥)
      → EndsBy x refusal (pull_after group (before ++ Refused refusal ∷ []))
  pub later :
      (group : List ℕ) (before more : List Reply) (refusal : Refusal)
      → IsOverOrEnding (pull_after group (before ++ Refused refusal ∷ more))
  pub other :
      (group : List ℕ) (before : List Reply) (x : Pulling) (reply : Reply) (refusal : Refusal)
      → pull_after group before ≡ asks x → IsMismatch x reply refusal
      → pull_after group (before ++ reply ∷ []) ≡ asks (aborting refusal)
  pub later_other :
      (group : List ℕ) (before more : List Reply) (x : Pulling) (reply : Reply) (refusal : Refusal)
      → pull_after group before ≡ asks x → IsMismatch x reply refusal
      → IsOverOrEnding (pull_after group (before ++ reply ∷ more))

-- ---- what is sent

-- of a CHUNK its digest
abbrev pub digest_sent : Command → List Digest32
digest_sent (Chunk digest blob) = digest ∷ []
digest_sent command = []

abbrev pub digests_sent : List Command → List Digest32
digests_sent commands = flat_map digest_sent commands

-- of the pieces of the files that its manifest lists
abbrev pub digests_listed : Snapshot → List Digest32
digests_listed x = flat_map (λ f. map digest_of (pieces_of f.content)) (listed_files x)

-- Of the commands with which a snapshot is pulled no two CHUNKs have one digest, and theirs are those of its listed files' pieces.
abbrev pub ChunksAreSentOnce : Type 0
ChunksAreSentOnce =
    (x : Snapshot) → AllPairs (λ d e. d ≡ e → ⊥) (digests_sent (commands_of x))
    × ((d : Digest32) → Contains (digests_sent (commands_of x)) d ↔ Contains (digests_listed x) d)
