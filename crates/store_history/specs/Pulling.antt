-- A SYNC as its lane does it: it reads the remote between its steps. What it asks next is told by all replies so far, those of the reads among them.
use Rattle.std.specs.Prelude.{ℕ, ◌+◌, ◌-◌, Bool, true, false, List, [], ◌∷◌, ◌++◌, map, filter, length, take as take_first, drop, nat_le, nat_lt, ◌==◌, if◌then◌else◌, Option, Some, None, is_some, option_map, Ok, Err, codes}
use Rattle.std.specs.FinMap.{FinMap, entries as entries_of, from_entries, get, insert}
use Rattle.std.specs.List.{last_or}
use Rattle.store_types.specs.declared.append.AppendEntry.{AppendEntry}
use Rattle.store_types.specs.declared.names.Digest32.{Digest32}
use Rattle.store_types.specs.declared.refusal.Refusal.{Refusal}
use Rattle.store_types.specs.declared.refusal.ChunkFault.TheVariants.{Other}
use Rattle.store_types.specs.declared.refusal.Refusal.TheVariants.{Damaged, Unreadable, RemoteFault, DiskFault, Halted, NoMemory}
use Rattle.store_types.specs.FileNames.{manifest_name, is_fixed_name, is_dynamic_name}
use Rattle.store_types.specs.Names.{key_of, text_cmp}
use Rattle.blob_codec.specs.Blob.{data_of, blob_limit}
use Rattle.store_files.specs.Archive.{Layout, dynamic, fixed}
use Rattle.store_files.specs.FixedIndex as fixed_index
use Rattle.store_files.specs.DynamicIndex as dynamic_index
use Rattle.store_files.specs.Manifest.{Manifest}
use Rattle.wire_commands.specs.declared.command.Command.TheVariants as commands
use Rattle.wire_commands.specs.declared.reply.Reply.{Reply}
use Rattle.wire_commands.specs.declared.reply.Reply.TheVariants.{Base, Keys, Part, Data, Refused}
use Rattle.store_model.specs.SizeLimits.{size_limit}
use Rattle.store_model.specs.Load.{read_manifest}
use Rattle.store_model.specs.SyncJob.{new_index}
use Rattle.store_model.specs.VerifyJob.{digest, last_end}
use Rattle.store_history.specs.declared.act.Act.{Act}
use Rattle.store_history.specs.declared.act.Act.TheVariants as acts
use Rattle.store_history.specs.Acts.{act_of_command}

-- ---- what it keeps of the replies

-- the snapshot that is pulled, those to come, and those that are pulled, by their texts
pub record Course : Type 0 where
  pub snapshot : List ℕ
  pub later : List (List ℕ)
  pub pulled : List (List ℕ)

-- of the snapshot: its manifest's file, the names of the files to come, and the digests of the chunks that were sent, in byte order, each with the
-- size of its blob
pub record Stock : Type 0 where
  pub manifest : List ℕ
  pub names : List (List ℕ)
  pub sent : List (List ℕ × ℕ)

-- an index that is sent: each entry has the offset at which its piece begins
pub record Index : Type 0 where
  pub name : List ℕ
  pub layout : Layout
  pub entries : List AppendEntry
  pub size : ℕ
  pub csum : Digest32

pub data Pulling : Type 0 where
  -- it asks for what the remote has of its group, and then for what is here of it
  seeking : List ℕ → Pulling
  comparing : List ℕ → List (List ℕ) → Pulling
  -- it asks for a writer of its snapshot
  starting : Course → Pulling
  -- it reads the manifest, behind these bytes of it, and then each file that this lists
  reading_manifest : Course → List ℕ → Pulling
  reading_file : Course → Stock → List ℕ → List ℕ → Pulling
  -- it begins an index
  opening : Course → Stock → Index → Pulling
  -- it reads the chunk of this entry, before those of the others, and then sends its blob
  reading_chunk : Course → Stock → Index → AppendEntry → List AppendEntry → Pulling
  sending_chunk : Course → Stock → Index → AppendEntry → List AppendEntry → List ℕ → Pulling
  -- it appends the entries from this one on
  appending : Course → Stock → Index → AppendEntry → List AppendEntry → Pulling
  closing_index : Course → Stock → Index → Pulling
  sending_blob : Course → Stock → List ℕ → List ℕ → Pulling
  sending_manifest : Course → Stock → Pulling
  finishing : Course → Pulling
  -- it ends its writer, since the file that it read last is none: of this full name
  rejecting : List ℕ → Pulling
  -- or since a step or a read was refused
  aborting : Refusal → Pulling

-- nothing more is asked, and this is the report; or this is asked
pub data SyncJob : Type 0 where
  reports : Reply → SyncJob
  asks : Pulling → SyncJob

-- ---- what it asks

abbrev pub batch : ℕ
batch = 4096

-- the act; of the files that are read the snapshot's text and the file's name are told
abbrev pub act_of : Pulling → Act
act_of (seeking group) = acts.RemoteList (commands.Sync group)
act_of (comparing group remote) = acts.Plain (commands.Group group)
act_of (starting c) = acts.Plain (commands.OpenWriter c.snapshot)
act_of (reading_manifest c bytes) = acts.RemoteFile c.snapshot manifest_name (length bytes)
act_of (reading_file c s name bytes) = acts.RemoteFile c.snapshot name (length bytes)
act_of (opening c s x) = act_of_command (new_index x.layout x.name)
act_of (reading_chunk c s x e later) = acts.RemoteChunk e.digest
act_of (sending_chunk c s x e later blob) = act_of_command (commands.Chunk e.digest blob)
act_of (appending c s x e later) = act_of_command (commands.Append 0 (take_first batch (e ∷ later)))
act_of (closing_index c s x) = act_of_command (commands.CloseIndex 0 (length x.entries) x.size x.csum)
act_of (sending_blob c s name bytes) = act_of_command (commands.Blob name bytes)
act_of (sending_manifest c s) = act_of_command (commands.Blob manifest_name s.manifest)
act_of (finishing c) = acts.Plain commands.Finish
act_of (rejecting path) = acts.Plain commands.Abort
act_of (aborting first) = acts.Plain commands.Abort

-- ---- from snapshot to snapshot

-- the text names a snapshot
abbrev pub is_key : List ℕ → Bool
is_key text = is_some (key_of text)

abbrev pub time_in : List ℕ → Option ℕ
time_in text = option_map (λ key. key.time) (key_of text)

abbrev pub time_of : Option (List ℕ) → Option ℕ
time_of None = None
time_of (Some text) = time_in text

-- the time of the last of these snapshots, which is the newest
abbrev pub newest_in : List (List ℕ) → Option ℕ
newest_in here = time_of (last_or None here)

abbrev pub is_after : ℕ → Option ℕ → Bool
is_after newest None = false
is_after newest (Some time) = nat_lt newest time

abbrev pub is_later : Option ℕ → List ℕ → Bool
is_later None text = true
is_later (Some newest) text = is_after newest (time_in text)

unfoldable pub next_snapshot : List (List ℕ) → List (List ℕ) → SyncJob
next_snapshot pulled [] = reports (Keys pulled)
next_snapshot pulled (x ∷ xs) = asks (starting (record { snapshot = x; later = xs; pulled = pulled }))

unfoldable pub finished : Course → SyncJob
finished c = next_snapshot (c.pulled ++ c.snapshot ∷ []) c.later

-- ---- the ends

-- A refusal ends the job, behind the step that ends its writer. After a fault of the disk none follows.
abbrev pub stops : Refusal → SyncJob
stops DiskFault = reports (Refused DiskFault)
stops (Halted place) = reports (Refused (Halted place))
stops refusal = asks (aborting refusal)

-- The writer is ended. Where this has done nothing, it comes again.
abbrev pub ends : Refusal → Reply → SyncJob
ends first (Refused NoMemory) = asks (aborting first)
ends first (Refused RemoteFault) = asks (aborting first)
ends first reply = reports (Refused first)

-- the full name of a snapshot's file
abbrev pub path_of : Course → List ℕ → List ℕ
path_of c name = c.snapshot ++ codes "/" ++ name

abbrev pub rejects : Course → List ℕ → SyncJob
rejects c name = asks (rejecting (path_of c name))

-- ---- an index

-- as a map
abbrev pub sent_in : Stock → FinMap text_cmp ℕ
sent_in s = from_entries s.sent

-- the size of the blob that was sent with the digest of an entry
abbrev pub size_sent : Stock → AppendEntry → Option ℕ
size_sent s e = get (sent_in s) (e.digest).0

abbrev pub with_chunk : AppendEntry → List ℕ → Stock → Stock
with_chunk e blob s = record s { sent = entries_of (insert (sent_in s) (e.digest).0 (length blob)) }

unfoldable pub next_append : Course → Stock → Index → List AppendEntry → SyncJob
next_append c s x [] = asks (closing_index c s x)
next_append c s x (e ∷ later) = asks (appending c s x e later)

-- the piece of an entry ends where that of the next begins, or with the archive
abbrev pub end_before : Index → List AppendEntry → ℕ
end_before x [] = x.size
end_before x (e ∷ later) = e.offset

-- so its blob has this size by the index
abbrev pub blob_size : Index → AppendEntry → List AppendEntry → ℕ
blob_size x e later = 12 + (end_before x later - e.offset)

-- The chunk has another length than the index says of its entry. The digest that was found is the entry's own.
abbrev pub mismatched : AppendEntry → SyncJob
mismatched e = stops (Damaged e.digest (Other e.digest))

-- A chunk is sent at the first use of its digest. At each use its length is that of the entry.
unfoldable pub next_chunk : Course → Stock → Index → List AppendEntry → SyncJob
next_chunk c s x [] = next_append c s x x.entries
next_chunk c s x (e ∷ later) =
    elim (size_sent s e) [
      | None ↦ asks (reading_chunk c s x e later)
      | Some size ↦ if size == blob_size x e later then next_chunk c s x later else mismatched e
    ]

-- each piece of a fixed index begins at a multiple of the chunk size
abbrev pub fixed_entries : ℕ → ℕ → List (List ℕ) → List AppendEntry
fixed_entries chunk_size offset [] = []
fixed_entries chunk_size offset (d ∷ ds) = record { digest = digest d; offset = offset } ∷ fixed_entries chunk_size (offset + chunk_size) ds

-- and one of a dynamic index where the one before it ends
abbrev pub dynamic_entries : ℕ → List dynamic_index.Ended → List AppendEntry
dynamic_entries start [] = []
dynamic_entries start (e ∷ es) = record { digest = digest e.digest; offset = start } ∷ dynamic_entries e.end es

abbrev pub fixed_as : List ℕ → fixed_index.FixedIndex → Index
fixed_as name x = record {
  name = name;
  layout = fixed x.size x.chunk_size;
  entries = fixed_entries x.chunk_size 0 x.digests;
  size = x.size;
  csum = digest (fixed_index.csum_of x);
}

abbrev pub dynamic_as : List ℕ → dynamic_index.DynamicIndex → Index
dynamic_as name x = record {
  name = name;
  layout = dynamic;
  entries = dynamic_entries 0 x.entries;
  size = last_end x.entries;
  csum = digest (dynamic_index.csum_of x);
}

-- ---- a whole file

abbrev pub fixed_in : List ℕ → List ℕ → Option Index
fixed_in name bytes = elim (fixed_index.fixed_of bytes) [ Ok x ↦ Some (fixed_as name x) | Err cause ↦ None ]

abbrev pub dynamic_in : List ℕ → List ℕ → Option Index
dynamic_in name bytes = elim (dynamic_index.dynamic_of bytes) [ Ok x ↦ Some (dynamic_as name x) | Err cause ↦ None ]

-- the index that a file of this name is
unfoldable pub index_in : List ℕ → List ℕ → Option Index
index_in name bytes = if is_fixed_name name then fixed_in name bytes else dynamic_in name bytes

abbrev pub is_index : List ℕ → Bool
is_index name = if is_fixed_name name then true else is_dynamic_name name

unfoldable pub index_read : Course → Stock → List ℕ → Option Index → SyncJob
index_read c s name None = rejects c name
index_read c s name (Some x) = asks (opening c s x)

unfoldable pub blob_read : Course → Stock → List ℕ → List ℕ → SyncJob
blob_read c s name bytes = elim (data_of bytes) [ Ok contents ↦ asks (sending_blob c s name bytes) | Err cause ↦ rejects c name ]

unfoldable pub file_read : Course → Stock → List ℕ → List ℕ → SyncJob
file_read c s name bytes = if is_index name then index_read c s name (index_in name bytes) else blob_read c s name bytes

-- behind the last file the manifest is sent
unfoldable pub next_file : Course → Stock → SyncJob
next_file c s =
    elim s.names [
      | [] ↦ asks (sending_manifest c s)
      | name ∷ names ↦ asks (reading_file c (record s { names = names }) name [])
    ]

-- none of the files is read, and no chunk sent
abbrev pub stock_of : List ℕ → Manifest → Stock
stock_of bytes m = record { manifest = bytes; names = map (λ f. f.name) m.files; sent = [] }

-- a snapshot whose manifest is none, or lists more files than it may have beside it, is damaged
unfoldable pub manifest_read : Course → List ℕ → Option Manifest → SyncJob
manifest_read c bytes None = rejects c manifest_name
manifest_read c bytes (Some m) = if nat_le (length m.files) 63 then next_file c (stock_of bytes m) else rejects c manifest_name

-- ---- the replies

unfoldable pub sought : List ℕ → Reply → SyncJob
sought group (Keys remote) = asks (comparing group (filter is_key remote))
sought group reply = reports reply

-- those of the remote that are later than the newest here
unfoldable pub compared : List (List ℕ) → Reply → SyncJob
compared remote (Keys here) = next_snapshot [] (filter (is_later (newest_in here)) remote)
compared remote reply = reports reply

unfoldable pub started : Course → Reply → SyncJob
started c (Base snapshot) = asks (reading_manifest c [])
started c reply = reports reply

-- A part of a file was read: behind it the next comes, or all of it is there. What is longer than a file of its kind may be isn't read on.
unfoldable pub manifest_part : Course → List ℕ → ℕ → SyncJob
manifest_part c bytes total =
    if nat_lt blob_limit total then rejects c manifest_name else
    if nat_lt (length bytes) total then asks (reading_manifest c bytes) else
    manifest_read c bytes (read_manifest bytes)

unfoldable pub file_part : Course → Stock → List ℕ → List ℕ → ℕ → SyncJob
file_part c s name bytes total =
    if nat_lt (size_limit name) total then rejects c name else
    if nat_lt (length bytes) total then asks (reading_file c s name bytes) else
    file_read c s name bytes

unfoldable pub manifest_told : Course → List ℕ → Reply → SyncJob
manifest_told c bytes (Part total more) = manifest_part c (bytes ++ more) total
manifest_told c bytes (Refused refusal) = stops refusal
manifest_told c bytes reply = reports reply

unfoldable pub file_told : Course → Stock → List ℕ → List ℕ → Reply → SyncJob
file_told c s name bytes (Part total more) = file_part c s name (bytes ++ more) total
file_told c s name bytes (Refused refusal) = stops refusal
file_told c s name bytes reply = reports reply

abbrev pub chunk_read : Course → Stock → Index → AppendEntry → List AppendEntry → List ℕ → SyncJob
chunk_read c s x e later blob =
    if length blob == blob_size x e later then asks (sending_chunk c (with_chunk e blob s) x e later blob) else mismatched e

unfoldable pub chunk_told : Course → Stock → Index → AppendEntry → List AppendEntry → Reply → SyncJob
chunk_told c s x e later (Data blob) = chunk_read c s x e later blob
chunk_told c s x e later (Refused refusal) = stops refusal
chunk_told c s x e later reply = reports reply

-- a command of the snapshot's was replied, and then this comes
abbrev pub goes_on : Reply → SyncJob → SyncJob
goes_on (Refused refusal) next = stops refusal
goes_on reply next = next

-- memory was wanting, maybe for the file that was read
abbrev pub rejected : List ℕ → Reply → SyncJob
rejected path (Refused NoMemory) = asks (aborting NoMemory)
rejected path reply = ends (Unreadable path) reply

-- the job after the reply to what it asked
unfoldable pub take : Pulling → Reply → SyncJob
take (seeking group) reply = sought group reply
take (comparing group remote) reply = compared remote reply
take (starting c) reply = started c reply
take (reading_manifest c bytes) reply = manifest_told c bytes reply
take (reading_file c s name bytes) reply = file_told c s name bytes reply
take (opening c s x) reply = goes_on reply (next_chunk c s x x.entries)
take (reading_chunk c s x e later) reply = chunk_told c s x e later reply
take (sending_chunk c s x e later blob) reply = goes_on reply (next_chunk c s x later)
take (appending c s x e later) reply = goes_on reply (next_append c s x (drop batch (e ∷ later)))
take (closing_index c s x) reply = goes_on reply (next_file c s)
take (sending_blob c s name bytes) reply = goes_on reply (next_file c s)
take (sending_manifest c s) reply = goes_on reply (asks (finishing c))
take (finishing c) reply = goes_on reply (finished c)
take (rejecting path) reply = rejected path reply
take (aborting first) reply = ends first reply

-- a job that is over takes no more
abbrev pub take_more : SyncJob → Reply → SyncJob
take_more (reports report) reply = reports report
take_more (asks p) reply = take p reply

-- ---- its writer

-- the step that ends its writer behind a refusal is left, which takes no memory
abbrev pub is_ending : Pulling → Bool
is_ending (aborting first) = true
is_ending p = false

-- its lane has a writer
abbrev pub has_writer : Pulling → Bool
has_writer (seeking group) = false
has_writer (comparing group remote) = false
has_writer (starting c) = false
has_writer p = true
