-- What a command that was done has found and replied, and how the store then differs.
use Rattle.std.specs.Prelude.{◌≡◌, ℕ, true, List, [], map, length, nat_le, nat_lt, Option, Some, None, Result, Ok}
use Rattle.store_types.specs.declared.names.SnapshotKey.{SnapshotKey}
use Rattle.store_types.specs.declared.names.GroupKey.{GroupKey}
use Rattle.store_types.specs.declared.append.AppendEntry.{AppendEntry}
use Rattle.store_types.specs.declared.refusal.Refusal.{Refusal}
use Rattle.store_types.specs.FileNames.{is_file_name, is_blob_name, is_index_name, is_fixed_name, is_dynamic_name}
use Rattle.store_types.specs.Names.{group_of_key}
use Rattle.store_files.specs.Archive.{dynamic, fixed, Archive, archive, blob, File, Snapshot, file_text, file_named, pieces_of, piece_with, content_of, csum_by}
use Rattle.store_files.specs.Manifest.{Manifest}
use Rattle.blob_codec.specs.Blob as blobs
use Rattle.wire_commands.specs.declared.command.Command.{Command}
use Rattle.wire_commands.specs.declared.command.Command.TheVariants as commands
use Rattle.wire_commands.specs.declared.reply.Reply.{Reply}
use Rattle.wire_commands.specs.declared.reply.Reply.TheVariants as replies
use Rattle.store_model.specs.Store.{Begun, Writer, writer, Reader, reader, Session, none, Store, session, with_session, ended, group_holder, snapshot_holder, in_group, latest_in, snapshot_named, insert_snapshot, without_snapshot}
use Rattle.store_model.specs.Heads.{key_in, group_in, after_in, idle_key, idle_group}
use Rattle.store_model.specs.Uploads.{want_room}
use Rattle.store_model.specs.Archives.{new_archive, want_sizes, want_number, free_number, change_first, without_first, want_entries, pieces_named, want_facts}
use Rattle.store_model.specs.Manifests.{finish_check}
use Rattle.store_model.specs.WriterSteps.{with_pool, with_file, new_writer, base_text, base_of, want_newer, part_of, want_data, snapshot_of}
use Rattle.store_model.specs.WriterCalls.{numbers, begin, chunk, has_number, begun_at, with_pieces}
use Rattle.store_model.specs.ArchiveSteps.{check_chunk, named}
use Rattle.store_model.specs.ReaderSteps.{reader_files, note, noted_pieces, range_of}
use Rattle.store_model.specs.AdminSteps.{listed, file_rows, group_texts, counts_fit}

-- ---- what it has found

-- BLOB of an upload that was checked
abbrev pub IsBlobDone : Store → ℕ → List ℕ → Result (List ℕ) Refusal → Store × Reply → Type 0
IsBlobDone s k name checked after =
    (v : Writer) × (contents : List ℕ) × (session s k ≡ writer v) × (is_blob_name name ≡ true) × (want_room name v ≡ Ok tt) × (checked ≡ Ok contents)
    × (after ≡ (with_session s k (writer (with_file name (blob contents) v)), replies.Done))

-- CHUNK of an upload that was checked
abbrev pub IsChunkDone : Store → ℕ → Result (List ℕ) Refusal → Store × Reply → Type 0
IsChunkDone s k checked after =
    (v : Writer) × (piece : List ℕ) × (session s k ≡ writer v) × (checked ≡ Ok piece) × (after ≡ (with_session s k (writer (chunk v piece)), replies.Done))

-- APPEND: the entries name these pieces of the pool
abbrev pub NamesPieces : Writer → Begun → List AppendEntry → List (List ℕ) → Type 0
NamesPieces v b entries pieces =
    pieces_named (λ digest. piece_with digest v.pool) (λ p. length p) (b.archive).layout 0 (length (content_of b.archive)) (map named entries) ≡ Ok pieces

-- the archive of this number has them too
abbrev pub grown : Writer → ℕ → List (List ℕ) → Writer
grown v number pieces = record v { begun = change_first (has_number number) (with_pieces pieces) v.begun }

-- CLOSE_INDEX: the archive of this number becomes a file
abbrev pub closed : Writer → ℕ → Begun → Writer
closed v number b = with_file b.name (archive b.archive) (record v { begun = without_first (has_number number) v.begun })

-- FINISH: the lane's writer ends, and its snapshot is there
abbrev pub finished : Store → ℕ → Writer → Store
finished s k v = record (with_session s k none) { snapshots = insert_snapshot (snapshot_of v) s.snapshots }

-- FORGET
abbrev pub forgotten : Store → SnapshotKey → Store
forgotten s key = record s { snapshots = without_snapshot key s.snapshots }

-- A command of the lane at the moment that was done: what it found, and the store and the reply that it gave.
abbrev pub IsDone : Store → ℕ → ℕ → Command → Store × Reply → Type 0
IsDone s k m (commands.OpenWriter text) after =
    (key : SnapshotKey) × (idle_key s k text ≡ Ok key) × (group_holder s (group_of_key key) ≡ None)
    × (want_newer key.time (latest_in (group_of_key key) s.snapshots) ≡ Ok tt) × (nat_lt (length (in_group (group_of_key key) s.snapshots)) 4096 ≡ true)
    × (after ≡ (with_session s k (writer (new_writer key m (latest_in (group_of_key key) s.snapshots))), replies.Base (base_text (latest_in (group_of_key key) s.snapshots))))
IsDone s k m (commands.Previous name offset) after =
    (v : Writer) × (x : Snapshot) × (f : File) × (session s k ≡ writer v) × (is_file_name name ≡ true) × (base_of s v ≡ Some x) × (file_named name x.files ≡ Some f)
    × (nat_le offset (length (file_text f.content)) ≡ true) × (after ≡ (with_session s k (writer (with_pool (pieces_of f.content) v)), part_of (file_text f.content) offset))
IsDone s k m (commands.NewFixed name size chunk_size) after =
    (v : Writer) × (session s k ≡ writer v) × (is_fixed_name name ≡ true) × (want_room name v ≡ Ok tt) × (want_number (length v.begun) ≡ Ok tt) × (want_sizes size chunk_size ≡ Ok tt)
    × (after ≡ (with_session s k (writer (begin v name (new_archive (fixed size chunk_size) 4016 v.key name m))), replies.Number (free_number (numbers v))))
IsDone s k m (commands.NewDynamic name) after =
    (v : Writer) × (session s k ≡ writer v) × (is_dynamic_name name ≡ true) × (want_room name v ≡ Ok tt) × (want_number (length v.begun) ≡ Ok tt)
    × (after ≡ (with_session s k (writer (begin v name (new_archive dynamic 4032 v.key name m))), replies.Number (free_number (numbers v))))
IsDone s k m (commands.Chunk digest bytes) after = IsChunkDone s k (check_chunk digest bytes) after
IsDone s k m (commands.Append number entries) after =
    (v : Writer) × (b : Begun) × (pieces : List (List ℕ)) × (session s k ≡ writer v) × (begun_at number v ≡ Some b)
    × (want_entries (length (b.archive).pieces) (length (map named entries)) ≡ Ok tt) × NamesPieces v b entries pieces
    × (after ≡ (with_session s k (writer (grown v number pieces)), replies.Done))
IsDone s k m (commands.CloseIndex number count size csum) after =
    (v : Writer) × (b : Begun) × (session s k ≡ writer v) × (begun_at number v ≡ Some b)
    × (want_facts (b.archive).layout (length (b.archive).pieces) (length (content_of b.archive)) (csum_by (b.archive).layout b.archive) count size csum ≡ Ok tt)
    × (after ≡ (with_session s k (writer (closed v number b)), replies.Done))
IsDone s k m (commands.Blob name bytes) after = IsBlobDone s k name (want_data bytes) after
IsDone s k m commands.Finish after = (v : Writer) × (listing : Manifest) × (session s k ≡ writer v) × (finish_check v ≡ Ok listing) × (after ≡ (finished s k v, replies.Done))
IsDone s k m commands.Abort after = (v : Writer) × (session s k ≡ writer v) × (after ≡ (ended s k, replies.Done))
IsDone s k m (commands.OpenReader text) after =
    (key : SnapshotKey) × (x : Snapshot) × (idle_key s k text ≡ Ok key) × (snapshot_named key s.snapshots ≡ Some x)
    × (after ≡ (with_session s k (reader (record { key = key; noted = [] })), replies.Done))
IsDone s k m (commands.Download name offset) after =
    (r : Reader) × (f : File) × (session s k ≡ reader r) × (is_file_name name ≡ true) × (file_named name (reader_files s r) ≡ Some f)
    × (nat_le offset (length (file_text f.content)) ≡ true) × (after ≡ (with_session s k (reader (note name f.content r)), part_of (file_text f.content) offset))
IsDone s k m (commands.GetChunk digest) after =
    (r : Reader) × (piece : List ℕ) × (session s k ≡ reader r) × (piece_with digest (noted_pieces (reader_files s r) r) ≡ Some piece)
    × (after ≡ (s, replies.Data (blobs.blob piece)))
IsDone s k m (commands.Range name offset len) after =
    (r : Reader) × (f : File) × (bytes : List ℕ) × (session s k ≡ reader r) × (is_index_name name ≡ true) × (file_named name (reader_files s r) ≡ Some f)
    × (range_of (reader_files s r) r name offset len ≡ Ok bytes) × (after ≡ (s, replies.Data bytes))
IsDone s k m commands.CloseReader after = (r : Reader) × (session s k ≡ reader r) × (after ≡ (ended s k, replies.Done))
IsDone s k m (commands.List text) after = (from : Option SnapshotKey) × (after_in s k text ≡ Ok from) × (after ≡ (s, replies.Listing (listed s.snapshots from)))
IsDone s k m (commands.Files text) after =
    (key : SnapshotKey) × (x : Snapshot) × (key_in s k text ≡ Ok key) × (snapshot_named key s.snapshots ≡ Some x) × (after ≡ (s, replies.Files (file_rows x.files)))
IsDone s k m (commands.Forget text) after =
    (key : SnapshotKey) × (x : Snapshot) × (idle_key s k text ≡ Ok key) × (snapshot_named key s.snapshots ≡ Some x) × (snapshot_holder s key ≡ None)
    × (after ≡ (forgotten s key, replies.Done))
IsDone s k m (commands.Prune name keep dry) after =
    (g : GroupKey) × (idle_group s k name ≡ Ok g) × (counts_fit keep ≡ true) × (after ≡ (s, replies.Keys (group_texts g s.snapshots)))
IsDone s k m (commands.Verify text) after = after ≡ (s, replies.Done)
IsDone s k m (commands.Sync name) after = after ≡ (s, replies.Done)
IsDone s k m commands.Gc after = after ≡ (s, replies.Done)
IsDone s k m (commands.Group name) after = (g : GroupKey) × (group_in s k name ≡ Ok g) × (after ≡ (s, replies.Keys (group_texts g s.snapshots)))
IsDone s k m commands.Bye after = after ≡ (ended s k, replies.Done)

-- what a command that was done replies: no refusal, and no report of a job or a collector
abbrev pub IsAnswer : Reply → Type 0
IsAnswer (replies.Refused refusal) = ⊥
IsAnswer (replies.Marks rows) = ⊥
IsAnswer (replies.Verified files entries bytes faults) = ⊥
IsAnswer (replies.Collected start cutoff used pending removed) = ⊥
IsAnswer r = Unit {0}

-- ---- how the store then differs

-- the most that a command does to snapshots and chunks
pub data Effect : Type 0 where
  -- none of these: at most the lane's session begins, goes on or ends
  nothing : Effect
  -- a piece joins the writer's pool
  sends : Effect
  -- pieces of the pool join an archive
  appends : Effect
  -- the writer's snapshot is there
  finishes : Effect
  -- the snapshot of this text is there no more
  forgets : List ℕ → Effect

abbrev pub effect_of : Command → Effect
effect_of (commands.Chunk digest bytes) = sends
effect_of (commands.Append number entries) = appends
effect_of commands.Finish = finishes
effect_of (commands.Forget text) = forgets text
effect_of c = nothing

-- how the writer v goes on
pub data IsGrown (s : Store) (v : Writer) (e : Effect) (w : Writer) : Type 0 where
  -- by the pieces of a file of its base
  taken : (x : Snapshot) (name : List ℕ) (f : File) → base_of s v ≡ Some x → file_named name x.files ≡ Some f → w ≡ with_pool (pieces_of f.content) v → IsGrown s v e w
  -- by a piece that was sent
  sent : (piece : List ℕ) → e ≡ sends → w ≡ chunk v piece → IsGrown s v e w
  -- by an archive without pieces
  begun : (name : List ℕ) (a : Archive) → a.pieces ≡ [] → w ≡ begin v name a → IsGrown s v e w
  -- by pieces at the end of an archive
  appended : (number : ℕ) (pieces : List (List ℕ)) → e ≡ appends → w ≡ grown v number pieces → IsGrown s v e w
  -- by a file that was an archive, or came as a blob
  filed : (number : ℕ) (b : Begun) → begun_at number v ≡ Some b → w ≡ closed v number b → IsGrown s v e w
  stored : (name contents : List ℕ) → w ≡ with_file name (blob contents) v → IsGrown s v e w

-- the lane's next session
pub data IsNext (s : Store) (k m : ℕ) (e : Effect) (x : Session) : Type 0 where
  ends : x ≡ none → IsNext s k m e x
  -- a new writer, whose key is in form, of no writer's group, and newer than the group's latest
  opens : (text : List ℕ) (key : SnapshotKey) → idle_key s k text ≡ Ok key → group_holder s (group_of_key key) ≡ None
      → want_newer key.time (latest_in (group_of_key key) s.snapshots) ≡ Ok tt → x ≡ writer (new_writer key m (latest_in (group_of_key key) s.snapshots)) → IsNext s k m e x
  -- the writer goes on
  writes : (v w : Writer) → session s k ≡ writer v → IsGrown s v e w → x ≡ writer w → IsNext s k m e x
  -- a reader of a snapshot that is there
  enters : (y : Snapshot) (r : Reader) → snapshot_named r.key s.snapshots ≡ Some y → x ≡ reader r → IsNext s k m e x
  -- the reader goes on
  reads : (q r : Reader) → session s k ≡ reader q → r.key ≡ q.key → x ≡ reader r → IsNext s k m e x

-- How the store t differs from s after a command of this lane and moment that does no more than this: it is the same; the lane's session is
-- another; the writer's snapshot is there; or one that no session holds is there no more.
pub data Shape (s : Store) (k m : ℕ) (e : Effect) (t : Store) : Type 0 where
  same : t ≡ s → Shape s k m e t
  turned : (x : Session) → IsNext s k m e x → t ≡ with_session s k x → Shape s k m e t
  more : (v : Writer) → e ≡ finishes → session s k ≡ writer v → t ≡ finished s k v → Shape s k m e t
  less : (text : List ℕ) (key : SnapshotKey) → e ≡ forgets text → idle_key s k text ≡ Ok key → snapshot_holder s key ≡ None → t ≡ forgotten s key → Shape s k m e t

-- what a command that was done leaves: the store and the reply
pub record Leaves (s : Store) (k m : ℕ) (e : Effect) (after : Store × Reply) : Type 0 where
  pub store : Shape s k m e after.0
  pub reply : IsAnswer after.1
