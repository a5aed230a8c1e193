-- The commands of a writer, with their refusals in order.
use Rattle.std.specs.Prelude.{ℕ, List, [], ◌++◌, length, nat_lt, nat_le, Option, Some, None, Result, Ok, Err, take, drop}
use Rattle.store_types.specs.declared.names.SnapshotKey.{SnapshotKey}
use Rattle.store_types.specs.declared.refusal.Refusal.{Refusal}
use Rattle.store_types.specs.declared.refusal.Refusal.TheVariants.{BadName, GroupBusy, NotNewer, TooMany, NoSnapshot, NoFile, BadBlob, BadRange}
use Rattle.store_types.specs.Chain.Refusing.{◌>>=◌, unless, or_else, if_none}
use Rattle.store_types.specs.FileNames.{is_blob_name, is_file_name}
use Rattle.store_types.specs.Names.{key_text, group_of_key}
use Rattle.blob_codec.specs.Blob.{data_of}
use Rattle.store_files.specs.Archive.{Content, blob, Snapshot, file_text, pieces_of, file_named}
use Rattle.wire_commands.specs.declared.reply.Reply.{Reply}
use Rattle.wire_commands.specs.declared.reply.Reply.TheVariants.{Done, Base, Part}
use Rattle.store_model.specs.Store.{Writer, none, writer, Store, Outcome, session, with_session, want_writer, ended, group_holder, in_group, latest_in, insert_snapshot, insert_file, snapshot_named}
use Rattle.store_model.specs.Heads.{idle_key}
use Rattle.store_model.specs.Uploads.{want_room}
use Rattle.store_model.specs.Manifests.{finish_check}

-- pieces join the pool
abbrev pub with_pool : List (List ℕ) → Writer → Writer
with_pool pieces w = record w { pool = w.pool ++ pieces }

-- the lane's writer becomes this one
unfoldable pub goes_on : Store → ℕ → Writer → Reply → Outcome
goes_on s lane w reply = Ok (with_session s lane (writer w), reply)

-- ---- OPEN_WRITER

abbrev pub new_writer : SnapshotKey → ℕ → Option SnapshotKey → Writer
new_writer key moment base = record { key = key; start = moment; base = base; pool = []; begun = []; files = [] }

abbrev pub base_text : Option SnapshotKey → List ℕ
base_text None = []
base_text (Some key) = key_text key

-- the time is later than the group's latest
abbrev pub want_newer : ℕ → Option SnapshotKey → Result (Unit {0}) Refusal
want_newer time None = Ok tt
want_newer time (Some latest) = unless (NotNewer latest.time) (nat_lt latest.time time)

unfoldable pub open_writer : Store → ℕ → ℕ → List ℕ → Outcome
open_writer s lane moment snapshot = do
  key ← idle_key s lane snapshot
  _ ← if_none GroupBusy (group_holder s (group_of_key key))
  _ ← want_newer key.time (latest_in (group_of_key key) s.snapshots)
  _ ← unless (TooMany 4096) (nat_lt (length (in_group (group_of_key key) s.snapshots)) 4096)
  goes_on s lane (new_writer key moment (latest_in (group_of_key key) s.snapshots))
      (Base (base_text (latest_in (group_of_key key) s.snapshots)))

-- ---- parts of files

abbrev pub part_limit : ℕ
part_limit = 4_194_304

-- what is left of a text from an offset, and no more than one reply holds
abbrev pub part_of : List ℕ → ℕ → Reply
part_of text offset = Part (length text) (take part_limit (drop offset text))

-- ---- PREVIOUS

abbrev pub base_of : Store → Writer → Option Snapshot
base_of s w = elim w.base [ None ↦ None | Some key ↦ snapshot_named key s.snapshots ]

unfoldable pub previous : Store → ℕ → List ℕ → ℕ → Outcome
previous s lane name offset = do
  w ← want_writer (session s lane)
  _ ← unless BadName (is_file_name name)
  base ← or_else NoSnapshot (base_of s w)
  file ← or_else NoFile (file_named name base.files)
  _ ← unless (BadRange (length (file_text file.content))) (nat_le offset (length (file_text file.content)))
  goes_on s lane (with_pool (pieces_of file.content) w) (part_of (file_text file.content) offset)

-- ---- BLOB

abbrev pub want_data : List ℕ → Result (List ℕ) Refusal
want_data bytes = elim (data_of bytes) [ Ok piece ↦ Ok piece | Err fault ↦ Err (BadBlob fault) ]

abbrev pub with_file : List ℕ → Content → Writer → Writer
with_file name content w = record w { files = insert_file (record { name = name; content = content }) w.files }

-- BLOB of an upload that was checked
unfoldable pub checked_blob : Store → ℕ → List ℕ → Result (List ℕ) Refusal → Outcome
checked_blob s lane name checked = do
  w ← want_writer (session s lane)
  _ ← unless BadName (is_blob_name name)
  _ ← want_room name w
  contents ← checked
  goes_on s lane (with_file name (blob contents) w) Done

unfoldable pub put_blob : Store → ℕ → List ℕ → List ℕ → Outcome
put_blob s lane name bytes = checked_blob s lane name (want_data bytes)

-- ---- FINISH

abbrev pub snapshot_of : Writer → Snapshot
snapshot_of w = record { key = w.key; files = w.files }

unfoldable pub finish : Store → ℕ → Outcome
finish s lane = do
  w ← want_writer (session s lane)
  _ ← finish_check w
  Ok (record (with_session s lane none) { snapshots = insert_snapshot (snapshot_of w) s.snapshots }, Done)

-- ---- ABORT

-- the writer ends, and its snapshot is never finished
unfoldable pub abort : Store → ℕ → Outcome
abort s lane = do
  _ ← want_writer (session s lane)
  Ok (ended s lane, Done)
