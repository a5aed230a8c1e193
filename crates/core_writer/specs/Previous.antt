-- PREVIOUS, by what the core keeps and what the disk holds.
use Rattle.std.specs.Prelude.{◌≡◌, OnOk, OnErr, ℕ, List, if◌then◌else◌, Option, None, Some, Result, Ok, Err, IfOk, MatchResult}
use Rattle.std.specs.FinMap.{empty, entries}
use Rattle.std.specs.Borrow.{Bor}
use Rattle.disk_trait.specs.declared.disk.Disk.{Ghosts}
use Rattle.disk_trait.specs.Files.{Files}
use Rattle.store_types.specs.declared.names.SnapshotKey.{SnapshotKey}
use Rattle.store_types.specs.declared.refusal.Refusal.{Refusal}
use Rattle.store_types.specs.declared.refusal.Refusal.TheVariants.{NoSnapshot, NoFile}
use Rattle.store_types.specs.Chain.Refusing.{◌>>=◌, or_else}
use Rattle.store_types.specs.FileNames.{is_file_name}
use Rattle.wire_commands.specs.declared.reply.Reply.{Reply}
use Rattle.known_chunks.specs.Lengths.{Lengths, with_lengths}
use Rattle.paged_indexes.specs.declared.kinds.IndexKind.{IndexKind}
use Rattle.snapshot_files.specs.Indexes.{index_at, kind_named, lengths_from}
use Rattle.snapshot_files.specs.Parts.{part_reply}
use Rattle.store_stops.specs.Stops.{Gives}
use Rattle.store_stops.specs.declared.stop.Stop.{Stop}
use Rattle.backup_session.specs.Kept.{HasLengths}
use Rattle.backup_session.specs.Session.{settled}
use Rattle.backup_session.specs.Steps as rows
use Rattle.core_state.specs.declared.kept.Kept.{Kept}
use Rattle.core_state.specs.declared.kept.Listed.{Listed}
use Rattle.core_state.specs.declared.kept.Writing.{Writing}
use Rattle.core_state.specs.declared.kept.Session.{Session}
use Rattle.core_state.specs.declared.kept.Session.TheVariants.{Idle, Writer, Reader}
use Rattle.core_state.specs.declared.indexes.Indexes.{Indexes}
use Rattle.core_state.specs.declared.indexes.Indexes.TheVariants.{Pooled}
use Rattle.core_state.specs.declared.parts.Parts.{Parts}
use Rattle.core_state.specs.Found.{kept_named, path_named}
use Rattle.core_state.specs.Indexed.{is_pooled, pooling, row_at}
use Rattle.core_state.specs.Kept.{KeptAt, kept_at}
use Rattle.core_state.specs.Unreadables.{Asked, from_offset, read_by}
use Rattle.core_state.specs.Wanted.{session_at}
use Rattle.core_writer.specs.declared.previous_files.Given.{Given}

-- ---- the file of the base

abbrev pub kept_by : Option SnapshotKey → List Listed → Option Kept
kept_by None catalogue = None
kept_by (Some key) catalogue = kept_named key catalogue

-- where it stands, or the refusal
unfoldable pub base_file : Option SnapshotKey → List ℕ → List Listed → Result (List ℕ) Refusal
base_file base name catalogue = do
  kept ← or_else NoSnapshot (kept_by base catalogue)
  or_else NoFile (path_named name kept.files)

-- it is lent, or the refusal is told
abbrev pub LendsPath : Option SnapshotKey → List ℕ → List Listed → Result (Bor (List ℕ)) Refusal → Type 0
LendsPath base name catalogue result =
    MatchResult result (λ path. base_file base name catalogue ≡ Ok path.now) (λ refusal. base_file base name catalogue ≡ Err refusal)

-- An index is read whole, unless the writer may name all its pieces.
abbrev pub whole_for : Indexes → List ℕ → Option IndexKind
whole_for row name = if is_pooled name row then None else kind_named name

abbrev pub asked_at : Option IndexKind → ℕ → Result (List ℕ) Refusal → Option Asked
asked_at whole offset (Ok path) = Some (record { path = path; way = from_offset whole offset })
asked_at whole offset (Err refusal) = None

-- the file that a session asks for
abbrev pub asked_by : Indexes → List Listed → List ℕ → ℕ → Session → Option Asked
asked_by row catalogue name offset Idle = None
asked_by row catalogue name offset (Writer w) =
    if is_file_name name then asked_at (whole_for row name) offset (base_file ((w.session).writer).base name catalogue) else None
asked_by row catalogue name offset (Reader r) = None

abbrev pub asked_of_base : List ℕ → ℕ → KeptAt → Option Asked
asked_of_base name offset k = asked_by k.row k.catalogue name offset k.session

-- ---- what is read of it

-- the lengths of pieces by their digests
abbrev pub as_map : List (List ℕ × ℕ) → Lengths
as_map pieces = with_lengths empty pieces

-- a part, and the lengths of an index's pieces by their digests
pub record Previous : Type 0 where
  pub part : Reply
  pub pieces : Lengths

abbrev pub previous_by : Option IndexKind → Files → List ℕ → ℕ → Result Previous Refusal
previous_by None m path offset = read_by None m path offset >>= λ part. Ok (record { part = part; pieces = empty })
previous_by (Some kind) m path offset = index_at m path kind offset >>= λ x. Ok (record { part = x.part; pieces = as_map (lengths_from 0 x.entries) })

abbrev pub shown_given : Given → Previous
shown_given g = record { part = part_reply g.part; pieces = g.pieces }

-- an honest disk gives it, or the refusal is told
abbrev pub GivesPrevious : {D : Type 0} → Ghosts D → D → List ℕ → Option IndexKind → ℕ → Result Given Stop → Type 0
GivesPrevious d disk path whole offset result =
    d.honest disk → Gives shown_given result (previous_by whole (d.content disk) path offset)

-- lengths that pieces have
abbrev pub ArePieces : Lengths → Type 0
ArePieces pieces = HasLengths (entries pieces)

-- ---- what the session notes of it

-- the session has a writer, and no file of it is pending
abbrev pub MayKnow : Session → Type 0
MayKnow Idle = ⊥
MayKnow (Writer w) = (w.session).pending ≡ None
MayKnow (Reader r) = ⊥

-- the writer may name the pieces
abbrev pub knowing : Writing → Lengths → Writing
knowing w pieces = record w { session = settled (rows.previous (w.session).writer pieces) }

abbrev pub with_known : Lengths → Session → Session
with_known pieces Idle = Idle
with_known pieces (Writer w) = Writer (knowing w pieces)
with_known pieces (Reader r) = Reader r

-- of an index that was read whole the writer may name all pieces
abbrev pub known_by_whole : Option IndexKind → Lengths → Session → Session
known_by_whole None pieces session = session
known_by_whole (Some of_kind) pieces session = with_known pieces session

-- and the lane keeps its name
abbrev pub kept_by_whole : Option IndexKind → List ℕ → Indexes → Indexes
kept_by_whole None name row = row
kept_by_whole (Some of_kind) name row = Pooled (pooling name row)

-- The file was asked for and its part is the reply. Of an index that was read whole the writer may name all pieces: those that an honest
-- disk gave, whatever it holds, and on any disk some that have such lengths. By another file the session is as before.
pub record NotesPieces {D : Type 0} (d : Ghosts D) (old new : Parts D) (lane : ℕ) (name : List ℕ) (offset : ℕ) (reply : Reply) : Type 0 where
  pub path : List ℕ
  pub asked : asked_of_base name offset (kept_at old lane) ≡ asked_at (whole_for (row_at old lane) name) offset (Ok path)
  pub pieces : Lengths
  pub are : ArePieces pieces
  pub read : d.honest old.disk → previous_by (whole_for (row_at old lane) name) (d.content old.disk) path offset ≡ Ok (record { part = reply; pieces = pieces })
  pub known : session_at new lane ≡ known_by_whole (whole_for (row_at old lane) name) pieces (session_at old lane)

-- what the lane keeps of indexes, and what its session notes: where PREVIOUS stopped, what it kept
pub record NotesPooled {D : Type 0} (d : Ghosts D) (old new : Parts D) (lane : ℕ) (name : List ℕ) (offset : ℕ) (result : Result Reply Stop) : Type 0 where
  pub noted : OnOk result (row_at new lane ≡ kept_by_whole (whole_for (row_at old lane) name) name (row_at old lane))
  pub known : IfOk result (NotesPieces d old new lane name offset)
  pub stopped : OnErr result (row_at new lane ≡ row_at old lane)
