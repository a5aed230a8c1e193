-- What a reader asks for.
use Rattle.std.specs.Prelude.{◌≡◌, ℕ, ◌+◌, List, Option, None, Some, option_map, if◌then◌else◌, Result, Ok, Err, String, string_bytes}
use Rattle.std.specs.declared.alloc.Global.{Global}
use Rattle.std.specs.Result.{result_ok}
use Rattle.store_types.specs.declared.refusal.Refusal.{Refusal}
use Rattle.store_types.specs.declared.names.SnapshotKey.{SnapshotKey}
use Rattle.store_types.specs.declared.refusal.Refusal.TheVariants.{BadName, NoFile, NoSnapshot, Unreadable}
use Rattle.store_types.specs.Chain.Refusing.{◌>>=◌, if_none, or_else, unless}
use Rattle.store_types.specs.FileNames.{is_file_name, is_index_name}
use Rattle.wire_commands.specs.declared.command.Command.TheVariants.{Download, OpenReader, Range}
use Rattle.wire_commands.specs.declared.reply.Reply.TheVariants.{Data}
use Rattle.store_history.specs.declared.act.Act.{Act}
use Rattle.store_history.specs.declared.act.Act.TheVariants.{Plain, ReadFile, ReadChunk}
use Rattle.store_files.specs.DynamicIndex.{Ended}
use Rattle.store_files.specs.Archive.{Archive, Snapshot, archive}
use Rattle.store_model.specs.Store.{Reader as PlainReader, reader as reader_of}
use Rattle.store_model.specs.ReaderSteps.{content_at, note as noted}
use Rattle.disk_trait.specs.Files.{Files}
use Rattle.paged_indexes.specs.declared.index.IndexPages.{IndexPages}
use Rattle.paged_indexes.specs.declared.kinds.IndexKind.{IndexKind}
use Rattle.snapshot_files.specs.Indexes.{index_at, index_opened, kind_named}
use Rattle.snapshot_files.specs.Parts.{part_reply}
use Rattle.disk_trait.specs.declared.disk.Disk.{Ghosts}
use Rattle.restore_reader.specs.declared.index.Table.{Table}
use Rattle.restore_reader.specs.Kept.{IsTable}
use Rattle.restore_reader.specs.Session.{Reading}
use Rattle.restore_reader.specs.Shown.{IsOf}
use Rattle.restore_reader.specs.Steps as steps
use Rattle.core_state.specs.Kept.{KeptAt, kept_at}
use Rattle.core_state.specs.declared.kept.Kept.{Kept}
use Rattle.core_state.specs.declared.kept.Session.{Session}
use Rattle.core_state.specs.declared.kept.Session.TheVariants.{Idle, Writer, Reader}
use Rattle.core_state.specs.declared.parts.Parts.{Parts}
use Rattle.store_stops.specs.declared.stop.Stop.{Stop}
use Rattle.store_stops.specs.declared.stop.Stop.TheVariants as stops
use Rattle.core_state.specs.Found.{kept_named, path_in}
use Rattle.core_state.specs.Heads.{idle_key}
use Rattle.core_state.specs.Shown.{files_named, shown_session}
use Rattle.store_stops.specs.Stops.{Gives}
use Rattle.core_state.specs.Unreadables.{Asked, at_entry, from_offset, known, read_with}
use Rattle.core_state.specs.Wanted.{reader_in}
use Rattle.core_reader.specs.declared.downloading.AskedFile.{AskedFile}
use Rattle.core_reader.specs.declared.downloading.Given.{Given}
use Rattle.core_state.specs.declared.indexes.Indexes.{Indexes}
use Rattle.core_reader.specs.Entries.{entry_by}
use Rattle.core_reader.specs.Ranges.{RangeAsked, range_asked, range_with}

-- ---- the snapshot

-- the snapshot that is to be read, or the refusal
abbrev pub to_read : List ℕ → KeptAt → Result Kept Refusal
to_read text k = do
  key ← idle_key text k
  or_else NoSnapshot (kept_named key k.catalogue)

-- its key, where it is whole: no file is known to make it damaged
unfoldable pub to_open : List ℕ → KeptAt → Result SnapshotKey Refusal
to_open text k = do
  key ← idle_key text k
  x ← or_else NoSnapshot (kept_named key k.catalogue)
  _ ← if_none Unreadable x.unreadable
  Ok key

-- the file that makes it damaged
abbrev pub as_known : List ℕ → Asked
as_known path = record { path = path; way = known }

abbrev pub damage_of : Result Kept Refusal → Option Asked
damage_of (Ok k) = option_map as_known k.unreadable
damage_of (Err refusal) = None

-- an OPEN_READER asks for it
abbrev pub asked_open : List ℕ → KeptAt → Option Asked
asked_open text k = damage_of (to_read text k)

-- ---- files

-- an index that was not downloaded before is read whole
abbrev pub whole_for : Reading → List ℕ → Option IndexKind
whole_for r file = if steps.is_downloaded r file then None else kind_named file

abbrev pub asked_at : Reading → List ℕ → ℕ → List ℕ → Asked
asked_at r file offset path = record { path = path; way = from_offset (whole_for r file) offset }

-- a file of the snapshot of the lane's reader, or the refusal before it is read
unfoldable pub file_asked : List ℕ → ℕ → KeptAt → Result Asked Refusal
file_asked file offset k = do
  r ← reader_in k.session
  _ ← unless BadName (is_file_name file)
  path ← or_else NoFile (path_in r.key file k.catalogue)
  Ok (asked_at r file offset path)

-- the file that a DOWNLOAD asks for
abbrev pub asked_download : List ℕ → ℕ → KeptAt → Option Asked
asked_download file offset k = result_ok (file_asked file offset k)

-- ---- a VERIFY's own reads

-- the file of the snapshot of the lane's reader that has this name, where it stands, or the refusal before it is read
unfoldable pub place_of : List ℕ → KeptAt → Result (List ℕ) Refusal
place_of name k = do
  r ← reader_in k.session
  or_else NoFile (path_in r.key name k.catalogue)

-- it is told where, or the refusal
abbrev pub GivesPlace : {D : Type 0} → Parts D → ℕ → List ℕ → Result (String Global) Stop → Type 0
GivesPlace parts lane name result = Gives (λ (path : String Global). string_bytes path) result (place_of name (kept_at parts lane))

-- a part of it, whatever it is
abbrev pub as_part : ℕ → List ℕ → Asked
as_part offset path = record { path = path; way = from_offset None offset }

abbrev pub asked_part : List ℕ → ℕ → KeptAt → Option Asked
asked_part name offset k = option_map (as_part offset) (result_ok (place_of name k))

-- an index of the snapshot of the lane's reader that has this name, where it stands, or the refusal before it is read
unfoldable pub index_of : List ℕ → KeptAt → Result (List ℕ) Refusal
index_of name k = do
  r ← reader_in k.session
  _ ← unless NoFile (is_index_name name)
  or_else NoFile (path_in r.key name k.catalogue)

-- an entry of it, beside what the lane keeps of indexes
abbrev pub as_entry : Indexes → List ℕ → ℕ → List ℕ → Asked
as_entry row name place path = record { path = path; way = at_entry (entry_by row name place) }

abbrev pub asked_entry : List ℕ → ℕ → KeptAt → Option Asked
asked_entry name place k = option_map (as_entry k.row name place) (result_ok (index_of name k))

-- ---- a range

-- the index, of which the pages that are not at hand are read from one offset up to another, and the chunks of each
abbrev pub as_range : ℕ → ℕ → RangeAsked → Asked
as_range from to q = record { path = (q.index).path; way = read_with (λ m path. range_with m q from to >>= λ bytes. Ok (Data bytes)) }

abbrev pub asked_range : List ℕ → ℕ → ℕ → KeptAt → Option Asked
asked_range file offset len k = option_map (as_range offset (offset + len)) (result_ok (range_asked file offset len k))

-- ---- by the act

-- the file that an act asks for
abbrev pub asked_file : Act → KeptAt → Option Asked
asked_file (Plain (OpenReader snapshot)) k = asked_open snapshot k
asked_file (Plain (Download file offset)) k = asked_download file offset k
asked_file (Plain (Range file offset len)) k = asked_range file offset len k
asked_file (ReadFile name offset) k = asked_part name offset k
asked_file (ReadChunk name entry) k = asked_entry name entry k
asked_file act k = None

-- a file that was found, read as a part from an offset
abbrev pub asked_from : ℕ → AskedFile → Asked
asked_from offset a = record { path = string_bytes a.path; way = from_offset a.whole offset }

-- it is found, or the refusal is told, whatever the offset
abbrev pub GivesFile : {D : Type 0} → Parts D → ℕ → List ℕ → Result AskedFile Stop → Type 0
GivesFile parts lane file result =
    (offset : ℕ) → Gives (asked_from offset) result (file_asked file offset (kept_at parts lane))

-- ---- an index that is read whole

-- A part of the index at the path is given; what is kept is the index's, and the table has its entries.
pub record IsGiven (content : Files) (path : List ℕ) (of_kind : IndexKind) (offset : ℕ) (g : Given) : Type 0 where
  pub entries : List Ended
  pub read : index_at content path of_kind offset ≡ Ok (record { part = part_reply g.part; entries = entries })
  pub opened : index_opened content path of_kind ≡ Ok g.pages
  pub table : IsTable g.table 0 entries

-- or its refusal
abbrev pub GivesTable : Files → List ℕ → IndexKind → ℕ → Result Given Stop → Type 0
GivesTable content path of_kind offset (Ok g) = IsGiven content path of_kind offset g
GivesTable content path of_kind offset (Err (stops.Refused refusal)) = index_at content path of_kind offset ≡ Err refusal
GivesTable content path of_kind offset (Err stop) = Unit {0}

abbrev pub ReadsTable : {D : Type 0} → Ghosts D → D → List ℕ → IndexKind → ℕ → Result Given Stop → Type 0
ReadsTable d disk path of_kind offset result = d.honest disk → GivesTable (d.content disk) path of_kind offset result

-- the reader with an archive noted, unless one of the name is
abbrev pub noting : List ℕ → Table → IndexPages → Session → Session
noting name table pages Idle = Idle
noting name table pages (Writer w) = Writer w
noting name table pages (Reader r) = Reader (steps.downloaded r name table pages)

-- what a session shows of a plain reader is with the archive noted of which these are the table and the pages
abbrev pub NotesPlainly : List ℕ → Table → IndexPages → Session → Session → Type 0
NotesPlainly name table pages old new =
    (snapshots : List Snapshot) (r : PlainReader) (a : Archive) → old ≡ shown_session snapshots (reader_of r)
    → content_at (files_named r.key snapshots) name ≡ Some (archive a) → IsOf r.key name a table pages
    → new ≡ shown_session snapshots (reader_of (noted name (archive a) r))
