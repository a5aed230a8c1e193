-- What the core keeps of the plain store.
use Rattle.std.specs.Prelude.{ℕ, List, [], map, Option, None, Some, if◌then◌else◌}
use Rattle.std.specs.Str.{bytes_eq}
use Rattle.store_types.specs.FileNames.{manifest_name}
use Rattle.store_types.specs.declared.names.SnapshotKey.{SnapshotKey}
use Rattle.store_files.specs.Archive.{File, Snapshot}
use Rattle.store_model.specs.Store as model
use Rattle.store_files.specs.Folder.{file_path}
use Rattle.backup_session.specs.Session.{settled}
use Rattle.backup_session.specs.Shown.{shown}
use Rattle.restore_reader.specs.Session.{Reading}
use Rattle.restore_reader.specs.Shown as readers
use Rattle.core_state.specs.declared.kept.StoredFile.{StoredFile}
use Rattle.core_state.specs.declared.kept.Kept.{Kept}
use Rattle.core_state.specs.declared.kept.Writing.{Writing}
use Rattle.core_state.specs.declared.kept.Session.{Session}
use Rattle.core_state.specs.declared.kept.Session.TheVariants.{Idle, Writer, Reader}

-- where the file stands on the disk while its snapshot is not finished: the manifest is not put before
abbrev pub put_at : StoredFile → Option (List ℕ)
put_at f = if bytes_eq f.name manifest_name then None else Some f.path

abbrev pub shown_file : SnapshotKey → File → StoredFile
shown_file key f = record { name = f.name; path = file_path key f.name }

abbrev pub shown_files : SnapshotKey → List File → List StoredFile
shown_files key files = map (shown_file key) files

abbrev pub shown_snapshot : Snapshot → Kept
shown_snapshot x = record { key = x.key; files = shown_files x.key x.files; unreadable = None }

abbrev pub files_named : SnapshotKey → List Snapshot → List File
files_named key snapshots = elim (model.snapshot_named key snapshots) [ None ↦ [] | Some x ↦ x.files ]

abbrev pub shown_writer : model.Writer → Writing
shown_writer w = record { session = settled (shown w); files = shown_files w.key w.files }

-- a reader of one of these snapshots
abbrev pub shown_reader : List Snapshot → model.Reader → Reading
shown_reader snapshots r = readers.shown (files_named r.key snapshots) r

abbrev pub shown_session : List Snapshot → model.Session → Session
shown_session snapshots model.none = Idle
shown_session snapshots (model.writer w) = Writer (shown_writer w)
shown_session snapshots (model.reader r) = Reader (shown_reader snapshots r)
