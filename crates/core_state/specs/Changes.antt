-- What an act changes of a disk, by the act and what the core keeps: as an honest disk reads once it is done, and in what a crash leaves.
use Rattle.std.specs.Prelude.{◌≡◌, ◌⊎◌, ℕ, not, if◌then◌else◌, is_some, List, ◌∷◌, map, filter, Option, Some, None, Result, Ok, Err}
use Rattle.std.specs.List.{filter_map, find}
use Rattle.std.specs.Result.{result_ok}
use Rattle.std.specs.Str.{bytes_eq}
use Rattle.std.specs.FinMap.{get}
use Rattle.disk_trait.specs.Files.{Files}
use Rattle.disk_trait.specs.Disk.{Same, Now, After}
use Rattle.disk_trait.specs.Effects.{LeavesBy}
use Rattle.disk_trait.specs.declared.disk.Disk.{Ghosts}
use Rattle.file_install.specs.Install.{installed, Installs, InstallsFirm}
use Rattle.store_types.specs.FileNames.{manifest_name}
use Rattle.store_types.specs.declared.names.Digest32.{Digest32}
use Rattle.store_types.specs.declared.refusal.Refusal.{Refusal}
use Rattle.store_types.specs.declared.refusal.Refusal.TheVariants as refusals
use Rattle.store_files.specs.Folder.{chunk_name, file_path, manifest_path}
use Rattle.wire_commands.specs.declared.reply.Reply.{Reply}
use Rattle.wire_commands.specs.declared.reply.Reply.TheVariants as replies
use Rattle.snapshot_files.specs.Forgotten.{Forgets, ForgetsFirm, MayLose, without}
use Rattle.store_history.specs.declared.act.Act.{Act}
use Rattle.store_history.specs.Profile.{DiskChange, new_file, new_chunk, new_index, new_manifest, no_files, no_snapshot, swept, OnDisk, no_call, only_reads, disk_change, profile}
use Rattle.backup_session.specs.Indexes.{text_of}
use Rattle.backup_session.specs.Session.{Open}
use Rattle.backup_session.specs.Steps.{begun_at}
use Rattle.store_stops.specs.declared.stop.Stop.{Stop}
use Rattle.store_stops.specs.declared.stop.Stop.TheVariants.{Refused, NoMemory, DiskFailed}
use Rattle.core_state.specs.declared.kept.Kept.{Kept}
use Rattle.core_state.specs.declared.kept.Writing.{Writing}
use Rattle.core_state.specs.declared.kept.StoredFile.{StoredFile}
use Rattle.core_state.specs.declared.kept.Session.{Session}
use Rattle.core_state.specs.declared.kept.Session.TheVariants.{Idle, Writer, Reader}
use Rattle.core_state.specs.Heads.{named_kept}
use Rattle.core_state.specs.Kept.{KeptAt}
use Rattle.core_state.specs.Shown.{put_at}

pub data Change : Type 0 where
  -- nothing
  stays : Change
  -- no such act is done: a FINISH without a writer that has a manifest
  undone : Change
  -- these bytes stand at this path
  installs : List ℕ → List ℕ → Change
  -- so they do where nothing stands there
  stores : List ℕ → List ℕ → Change
  -- nothing stands at these paths any more
  drops : List (List ℕ) → Change
  -- these bytes stand at this path, a manifest's, for good
  finishes : List ℕ → List ℕ → Change
  -- nothing stands at this path, a manifest's, for good, and only then nothing at these
  forgets : List ℕ → List (List ℕ) → Change

-- ---- the change of an act

-- a file of the writer; the manifest is not put, but kept until the snapshot is finished
abbrev pub file_put : List ℕ → List ℕ → Writing → Change
file_put name bytes w = if bytes_eq name manifest_name then stays else installs (file_path ((w.session).writer).key name) bytes

abbrev pub blob_put : List ℕ → Result (List ℕ) Refusal → Writing → Change
blob_put name (Ok bytes) w = file_put name bytes w
blob_put name (Err refusal) w = stays

abbrev pub index_put : Option Open → Writing → Change
index_put (Some b) w = file_put b.name (text_of b.index) w
index_put None w = stays

-- a chunk that is sent, whether the session knows its digest or not
abbrev pub chunk_put : Digest32 → Result (List ℕ) Refusal → Change
chunk_put digest (Ok bytes) = stores (chunk_name digest.0) bytes
chunk_put digest (Err refusal) = stays

abbrev pub manifest_by : Option (List ℕ) → Option StoredFile → Option (List ℕ × List ℕ)
manifest_by (Some text) (Some f) = Some (f.path, text)
manifest_by _ _ = None

-- the name of the writer's manifest in the datastore folder, and its text
abbrev pub kept_manifest : Writing → Option (List ℕ × List ℕ)
kept_manifest w = manifest_by ((w.session).writer).manifest (find (λ f. bytes_eq f.name manifest_name) w.files)

abbrev pub finish_put : Option (List ℕ × List ℕ) → Change
finish_put (Some m) = finishes m.0 m.1
finish_put None = undone

-- a snapshot is finished where the lane has a writer with a manifest
abbrev pub finish_by : Session → Change
finish_by Idle = undone
finish_by (Writer w) = finish_put (kept_manifest w)
finish_by (Reader r) = undone

-- where the files beside the manifest stand
abbrev pub put_paths : List StoredFile → List (List ℕ)
put_paths files = filter_map put_at files

-- the names of a finished snapshot's files beside the manifest, and where they stand
abbrev pub names_beside : List StoredFile → List (List ℕ)
names_beside files = map (λ f. f.name) (filter (λ f. not (bytes_eq f.name manifest_name)) files)

abbrev pub paths_beside : Kept → List (List ℕ)
paths_beside k = map (file_path k.key) (names_beside k.files)

abbrev pub forgotten : Option Kept → Change
forgotten (Some k) = forgets (manifest_path k.key) (paths_beside k)
forgotten None = stays

-- where the lane has a writer
abbrev pub by_writer : Session → (Writing → Change) → Change
by_writer Idle change = stays
by_writer (Writer w) change = change w
by_writer (Reader r) change = stays

abbrev pub change_by : DiskChange → KeptAt → Change
change_by (new_file name checked) k = by_writer k.session (blob_put name checked)
change_by (new_chunk digest checked) k = by_writer k.session (λ w. chunk_put digest checked)
change_by (new_index number) k = by_writer k.session (λ w. index_put (begun_at number (w.session).writer) w)
change_by new_manifest k = finish_by k.session
change_by no_files k = by_writer k.session (λ w. drops (put_paths w.files))
change_by (no_snapshot snapshot) k = forgotten (result_ok (named_kept snapshot k))
change_by swept k = stays

abbrev pub change_on : OnDisk → KeptAt → Change
change_on no_call k = stays
change_on only_reads k = stays
change_on (disk_change change) k = change_by change k

-- of a collector's acts it says nothing
abbrev pub change_of : Act → KeptAt → Change
change_of act k = change_on (profile act).disk k

-- ---- what comes of it

-- the act was done or met a fault of the disk, and else nothing has changed
abbrev pub by_stop : Change → Result Reply Stop → Change
by_stop change (Ok reply) = change
by_stop change (Err (Refused refusal)) = stays
by_stop change (Err NoMemory) = stays
by_stop change (Err DiskFailed) = change

abbrev pub by_reply : Change → Option Reply → Change
by_reply change (Some (replies.Refused refusals.DiskFault)) = change
by_reply change (Some (replies.Refused refusal)) = stays
by_reply change _ = change

-- as an honest disk reads once it is done
abbrev pub after : Change → Files → Files
after stays m = m
after undone m = m
after (installs path bytes) m = installed m path bytes
after (stores name bytes) m = if is_some (get m name) then m else installed m name bytes
after (drops paths) m = without paths m
after (finishes path bytes) m = installed m path bytes
after (forgets manifest paths) m = without (manifest ∷ paths) m

-- What a crash leaves of what it left before, of a disk that read so as the act began. A file that is put is there whole, or all but its
-- temporary name is as it was.
abbrev pub MayLeave : Change → Files → Files → Files → Type 0
MayLeave stays read old new = Same old new
MayLeave undone read old new = Same old new
MayLeave (installs path bytes) read old new = Installs read path bytes old new
MayLeave (stores name bytes) read old new = (new ≡ old) ⊎ ((get read name ≡ None) × Installs read name bytes old new)
MayLeave (drops paths) read old new = MayLose paths old new
MayLeave (finishes path bytes) read old new = Installs read path bytes old new
MayLeave (forgets manifest paths) read old new = Forgets manifest paths old new

abbrev pub LeavesChange : {D : Type 0} → Ghosts D → D → D → Change → Type 0
LeavesChange d old new change = LeavesBy d old new (MayLeave change (d.content old))

-- once it is done, a manifest that was put is there in all that a crash leaves, with all that the disk read; one that was removed is gone,
-- and of the rest its own files alone may be
abbrev pub IsFirm : {D : Type 0} → Ghosts D → D → D → Change → Type 0
IsFirm d old new (finishes path bytes) = Now d.calls d.images new (After d.calls d.images old (InstallsFirm (d.content old) path bytes))
IsFirm d old new (forgets manifest paths) = Now d.calls d.images new (After d.calls d.images old (ForgetsFirm (d.content old) manifest paths))
IsFirm d old new undone = ⊥
IsFirm d old new _ = Unit {0}
