-- FILES, by what it finds and what the disk holds.
use Rattle.std.specs.Prelude.{◌≡◌, ◌<◌, ◌≤◌, ◌^◌, ℕ, List, map, length, take, Option, Some, None, option_map, Result, Ok, Err}
use Rattle.std.specs.Borrow.{Bor}
use Rattle.std.specs.FinMap.{get}
use Rattle.blob_codec.specs.Laws.{AreBytes}
use Rattle.disk_trait.specs.Files.{Files as Content}
use Rattle.disk_trait.specs.declared.disk.Disk.{Ghosts}
use Rattle.store_types.specs.declared.names.SnapshotKey.{SnapshotKey}
use Rattle.store_types.specs.declared.refusal.Refusal.{Refusal}
use Rattle.store_types.specs.declared.refusal.Refusal.TheVariants.{NoSnapshot, Unreadable}
use Rattle.store_types.specs.Chain.Refusing.{◌>>=◌, or_else, if_none}
use Rattle.store_files.specs.Manifest.{Manifest}
use Rattle.manifest.specs.Views.{manifest_view}
use Rattle.wire_commands.specs.declared.rows.FileRow.{FileRow}
use Rattle.wire_commands.specs.HasText.{ReplyHasText}
use Rattle.wire_commands.specs.declared.reply.Reply.{Reply}
use Rattle.wire_commands.specs.declared.reply.Reply.TheVariants.{Files, Refused}
use Rattle.store_model.specs.Stands.{file_limit}
use Rattle.store_files.specs.Folder.{manifest_path}
use Rattle.core_state.specs.declared.kept.Kept.{Kept}
use Rattle.core_state.specs.declared.kept.Listed.{Listed}
use Rattle.core_state.specs.Found.{kept_named}
use Rattle.store_stops.specs.declared.stop.Stop.{Stop}
use Rattle.store_stops.specs.declared.stop.Stop.TheVariants as stops
use Rattle.core_state.specs.Heads.{named_kept}
use Rattle.core_state.specs.Kept.{KeptAt}
use Rattle.core_state.specs.Listing.{listing_at}
use Rattle.store_history.specs.Replies.{reply_told}
use Rattle.store_stops.specs.Stops.{Gives}
use Rattle.core_state.specs.Unreadables.{Asked, as_listing, known}
use Rattle.core_admin.specs.declared.file_list.ManifestFile.{ManifestFile}
use Rattle.core_admin.specs.FileRows.{rows_by}

-- the snapshot's manifest is asked for, or the file that makes it damaged
abbrev pub asked_of : SnapshotKey → Option (List ℕ) → Asked
asked_of key None = record { path = manifest_path key; way = as_listing }
asked_of key (Some path) = record { path = path; way = known }

abbrev pub asked_at : Result Kept Refusal → Option Asked
asked_at (Ok k) = Some (asked_of k.key k.unreadable)
asked_at (Err refusal) = None

-- where the text names a snapshot
abbrev pub asked_files : List ℕ → KeptAt → Option Asked
asked_files text at = asked_at (named_kept text at)

-- the rows of its files, of which there are 64 at most
abbrev pub rows_in : List ℕ × Manifest → Kept → List FileRow
rows_in read k = rows_by read.0 (read.1).files (map (λ f. f.name) (take file_limit k.files))

-- as its manifest lists them, or that it is unreadable
abbrev pub rows_read : Content → Kept → Result (List FileRow) Refusal
rows_read m k = or_else (Unreadable (manifest_path k.key)) (listing_at m (manifest_path k.key)) >>= λ read. Ok (rows_in read k)

-- no file is known to make it damaged, or the refusal tells it
abbrev pub whole : Kept → Result Kept Refusal
whole k = if_none Unreadable k.unreadable >>= λ _. Ok k

-- the snapshot with this key, where it is there and whole
abbrev pub whole_of : SnapshotKey → List Listed → Result Kept Refusal
whole_of key catalogue = or_else NoSnapshot (kept_named key catalogue) >>= whole

-- it is found, or it is refused so
abbrev pub Finds : Result Kept Refusal → Result (Bor Kept) Stop → Type 0
Finds wanted (Ok k) = wanted ≡ Ok k.now
Finds wanted (Err (stops.Refused refusal)) = (wanted ≡ Err refusal) × ReplyHasText (Refused refusal)
Finds wanted (Err stops.NoMemory) = Unit {0}
Finds wanted (Err stops.DiskFailed) = ⊥

-- the snapshot that the text names, or the refusal
unfoldable pub to_tell : List ℕ → KeptAt → Result Kept Refusal
to_tell text at = named_kept text at >>= whole

-- and its files
abbrev pub files_told : Content → List ℕ → KeptAt → Result Reply Refusal
files_told m text at = to_tell text at >>= λ kept. rows_read m kept >>= λ rows. Ok (Files rows)

-- the manifest that was read, if any, is what stands at the path
abbrev pub ListsThere : Content → List ℕ → Option ManifestFile → Type 0
ListsThere m path read = option_map (λ (r : ManifestFile). (r.bytes.items, manifest_view r.listed)) read ≡ listing_at m path

-- the rows of the snapshot's files are given, or their refusal
abbrev pub GivesRows : Content → Kept → Result (List FileRow) Stop → Type 0
GivesRows m k result = Gives (λ rows. rows) result (rows_read m k)

-- what stands at the path, if anything, is bytes
abbrev pub HasBytes : Content → List ℕ → Type 0
HasBytes m path = (text : List ℕ) → get m path ≡ Some text → AreBytes text

-- rows or a refusal are told
abbrev pub IfTold : {A : Type 0} → Result A Stop → Type 0 → Type 0
IfTold (Ok x) P = P
IfTold (Err (stops.Refused refusal)) P = P
IfTold (Err stops.NoMemory) P = Unit {0}
IfTold (Err stops.DiskFailed) P = Unit {0}

-- where they are, what stands as the snapshot's manifest is bytes
abbrev pub TellsOfBytes : {A : Type 0} → Content → Kept → Result A Stop → Type 0
TellsOfBytes m k result = IfTold result (HasBytes m (manifest_path k.key))

-- of a whole snapshot rows, or that its manifest is unreadable
abbrev pub AnswersOf : SnapshotKey → Reply → Type 0
AnswersOf key (Files rows) = Unit {0}
AnswersOf key (Refused (Unreadable name)) = name ≡ manifest_path key
AnswersOf key _ = ⊥

-- on any disk, where there is such a snapshot that is whole; else the refusal
abbrev pub AnswersFiles : Result Kept Refusal → Reply → Type 0
AnswersFiles (Ok k) reply = AnswersOf k.key reply
AnswersFiles (Err refusal) reply = reply ≡ Refused refusal

-- and on an honest disk, whatever it holds, exactly by what the manifest on it lists
pub record TellsFiles {D : Type 0} (d : Ghosts D) (disk : D) (text : List ℕ) (at : KeptAt) (reply : Reply) : Type 0 where
  pub kept : AnswersFiles (to_tell text at) reply
  pub listed : d.honest disk → reply ≡ reply_told (files_told (d.content disk) text at)

-- the row of a file's name, of a number of 64 bits and of a SHA-256
abbrev pub IsFileRow : FileRow → Type 0
IsFileRow r = (length r.file ≤ 64) × (r.size < 2 ^ 64) × (length r.csum.0 ≡ 32)
