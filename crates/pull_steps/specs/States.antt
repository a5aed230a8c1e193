-- What a SYNC's state means.
use Rattle.std.specs.Prelude.{◌≤◌, ℕ, List, [], ◌∷◌, drop, length, All, Option, Some, None, ⊤}
use Rattle.std.specs.FinMap.{entries}
use Rattle.store_types.specs.declared.append.AppendEntry.{AppendEntry}
use Rattle.store_files.specs.Archive.{Layout, dynamic, fixed}
use Rattle.wire_commands.specs.declared.reply.Reply.TheVariants.{Done, Refused}
use Rattle.wire_commands.specs.HasText.{IsText, ReplyHasText}
use Rattle.store_history.specs.Pulling as model
use Rattle.store_history.specs.Pulling.{SyncJob, reports, asks, Pulling}
use Rattle.pull_steps.specs.declared.course.Course.{Course}
use Rattle.pull_steps.specs.declared.stages.AtEntry.{AtEntry}
use Rattle.pull_steps.specs.declared.stages.FileRead.{FileRead}
use Rattle.pull_steps.specs.declared.stages.HasBlob.{HasBlob}
use Rattle.pull_steps.specs.declared.stages.HasChunk.{HasChunk}
use Rattle.pull_steps.specs.declared.stages.HasFiles.{HasFiles}
use Rattle.pull_steps.specs.declared.stages.Index.{Index}
use Rattle.pull_steps.specs.declared.stages.ManifestRead.{ManifestRead}
use Rattle.pull_steps.specs.declared.stages.Sending.{Sending}
use Rattle.pull_steps.specs.declared.stages.Stock.{Stock}
use Rattle.pull_steps.specs.declared.pull.State.{State}
use Rattle.pull_steps.specs.declared.pull.State.TheVariants as states

-- ---- its parts

abbrev pub shown_course : Course → model.Course
shown_course c = record { snapshot = c.snapshot; later = c.later.items; pulled = c.pulled.items }

abbrev pub shown_stock : Stock → model.Stock
shown_stock s = record { manifest = s.manifest; names = s.names.items; sent = entries s.sent }

abbrev pub layout_of : ℕ → Option ℕ → Layout
layout_of size None = dynamic
layout_of size (Some chunk_size) = fixed size chunk_size

abbrev pub shown_index : Index → model.Index
shown_index x = record {
  name = x.name;
  layout = layout_of x.size x.chunk_size;
  entries = x.entries.items;
  size = x.size;
  csum = x.csum;
}

-- ---- at an entry

-- the first of these entries is at hand
abbrev pub asks_at : (AppendEntry → List AppendEntry → Pulling) → List AppendEntry → SyncJob
asks_at asked [] = reports Done
asks_at asked (e ∷ later) = asks (asked e later)

abbrev pub entries_at : AtEntry → List AppendEntry
entries_at a = drop a.place (a.sending).index.entries.items

abbrev pub course_at : AtEntry → model.Course
course_at a = shown_course (a.sending).course

abbrev pub stock_at : AtEntry → model.Stock
stock_at a = shown_stock (a.sending).stock

abbrev pub index_at : AtEntry → model.Index
index_at a = shown_index (a.sending).index

abbrev pub reading_at : AtEntry → SyncJob
reading_at a =
    asks_at (λ e later. model.reading_chunk (course_at a) (stock_at a) (index_at a) e later) (entries_at a)

abbrev pub sending_at : HasChunk → SyncJob
sending_at h =
    asks_at (λ e later. model.sending_chunk (course_at h.at) (stock_at h.at) (index_at h.at) e later h.blob)
    (entries_at h.at)

abbrev pub appending_at : AtEntry → SyncJob
appending_at a =
    asks_at (λ e later. model.appending (course_at a) (stock_at a) (index_at a) e later) (entries_at a)

-- ---- elsewhere in a snapshot

abbrev pub manifest_of : ManifestRead → Pulling
manifest_of r = model.reading_manifest (shown_course r.course) r.bytes.items

abbrev pub file_of : FileRead → Pulling
file_of r = model.reading_file (shown_course r.course) (shown_stock r.stock) r.name r.bytes.items

abbrev pub opening_of : Sending → Pulling
opening_of s = model.opening (shown_course s.course) (shown_stock s.stock) (shown_index s.index)

abbrev pub closing_of : Sending → Pulling
closing_of s = model.closing_index (shown_course s.course) (shown_stock s.stock) (shown_index s.index)

abbrev pub blob_of : HasBlob → Pulling
blob_of b = model.sending_blob (shown_course b.course) (shown_stock b.stock) b.name b.bytes

abbrev pub files_of : HasFiles → Pulling
files_of f = model.sending_manifest (shown_course f.course) (shown_stock f.stock)

-- ---- the state

abbrev pub pull_in : State → SyncJob
pull_in (states.Over report) = reports report
pull_in (states.Seeking s) = asks (model.seeking s.group)
pull_in (states.Comparing s) = asks (model.comparing s.group s.remote.items)
pull_in (states.Starting c) = asks (model.starting (shown_course c))
pull_in (states.ReadingManifest r) = asks (manifest_of r)
pull_in (states.ReadingFile r) = asks (file_of r)
pull_in (states.Opening s) = asks (opening_of s)
pull_in (states.ReadingChunk a) = reading_at a
pull_in (states.SendingChunk h) = sending_at h
pull_in (states.Appending a) = appending_at a
pull_in (states.ClosingIndex s) = asks (closing_of s)
pull_in (states.SendingBlob b) = asks (blob_of b)
pull_in (states.SendingManifest f) = asks (files_of f)
pull_in (states.Finishing c) = asks (model.finishing (shown_course c))
pull_in (states.Rejecting path) = asks (model.rejecting path)
pull_in (states.Aborting first) = asks (model.aborting first)

-- ---- spellings

-- as the text of a snapshot is
abbrev pub IsShort : List ℕ → Type 0
IsShort text = length text ≤ 100

abbrev pub CourseHasText : model.Course → Type 0
CourseHasText c = IsShort c.snapshot × All IsShort c.later × All IsShort c.pulled

-- What is reported has a text, or will have one where all that is asked is done.
abbrev pub EndsInText : SyncJob → Type 0
EndsInText (reports report) = ReplyHasText report
EndsInText (asks (model.seeking group)) = ⊤
EndsInText (asks (model.comparing group remote)) = All IsShort remote
EndsInText (asks (model.starting c)) = CourseHasText c
EndsInText (asks (model.reading_manifest c bytes)) = CourseHasText c
EndsInText (asks (model.reading_file c s name bytes)) = CourseHasText c
EndsInText (asks (model.opening c s x)) = CourseHasText c
EndsInText (asks (model.reading_chunk c s x e later)) = CourseHasText c
EndsInText (asks (model.sending_chunk c s x e later blob)) = CourseHasText c
EndsInText (asks (model.appending c s x e later)) = CourseHasText c
EndsInText (asks (model.closing_index c s x)) = CourseHasText c
EndsInText (asks (model.sending_blob c s name bytes)) = CourseHasText c
EndsInText (asks (model.sending_manifest c s)) = CourseHasText c
EndsInText (asks (model.finishing c)) = CourseHasText c
EndsInText (asks (model.rejecting path)) = IsText path
EndsInText (asks (model.aborting first)) = ReplyHasText (Refused first)
