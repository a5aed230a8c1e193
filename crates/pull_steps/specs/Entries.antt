-- The entries of an index that a SYNC sends.
use Rattle.std.specs.Prelude.{◌≡◌, ℕ, ◌+◌, ◌<◌, List, ◌∷◌, drop, length, Some, Result, OnOk, OnErr, ◌==◌, true}
use Rattle.store_types.specs.declared.append.AppendEntry.{AppendEntry}
use Rattle.wire_commands.specs.declared.reply.Reply.{Reply}
use Rattle.wire_commands.specs.declared.reply.Reply.TheVariants.{Data}
use Rattle.store_history.specs.Pulling as model
use Rattle.store_history.specs.Pulling.{SyncJob}
use Rattle.pull_steps.specs.declared.ask.Ask.{Ask}
use Rattle.pull_steps.specs.declared.sending.Next.{Next}
use Rattle.pull_steps.specs.declared.sending.Next.TheVariants as nexts
use Rattle.pull_steps.specs.declared.stages.AtEntry.{AtEntry}
use Rattle.pull_steps.specs.declared.stages.Sending.{Sending}
use Rattle.pull_steps.specs.Asked.{AsksNext}
use Rattle.pull_steps.specs.Indexes.{size_first}
use Rattle.pull_steps.specs.States.{asks_at, course_at, entries_at, index_at, reading_at, shown_course, shown_index, shown_stock, stock_at}
use Rattle.pull_steps.specs.Taken.{mismatched_of}

-- ---- from an entry on

abbrev pub chunk_from : Sending → List AppendEntry → SyncJob
chunk_from s entries =
    model.next_chunk (shown_course s.course) (shown_stock s.stock) (shown_index s.index) entries

abbrev pub append_from : Sending → List AppendEntry → SyncJob
append_from s entries =
    model.next_append (shown_course s.course) (shown_stock s.stock) (shown_index s.index) entries

-- after the reply to the opening of its index
abbrev pub opened_by : Sending → Reply → SyncJob
opened_by s reply = model.goes_on reply (chunk_from s s.index.entries.items)

-- at the entry where a chunk was not sent it is read next, and where all were sent the entries are appended
abbrev pub from_next : Sending → Next → SyncJob
from_next s (nexts.Unsent place) =
    asks_at (λ e later. model.reading_chunk (shown_course s.course) (shown_stock s.stock) (shown_index s.index) e later)
    (drop place s.index.entries.items)
from_next s (nexts.Mismatched digest) = mismatched_of digest
from_next s nexts.End = append_from s s.index.entries.items

abbrev pub IsWithin : ℕ → Next → Type 0
IsWithin count (nexts.Unsent place) = place < count
IsWithin count next = Unit {0}

pub record IsNext (s : Sending) (from : ℕ) (found : Next) : Type 0 where
  pub next : chunk_from s (drop from s.index.entries.items) ≡ from_next s found
  pub within : IsWithin (length s.index.entries.items) found

-- ---- at an entry

-- what it asks is this
abbrev pub AsksAt : SyncJob → Ask → Type 0
AsksAt job asked = AsksNext job (Some asked)

-- behind the entry's chunk, and behind the entries of an APPEND
abbrev pub chunk_behind : AtEntry → SyncJob
chunk_behind a = chunk_from a.sending (drop (a.place + 1) (a.sending).index.entries.items)

abbrev pub appended_behind : AtEntry → SyncJob
appended_behind a = append_from a.sending (drop (a.place + model.batch) (a.sending).index.entries.items)

-- the reply to the read of its chunk was taken
abbrev pub chunk_told_at : AtEntry → Reply → SyncJob
chunk_told_at a reply = model.take_more (reading_at a) reply

-- the size that the index gives its blob, and a blob that has it
abbrev pub size_at : AtEntry → ℕ
size_at a = size_first (index_at a) (entries_at a)

abbrev pub IsAsLong : AtEntry → List ℕ → Type 0
IsAsLong a blob = (length blob == size_at a) ≡ true

-- its blob was read
abbrev pub chunk_read_at : AtEntry → List ℕ → SyncJob
chunk_read_at a blob = chunk_told_at a (Data blob)

-- its blob counts as sent, or memory is wanting and nothing has changed
pub record NotesChunk {E : Type 0} (old new : AtEntry) (blob : List ℕ) (result : Result (Unit {0}) E) : Type 0 where
  pub err : OnErr result (stock_at new ≡ stock_at old)
  pub place : new.place ≡ old.place
  pub course : course_at new ≡ course_at old
  pub index : index_at new ≡ index_at old
  pub sent : (e : AppendEntry) (later : List AppendEntry) → entries_at old ≡ e ∷ later →
      OnOk result (stock_at new ≡ model.with_chunk e blob (stock_at old))
