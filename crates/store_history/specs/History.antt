-- What acts do to the plain store, and what they answer.
use Rattle.std.specs.Prelude.{zero, suc, ℕ, ◌+◌, Bool, true, false, List, [], ◌∷◌, map, filter, ◌==◌, if◌then◌else◌, Option, Some, None, Result, Ok, Err}
use Rattle.std.specs.List.{flat_map}
use Rattle.store_types.specs.declared.order.Entry.{Entry}
use Rattle.store_types.specs.declared.names.Digest32.{Digest32}
use Rattle.store_types.specs.declared.refusal.Refusal.{Refusal}
use Rattle.store_types.specs.declared.refusal.Refusal.TheVariants.{NoMemory}
use Rattle.store_files.specs.Archive.{Snapshot}
use Rattle.store_files.specs.Book.{Touch}
use Rattle.wire_commands.specs.declared.reply.Reply.{Reply}
use Rattle.wire_commands.specs.declared.reply.Reply.TheVariants.{Done}
use Rattle.store_model.specs.Store.{Store, store_of, Outcome, ended}
use Rattle.store_model.specs.WriterSteps.{checked_blob, want_data}
use Rattle.store_model.specs.ArchiveSteps.{checked_chunk}
use Rattle.store_model.specs.ReaderSteps.{read_file, read_chunk}
use Rattle.store_model.specs.Steps.{outcome, answered}
use Rattle.store_model.specs.Lanes.{Collecting, collects}
use Rattle.store_model.specs.Weave.{first_fault}
use Rattle.store_history.specs.declared.act.Act.{Act}
use Rattle.store_history.specs.declared.act.Act.TheVariants as acts
use Rattle.store_history.specs.declared.act.Event.{Event}
use Rattle.store_history.specs.Acts.{Class, sweeping, class_of, sent_chunk}

-- ---- events

abbrev pub entry : Event → Entry
entry e = (e.answer).entry

abbrev pub lane : Event → ℕ
lane e = (entry e).lane

abbrev pub moment : Event → ℕ
moment e = (entry e).moment

abbrev pub kind : Event → ℕ
kind e = (entry e).kind

abbrev pub reply : Event → Option Reply
reply e = (e.answer).reply

abbrev pub entries : List Event → List Entry
entries h = map entry h

-- a lane's own events
abbrev pub is_of : ℕ → Event → Bool
is_of k e = lane e == k

abbrev pub own : ℕ → List Event → List Event
own k h = filter (is_of k) h

-- ---- the kinds of entries

pub data EntryKind : Type 0 where
  -- the next command, or the next step of the lane's job
  step_kind : EntryKind
  -- a mark or a visit of a collector, or a read of the remote
  pass_kind : EntryKind
  -- want of memory
  short_kind : EntryKind
  -- the start of a collector, and its end
  start_kind : EntryKind
  close_kind : EntryKind
  -- a fault of the disk, and what comes after it
  fault_kind : EntryKind
  -- a lane's end
  end_kind : EntryKind
  -- a read of the remote that failed
  remote_kind : EntryKind
  no_kind : EntryKind

abbrev pub kind_of : ℕ → EntryKind
kind_of zero = step_kind
kind_of (suc zero) = pass_kind
kind_of (suc (suc zero)) = short_kind
kind_of (suc (suc (suc zero))) = start_kind
kind_of (suc (suc (suc (suc zero)))) = close_kind
kind_of (suc (suc (suc (suc (suc zero))))) = fault_kind
kind_of (suc (suc (suc (suc (suc (suc zero)))))) = end_kind
kind_of (suc (suc (suc (suc (suc (suc (suc zero))))))) = remote_kind
kind_of _ = no_kind

-- ---- the plain store in the course of a history

-- what a store is opened with: its finished snapshots, the last moment of its saved book and the touches that this has, its disk's count
-- of calls, and the pieces of its chunk files
pub record Opening : Type 0 where
  pub snapshots : List Snapshot
  pub moment : ℕ
  pub touches : List Touch
  pub calls : ℕ
  pub chunks : List (List ℕ)

-- the store, the open collector, the place of the first fault, the number of events, the last moment, and the disk's count of calls
pub record World : Type 0 where
  pub store : Store
  pub collecting : Option Collecting
  pub fault : Option ℕ
  pub events : ℕ
  pub moment : ℕ
  pub calls : ℕ

abbrev pub opened : Opening → World
opened o = record { store = store_of o.snapshots; collecting = None; fault = None; events = 0; moment = o.moment; calls = o.calls }

-- the data of an upload that was checked
abbrev pub data_in : Result (List ℕ) Refusal → Result (List ℕ) Refusal
data_in (Ok bytes) = want_data bytes
data_in (Err refusal) = Err refusal

-- What an act of the lane at the moment does to the plain store, where neither disk nor memory fails. A collector does nothing to it, nor does
-- a read of the remote.
unfoldable pub act_outcome : Option (List Snapshot) → World → ℕ → ℕ → Act → Outcome
act_outcome remote w k m (acts.Plain c) = outcome w.store k m c
act_outcome remote w k m (acts.JobGroup c) = outcome w.store k m c
act_outcome remote w k m (acts.Blob name checked) = checked_blob w.store k name (data_in checked)
act_outcome remote w k m (acts.Chunk digest checked) = checked_chunk w.store k (data_in checked)
act_outcome remote w k m (acts.ReadFile name offset) = read_file w.store k name offset
act_outcome remote w k m (acts.ReadChunk name entry) = read_chunk w.store k name entry
act_outcome remote w k m (acts.RemoteList c) = Err NoMemory
act_outcome remote w k m (acts.RemoteFile snapshot name offset) = Err NoMemory
act_outcome remote w k m (acts.RemoteChunk digest) = Err NoMemory
act_outcome remote w k m acts.Start = Err NoMemory
act_outcome remote w k m acts.Step = Err NoMemory
act_outcome remote w k m acts.Short = Err NoMemory
act_outcome remote w k m acts.End = Ok (ended w.store k, Done)

-- ---- the pieces that were sent

-- a piece that an act sends under its digest
abbrev pub pieces_of_chunk : Option (Digest32 × Result (List ℕ) Refusal) → List (List ℕ)
pieces_of_chunk None = []
pieces_of_chunk (Some c) = elim (data_in c.1) [ Ok piece ↦ piece ∷ [] | Err refusal ↦ [] ]

abbrev pub sent_by : Act → List (List ℕ)
sent_by act = pieces_of_chunk (sent_chunk act)

abbrev pub sent : List Event → List (List ℕ)
sent h = flat_map (λ e. sent_by e.act) h

-- ---- the open collector

-- whether memory was wanting since the lane's collector opened, where it is open
abbrev pub open_on : ℕ → Option Collecting → Option Bool
open_on k None = None
open_on k (Some c) = if c.lane == k then Some c.is_out_of_memory else None

abbrev pub new_collecting : ℕ → Bool → Option Collecting
new_collecting k is_out_of_memory = Some (record { lane = k; is_out_of_memory = is_out_of_memory })

-- memory was wanting on the lane
abbrev pub cut_on : ℕ → Option Collecting → Option Collecting
cut_on k c = if collects k c then new_collecting k true else c

-- the lane's collector closes
abbrev pub closed_on : ℕ → Option Collecting → Option Collecting
closed_on k c = if collects k c then None else c

-- a fault of the disk, and what comes after it, ends the collector that meets it
abbrev pub halted_on : ℕ → Class → Option Collecting → Option Collecting
halted_on k sweeping c = closed_on k c
halted_on k _ c = c

-- ---- after an event

-- after an act whose entry is of this kind
unfoldable pub moved : Option (List Snapshot) → World → ℕ → ℕ → Act → EntryKind → World
moved remote w k m a step_kind = record w { store = (answered w.store (act_outcome remote w k m a)).0 }
moved remote w k m a short_kind = record w { collecting = cut_on k w.collecting }
moved remote w k m a start_kind = record w { collecting = new_collecting k false }
moved remote w k m a close_kind = record w { collecting = None }
moved remote w k m a fault_kind = record w { collecting = halted_on k (class_of a) w.collecting; fault = first_fault w.events w.fault }
moved remote w k m a end_kind = record w { store = ended w.store k; collecting = closed_on k w.collecting }
moved remote w k m a _ = w

unfoldable pub after : Option (List Snapshot) → World → Event → World
after remote w e =
    let w' = moved remote w (lane e) (moment e) e.act (kind_of (kind e)) in
    record w' { events = w.events + 1; moment = moment e; calls = e.calls }

unfoldable pub after_all : Option (List Snapshot) → World → List Event → World
after_all remote w [] = w
after_all remote w (e ∷ es) = after_all remote (after remote w e) es
