-- What becomes of a VERIFY by the replies to its reads.
use Rattle.std.specs.Prelude.{◌≡◌, ◌+◌, Bool, true, false, ◌++◌, drop, List, ℕ, Option, Some, None, Result, IfOk}
use Rattle.std.specs.Option.{option_or}
use Rattle.store_types.specs.declared.refusal.Refusal.TheVariants.{Damaged, Unreadable}
use Rattle.wire_commands.specs.declared.rows.FileFault.{FileFault}
use Rattle.wire_commands.specs.declared.rows.FileFault.TheVariants as faults
use Rattle.wire_commands.specs.declared.rows.FileRow.{FileRow}
use Rattle.wire_commands.specs.declared.reply.Reply.{Reply}
use Rattle.wire_commands.specs.declared.reply.Reply.TheVariants.{Part, Data, Refused}
use Rattle.store_model.specs.declared.step.Step.{Step}
use Rattle.store_model.specs.Job.{Job, over, asking, reading, closing, ended_by}
use Rattle.store_model.specs.Job as model
use Rattle.store_model.specs.VerifyJob as verify
use Rattle.job_steps.specs.declared.stages.Checking.{Checking}
use Rattle.job_steps.specs.declared.stages.Reading.{Reading}
use Rattle.job_steps.specs.declared.stages.Whole.{Whole}
use Rattle.job_steps.specs.States.{chunks_of}
use Rattle.job_steps.specs.Visits.{fault_in, next_piece, pieces_left, place_in, shown_visit}

abbrev pub IsPart : Reply → Type 0
IsPart (Part total bytes) = Unit {0}
IsPart reply = ⊥

abbrev pub GivesStep : {E : Type 0} → Result Step E → Step → Type 0
GivesStep result step = IfOk result (λ given. given ≡ step)

-- a step of the job was refused, and its session is to be closed
abbrev pub stops : Job → Bool
stops (over report) = false
stops (asking (closing (Refused refusal))) = true
stops (asking j) = false

-- ---- a file

abbrev pub shown_whole : Whole → verify.Judged
shown_whole w = record { fault = w.fault; bytes = w.bytes; entries = w.chunks.entries.items }

abbrev pub GivesWhole : {E : Type 0} → Result Whole E → verify.Judged → Type 0
GivesWhole result judged = IfOk result (λ given. shown_whole given ≡ judged)

-- what its bytes say, where they are all of the file
abbrev pub judged_of : Reading → verify.Judged
judged_of r = verify.judged r.visit.snapshot r.row r.bytes.items

-- one more file was read
abbrev pub CountsFile : model.Visit → model.Visit → FileRow → Option FileFault → Type 0
CountsFile old new row fault = new ≡ verify.with_fault row fault (record old { files = old.files + 1 })

-- the job as it is
abbrev pub reading_of : Reading → Job
reading_of r = asking (reading (shown_visit r.visit) r.row r.bytes.items)

-- a part was put behind the bytes: it goes on, or the file is judged
abbrev pub read_on : Reading → Option Whole → Job
read_on r None = reading_of r
read_on r (Some w) = verify.file_read (shown_visit r.visit) r.row (shown_whole w)

-- the fault of a file that a refusal tells
abbrev pub fault_told : Reply → Option FileFault
fault_told (Refused (Damaged asked found)) = Some (faults.Damaged asked)
fault_told (Refused (Unreadable name)) = Some faults.Unreadable
fault_told _ = None

-- any reply to its read but a part
abbrev pub unread_by : Reading → Reply → Job
unread_by r reply =
    elim (fault_told reply) [ Some fault ↦ verify.file_done (shown_visit r.visit) r.row (Some fault) | None ↦ ended_by closing reply ]

-- a part was read, of a file of this size
abbrev pub part_by : Reading → List ℕ → ℕ → Job
part_by r more total = verify.part_read (shown_visit r.visit) r.row (r.bytes.items ++ more) total

abbrev pub read_by : Reading → Reply → Job
read_by r (Part total more) = part_by r more total
read_by r reply = unread_by r reply

-- ---- a chunk

-- the job as it is
abbrev pub job_of : Checking → Job
job_of c = chunks_of c.visit c.row c.fault c.chunks

-- its fault with what waits
abbrev pub fault_of : Checking → Option FileFault
fault_of c = fault_in c.fault c.chunks

-- the next chunk is read, with this fault of it
abbrev pub found_by : Checking → Option FileFault → Job
found_by c found =
    verify.next_chunk (shown_visit c.visit) c.row (option_or (fault_of c) found) (place_in c.chunks + 1) (drop 1 (pieces_left c.chunks))

abbrev pub held_by : Checking → List ℕ → Job
held_by c blob = found_by c (verify.chunk_fault (next_piece c.chunks) blob)

abbrev pub damaged_by : Checking → Job
damaged_by c = found_by c (Some (faults.Damaged (next_piece c.chunks).digest))

abbrev pub unreadable_by : Checking → Job
unreadable_by c = verify.file_done (shown_visit c.visit) c.row (option_or (fault_of c) (Some faults.Unreadable))

-- after any reply to its read but a chunk, by the fault that it tells
abbrev pub unheld_by : Checking → Reply → Option FileFault → Job
unheld_by c reply (Some (faults.Damaged digest)) = damaged_by c
unheld_by c reply (Some fault) = unreadable_by c
unheld_by c reply None = ended_by closing reply

-- after the reply to its read
abbrev pub checked_by : Checking → Reply → Job
checked_by c (Data blob) = held_by c blob
checked_by c reply = unheld_by c reply (fault_told reply)
