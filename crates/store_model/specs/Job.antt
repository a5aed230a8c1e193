-- Where a job is: what it asks next, and what it still needs of the replies before.
use Rattle.std.specs.Prelude.{Bool, true, false, ℕ, List, length, Option, Some, None}
use Rattle.store_types.specs.declared.names.Keep.{Keep}
use Rattle.store_types.specs.declared.refusal.Refusal.{Refusal}
use Rattle.store_types.specs.declared.refusal.Refusal.TheVariants.{RemoteFault, DiskFault, Halted, NoMemory}
use Rattle.store_types.specs.Names.{key_text}
use Rattle.store_files.specs.Archive.{Snapshot}
use Rattle.wire_commands.specs.declared.command.Command.{Command}
use Rattle.wire_commands.specs.declared.command.Command.TheVariants.{OpenWriter, Abort, OpenReader, Files, CloseReader, Forget}
use Rattle.wire_commands.specs.declared.rows.FileRow.{FileRow}
use Rattle.wire_commands.specs.declared.rows.FileFault.{FileFault}
use Rattle.wire_commands.specs.declared.rows.FaultRow.{FaultRow}
use Rattle.wire_commands.specs.declared.rows.PruneRow.{PruneRow}
use Rattle.wire_commands.specs.declared.reply.Reply.{Reply}
use Rattle.wire_commands.specs.declared.reply.Reply.TheVariants.{Done, Refused}
use Rattle.store_types.specs.declared.piece.Piece.{Piece}
use Rattle.store_model.specs.declared.step.Step.{Step}
use Rattle.store_model.specs.declared.step.Step.TheVariants as steps

-- a VERIFY's snapshot, what it counted so far, the files with a fault, and the files to come
pub record Visit : Type 0 where
  pub snapshot : List ℕ
  pub files : ℕ
  pub entries : ℕ
  pub bytes : ℕ
  pub faults : List FaultRow
  pub later : List FileRow

-- the snapshot that a SYNC is at, those to come, and those that are pulled
pub record Pull : Type 0 where
  pub snapshot : Snapshot
  pub later : List Snapshot
  pub pulled : List (List ℕ)

-- a job that asks for a step
pub data Asking : Type 0 where
  -- PRUNE asks for its group's snapshots, by its own command
  grouping : Command → Keep → Bool → Asking
  -- PRUNE, behind the rows that are done, asks to forget this snapshot, before the rows to come
  forgetting : List PruneRow → List ℕ → List PruneRow → Asking
  -- VERIFY asks for a reader of this snapshot, and then for its files
  opening : List ℕ → Asking
  listing : List ℕ → Asking
  -- VERIFY reads this file, behind these bytes of it
  reading : Visit → FileRow → List ℕ → Asking
  -- VERIFY, with this file's fault so far, reads the chunk at a place, of this piece, before those of the others
  checking : Visit → FileRow → Option FileFault → ℕ → Piece → List Piece → Asking
  -- VERIFY closes its reader, and then this is its report
  closing : Reply → Asking
  -- SYNC asks for a writer of its snapshot, and then for this command of the snapshot's, before the others
  beginning : Pull → Asking
  sending : Pull → Command → List Command → Asking
  -- SYNC ends its writer, and then this is its report
  aborting : Reply → Asking

pub data Job : Type 0 where
  -- nothing more is asked, and this is the report
  over : Reply → Job
  asking : Asking → Job

-- the step that is asked
abbrev pub step_of : Asking → Step
step_of (grouping c keep dry) = steps.Command c
step_of (forgetting before snapshot later) = steps.Command (Forget snapshot)
step_of (opening snapshot) = steps.Command (OpenReader snapshot)
step_of (listing snapshot) = steps.Command (Files snapshot)
step_of (reading v row bytes) = steps.ReadFile row.file (length bytes)
step_of (checking v row fault place piece later) = steps.ReadChunk row.file place
step_of (closing report) = steps.Command CloseReader
step_of (beginning p) = steps.Command (OpenWriter (key_text (p.snapshot).key))
step_of (sending p c later) = steps.Command c
step_of (aborting report) = steps.Command Abort

abbrev pub is_sync : Asking → Bool
is_sync (beginning p) = true
is_sync (sending p c later) = true
is_sync (aborting report) = true
is_sync _ = false

abbrev pub next : Job → Option Step
next (over report) = None
next (asking a) = Some (step_of a)

-- a job reports where nothing more is asked
abbrev pub report : Job → Reply
report (over reply) = reply
report (asking a) = Done

-- ---- the end of a job that has a session

-- A refused step ends the job with that refusal, behind the step that closes the session. After a fault of the disk none follows.
abbrev pub stopped : (Reply → Asking) → Refusal → Job
stopped close DiskFault = over (Refused DiskFault)
stopped close (Halted place) = over (Refused (Halted place))
stopped close refusal = asking (close (Refused refusal))

-- The session is closed. What was refused first is the answer. Want of memory and a failed read of the remote have done nothing: the session
-- is open still, so the step that closes it comes again.
abbrev pub closed : (Reply → Asking) → Reply → Reply → Job
closed close (Refused first) (Refused NoMemory) = asking (close (Refused first))
closed close (Refused first) (Refused RemoteFault) = asking (close (Refused first))
closed close (Refused first) reply = over (Refused first)
closed close report (Refused NoMemory) = asking (close (Refused NoMemory))
closed close report (Refused RemoteFault) = asking (close (Refused RemoteFault))
closed close report (Refused refusal) = over (Refused refusal)
closed close report reply = over report

-- a reply that ends the job
abbrev pub ended_by : (Reply → Asking) → Reply → Job
ended_by close (Refused refusal) = stopped close refusal
ended_by close reply = over reply

-- the session is closed before the job reports it
abbrev pub closes_first : Reply → Bool
closes_first (Refused DiskFault) = false
closes_first (Refused (Halted place)) = false
closes_first (Refused refusal) = true
closes_first _ = false

abbrev pub is_refused : Reply → Bool
is_refused (Refused refusal) = true
is_refused _ = false

-- the step was refused and has done nothing: its session is open still
abbrev pub leaves_open : Reply → Bool
leaves_open (Refused NoMemory) = true
leaves_open (Refused RemoteFault) = true
leaves_open _ = false
