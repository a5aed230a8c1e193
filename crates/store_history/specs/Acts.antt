-- The acts of a lane.
use Rattle.std.specs.Prelude.{ℕ, ◌≡◌, Bool, true, false, List, Option, Some, None, Result, Ok, Err, IsOk, IsSome}
use Rattle.store_types.specs.declared.refusal.Refusal.{Refusal}
use Rattle.store_types.specs.declared.refusal.Refusal.TheVariants.{BadBlob, WrongSize, WrongDigest}
use Rattle.store_types.specs.declared.names.Digest32.{Digest32}
use Rattle.store_types.specs.Names.{key_of}
use Rattle.blob_codec.specs.Blob.{data_of}
use Rattle.store_model.specs.ArchiveSteps.{check_chunk}
use Rattle.store_model.specs.Jobs.{IsPrune, IsSync}
use Rattle.wire_commands.specs.declared.command.Command.{Command}
use Rattle.wire_commands.specs.declared.command.Command.TheVariants as commands
use Rattle.store_model.specs.declared.step.Step.{Step}
use Rattle.store_model.specs.declared.step.Step.TheVariants as steps
use Rattle.store_history.specs.declared.act.Act.{Act}
use Rattle.store_history.specs.declared.act.Act.TheVariants as acts
use Rattle.store_history.specs.declared.act.Family.{Family}
use Rattle.store_history.specs.declared.act.Family.TheVariants.{Reads, Writes, Manages, Collects, Reaches, Wants, Ends}

-- ---- well-formed acts

-- Which commands are acts of their own: all but the uploads, whose bytes are checked before the act, the jobs' commands and GC, of which each
-- step is an act, and BYE, which belongs to the lane's end. Each command stands here by its name, so that a new one is none by silence.
abbrev pub IsPlain : Command → Type 0
IsPlain (commands.OpenWriter snapshot) = Unit {0}
IsPlain (commands.Previous file offset) = Unit {0}
IsPlain (commands.NewFixed file size chunk_size) = Unit {0}
IsPlain (commands.NewDynamic file) = Unit {0}
IsPlain (commands.Chunk digest blob) = ⊥
IsPlain (commands.Append number entries) = Unit {0}
IsPlain (commands.CloseIndex number count size csum) = Unit {0}
IsPlain (commands.Blob file blob) = ⊥
IsPlain commands.Finish = Unit {0}
IsPlain commands.Abort = Unit {0}
IsPlain (commands.OpenReader snapshot) = Unit {0}
IsPlain (commands.Download file offset) = Unit {0}
IsPlain (commands.GetChunk digest) = Unit {0}
IsPlain (commands.Range file offset length) = Unit {0}
IsPlain commands.CloseReader = Unit {0}
IsPlain (commands.List after) = Unit {0}
IsPlain (commands.Files snapshot) = Unit {0}
IsPlain (commands.Forget snapshot) = Unit {0}
IsPlain (commands.Prune group keep dry) = ⊥
IsPlain (commands.Verify snapshot) = ⊥
IsPlain (commands.Sync group) = ⊥
IsPlain commands.Gc = ⊥
IsPlain (commands.Group group) = Unit {0}
IsPlain commands.Bye = ⊥

-- what the check of an upload gives: its bytes, where they are a blob, or what is wrong with them
abbrev pub IsChecked : Result (List ℕ) Refusal → Type 0
IsChecked (Ok bytes) = IsOk (data_of bytes)
IsChecked (Err (BadBlob fault)) = Unit {0}
IsChecked (Err refusal) = ⊥

-- what the check of an upload under a digest gives: its bytes, where they are the blob of a piece with that digest, or what is
-- wrong with them
abbrev pub IsCheckedChunk : Digest32 → Result (List ℕ) Refusal → Type 0
IsCheckedChunk digest (Ok bytes) = IsOk (check_chunk digest bytes)
IsCheckedChunk digest (Err (BadBlob fault)) = Unit {0}
IsCheckedChunk digest (Err (WrongSize place size)) = (place ≡ 0) × (size ≡ 0)
IsCheckedChunk digest (Err (WrongDigest found)) = Unit {0}
IsCheckedChunk digest (Err refusal) = ⊥

abbrev pub IsWellFormed : Act → Type 0
IsWellFormed (acts.Plain c) = IsPlain c
IsWellFormed (acts.JobGroup c) = IsPrune c
IsWellFormed (acts.Blob name checked) = IsChecked checked
IsWellFormed (acts.Chunk digest checked) = IsCheckedChunk digest checked
IsWellFormed (acts.ReadFile name offset) = Unit {0}
IsWellFormed (acts.ReadChunk name entry) = Unit {0}
IsWellFormed (acts.RemoteList c) = IsSync c
IsWellFormed (acts.RemoteFile snapshot name offset) = IsSome (key_of snapshot)
IsWellFormed (acts.RemoteChunk digest) = Unit {0}
IsWellFormed acts.Start = Unit {0}
IsWellFormed acts.Step = Unit {0}
IsWellFormed acts.Short = Unit {0}
IsWellFormed acts.End = Unit {0}

-- ---- which act does a command

abbrev pub check_blob : List ℕ → Result (List ℕ) Refusal
check_blob bytes = elim (data_of bytes) [ Ok piece ↦ Ok bytes | Err fault ↦ Err (BadBlob fault) ]

abbrev pub checked_by : List ℕ → Result (List ℕ) Refusal → Result (List ℕ) Refusal
checked_by bytes (Ok piece) = Ok bytes
checked_by bytes (Err refusal) = Err refusal

abbrev pub act_of_command : Command → Act
act_of_command (commands.Chunk digest blob) = acts.Chunk digest (checked_by blob (check_chunk digest blob))
act_of_command (commands.Blob file blob) = acts.Blob file (check_blob blob)
act_of_command (commands.Prune group keep dry) = acts.JobGroup (commands.Prune group keep dry)
act_of_command c = acts.Plain c

-- and a step of a job
abbrev pub act_of_step : Step → Act
act_of_step (steps.Command c) = act_of_command c
act_of_step (steps.ReadFile name offset) = acts.ReadFile name offset
act_of_step (steps.ReadChunk name entry) = acts.ReadChunk name entry

-- ---- what an act is

pub data Class : Type 0 where
  -- a command, or a step of a job
  stepping : Class
  -- a read of the remote
  reaching : Class
  -- the start of a collector
  starting : Class
  -- a mark, a visit, or the end of a collector
  sweeping : Class
  -- want of memory
  wanting : Class
  -- the lane's end
  ending : Class

abbrev pub class_of : Act → Class
class_of (acts.Plain c) = stepping
class_of (acts.JobGroup c) = stepping
class_of (acts.Blob name checked) = stepping
class_of (acts.Chunk digest checked) = stepping
class_of (acts.ReadFile name offset) = stepping
class_of (acts.ReadChunk name entry) = stepping
class_of (acts.RemoteList c) = reaching
class_of (acts.RemoteFile snapshot name offset) = reaching
class_of (acts.RemoteChunk digest) = reaching
class_of acts.Start = starting
class_of acts.Step = sweeping
class_of acts.Short = wanting
class_of acts.End = ending

-- the chunk that it sends: its digest, and what the check of its bytes gave
abbrev pub sent_chunk : Act → Option (Digest32 × Result (List ℕ) Refusal)
sent_chunk (acts.Plain c) = None
sent_chunk (acts.JobGroup c) = None
sent_chunk (acts.Blob name checked) = None
sent_chunk (acts.Chunk digest checked) = Some (digest, checked)
sent_chunk (acts.ReadFile name offset) = None
sent_chunk (acts.ReadChunk name entry) = None
sent_chunk (acts.RemoteList c) = None
sent_chunk (acts.RemoteFile snapshot name offset) = None
sent_chunk (acts.RemoteChunk digest) = None
sent_chunk acts.Start = None
sent_chunk acts.Step = None
sent_chunk acts.Short = None
sent_chunk acts.End = None

-- ---- which part of the core does it

-- a command's; one that is no act of its own (`IsPlain`) counts as a writer's
abbrev pub command_family : Command → Family
command_family (commands.OpenReader snapshot) = Reads
command_family (commands.Download file offset) = Reads
command_family (commands.GetChunk digest) = Reads
command_family (commands.Range file offset length) = Reads
command_family commands.CloseReader = Reads
command_family (commands.List after) = Manages
command_family (commands.Files snapshot) = Manages
command_family (commands.Forget snapshot) = Manages
command_family (commands.Group group) = Manages
command_family c = Writes

abbrev pub family_of : Act → Family
family_of (acts.Plain c) = command_family c
family_of (acts.JobGroup c) = Manages
family_of (acts.Blob name checked) = Writes
family_of (acts.Chunk digest checked) = Writes
family_of (acts.ReadFile name offset) = Reads
family_of (acts.ReadChunk name entry) = Reads
family_of (acts.RemoteList c) = Reaches
family_of (acts.RemoteFile snapshot name offset) = Reaches
family_of (acts.RemoteChunk digest) = Reaches
family_of acts.Start = Collects
family_of acts.Step = Collects
family_of acts.Short = Wants
family_of acts.End = Ends

abbrev pub is_sweeping : Class → Bool
is_sweeping sweeping = true
is_sweeping class = false

abbrev pub is_managing : Family → Bool
is_managing Manages = true
is_managing family = false

abbrev pub is_collecting : Family → Bool
is_collecting Collects = true
is_collecting family = false

abbrev pub is_reaching : Family → Bool
is_reaching Reaches = true
is_reaching family = false
