-- The jobs, as functions of the command and of the replies to their steps so far.
use Rattle.std.specs.Prelude.{List, Option, Some, None}
use Rattle.std.specs.List.{fold}
use Rattle.wire_commands.specs.declared.command.Command.{Command}
use Rattle.wire_commands.specs.declared.command.Command.TheVariants.{Prune, Verify, Sync}
use Rattle.wire_commands.specs.declared.reply.Reply.{Reply}
use Rattle.store_model.specs.declared.step.Step.{Step}
use Rattle.store_model.specs.Job.{Asking, grouping, forgetting, opening, listing, reading, checking, closing, beginning, sending, aborting, Job, over, asking, closed}
use Rattle.store_model.specs.Job as job
use Rattle.store_model.specs.PruneJob as prune
use Rattle.store_model.specs.VerifyJob as verify
use Rattle.store_model.specs.SyncJob as sync

-- The job of a command, with nothing done. A SYNC is none before its first step, nor is a GC.
abbrev pub job_of : Command → Option Asking
job_of (Prune group keep dry) = Some (grouping (Prune group keep dry) keep dry)
job_of (Verify snapshot) = Some (opening snapshot)
job_of _ = None

-- a command whose job begins with its first step
abbrev pub IsJob : Command → Type 0
IsJob (Prune group keep dry) = Unit {0}
IsJob (Verify snapshot) = Unit {0}
IsJob c = ⊥

-- a job's command that the remote is asked for
abbrev pub IsSync : Command → Type 0
IsSync (Sync group) = Unit {0}
IsSync c = ⊥

-- a job's command whose first step gives a group
abbrev pub IsPrune : Command → Type 0
IsPrune (Prune group keep dry) = Unit {0}
IsPrune c = ⊥

-- the job after the reply to the step that it asked
unfoldable pub take : Asking → Reply → Job
take (grouping c keep dry) reply = prune.grouped keep dry reply
take (forgetting before snapshot later) reply = prune.forgot before snapshot later reply
take (opening snapshot) reply = verify.opened snapshot reply
take (listing snapshot) reply = verify.listed snapshot reply
take (reading v row bytes) reply = verify.read_part v row bytes reply
take (checking v row fault place piece later) reply = verify.checked v row fault place piece later reply
take (closing report) reply = closed closing report reply
take (beginning p) reply = sync.begun p reply
take (sending p c later) reply = sync.replied p later reply
take (aborting report) reply = closed aborting report reply

-- ---- of all replies so far

-- a job that is over takes no more
abbrev pub take_more : Job → Reply → Job
take_more (over report) reply = over report
take_more (asking a) reply = take a reply

unfoldable pub job_after : Asking → List Reply → Job
job_after begun replies = fold take_more (asking begun) replies

-- what a job asks next, and what it reports where it asks nothing
abbrev pub next : Asking → List Reply → Option Step
next begun replies = job.next (job_after begun replies)

abbrev pub report : Asking → List Reply → Reply
report begun replies = job.report (job_after begun replies)
