-- What a job takes and leaves.
use Rattle.std.specs.Prelude.{◌≡◌, ◌≤◌, length, Option, Some, None, Result, IfOk, MatchResult}
use Rattle.store_types.specs.declared.refusal.Refusal.TheVariants.{SnapshotBusy, NoSnapshot}
use Rattle.wire_commands.specs.declared.command.Command.{Command}
use Rattle.wire_commands.specs.declared.command.Command.TheVariants.{Prune}
use Rattle.wire_commands.specs.declared.rows.PruneMark.{PruneMark}
use Rattle.wire_commands.specs.declared.rows.PruneMark.TheVariants.{Removed, Held, Gone}
use Rattle.wire_commands.specs.declared.reply.Reply.{Reply}
use Rattle.wire_commands.specs.declared.reply.Reply.TheVariants.{Done, Keys, Refused}
use Rattle.wire_commands.specs.HasText.{ReplyHasText}
use Rattle.store_model.specs.Job as model
use Rattle.store_model.specs.Jobs.{job_of}
use Rattle.plain_lanes.specs.declared.job.Job.{Job}
use Rattle.plain_lanes.specs.declared.job.Job.TheVariants.{Over, Asking}

abbrev pub shown_job : Job → model.Job
shown_job (Over reply) = model.over reply
shown_job (Asking a) = model.asking a

-- where memory is not wanting, it is this job
abbrev pub GivesJob : {E : Type 0} → Result Job E → model.Job → Type 0
GivesJob result job = IfOk result (λ given. shown_job given ≡ job)

-- the job of a command with nothing done, or the command back where it has none
abbrev pub StartsJob : Command → Result model.Asking Command → Type 0
StartsJob c result = MatchResult result (λ a. job_of c ≡ Some a) (λ back. (job_of c ≡ None) × (back ≡ c))

-- what a job reports has a text
abbrev pub IsSpelledJob : Job → Type 0
IsSpelledJob (Over reply) = ReplyHasText reply
IsSpelledJob (Asking a) = Unit {0}

-- no more snapshots than GROUP tells
abbrev pub IsFew : Reply → Type 0
IsFew (Keys snapshots) = length snapshots ≤ 4096
IsFew _ = Unit {0}

-- a reply that a PRUNE takes
abbrev pub FitsTaken : Reply → Type 0
FitsTaken reply = ReplyHasText reply × IsFew reply

-- a reply that a job takes
abbrev pub FitsAsked : model.Asking → Reply → Type 0
FitsAsked (model.grouping (Prune group keep dry) counts whole) reply = FitsTaken reply
FitsAsked _ reply = ReplyHasText reply

-- what the reply to a FORGET tells of the snapshot, unless it ends the job
abbrev pub mark_told : Reply → Option PruneMark
mark_told Done = Some Removed
mark_told (Refused (SnapshotBusy lane)) = Some Held
mark_told (Refused NoSnapshot) = Some Gone
mark_told _ = None
