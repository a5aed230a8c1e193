-- What a SYNC asks for, as an act.
use Rattle.std.specs.Prelude.{◌≡◌, false, Option, Some, None}
use Rattle.wire_commands.specs.declared.command.Command.TheVariants.{Sync}
use Rattle.wire_commands.specs.declared.reply.Reply.{Reply}
use Rattle.wire_commands.specs.declared.reply.Reply.TheVariants.{Done}
use Rattle.store_history.specs.declared.act.Act.{Act}
use Rattle.store_history.specs.declared.act.Act.TheVariants.{RemoteChunk, RemoteFile, RemoteList}
use Rattle.store_history.specs.Acts.{act_of_command}
use Rattle.store_history.specs.Pulling.{SyncJob, reports, asks, Pulling, act_of, is_ending}
use Rattle.pull_steps.specs.declared.ask.Ask.{Ask}
use Rattle.pull_steps.specs.declared.ask.Ask.TheVariants as ask

abbrev pub act_of_ask : Ask → Act
act_of_ask (ask.Command command) = act_of_command command
act_of_ask (ask.List group) = RemoteList (Sync group)
act_of_ask (ask.File snapshot name offset) = RemoteFile snapshot name offset
act_of_ask (ask.Chunk digest) = RemoteChunk digest

-- it is what the job asks, or nothing where it is over
abbrev pub AsksNext : SyncJob → Option Ask → Type 0
AsksNext (reports report) None = Unit {0}
AsksNext (asks p) (Some asked) = act_of_ask asked ≡ act_of p
AsksNext job asked = ⊥

-- so it is of one state
abbrev pub AsksFor : Pulling → Ask → Type 0
AsksFor p asked = act_of_ask asked ≡ act_of p

abbrev pub IsAsking : SyncJob → Type 0
IsAsking (reports report) = ⊥
IsAsking (asks p) = Unit {0}

abbrev pub IsOver : SyncJob → Type 0
IsOver (reports report) = Unit {0}
IsOver (asks p) = ⊥

-- memory may be wanting for what is asked, unless it ends the writer behind a refusal
abbrev pub MayWant : SyncJob → Type 0
MayWant (reports report) = ⊥
MayWant (asks p) = is_ending p ≡ false

abbrev pub report_of : SyncJob → Reply
report_of (reports report) = report
report_of (asks p) = Done
