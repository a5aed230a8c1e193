-- A command that stops before its end.
use Rattle.std.specs.Prelude.{Option, None, Some, Result, Ok, Err}
use Rattle.disk_trait.specs.declared.disk.DiskError.{DiskError}
use Rattle.disk_trait.specs.declared.disk.DiskError.TheVariants as disks
use Rattle.disk_trait.specs.declared.disk.Failed.{Failed}
use Rattle.wire_commands.specs.declared.reply.Reply.{Reply}
use Rattle.wire_commands.specs.declared.reply.Reply.TheVariants as replies
use Rattle.store_stops.specs.declared.stop.Stop.{Stop}
use Rattle.store_stops.specs.declared.stop.Stop.TheVariants.{Refused, NoMemory, DiskFailed}

-- the outcome of an act: a refusal is a reply
abbrev pub told : Result Reply Stop → Result Reply DiskError
told (Ok reply) = Ok reply
told (Err (Refused refusal)) = Ok (replies.Refused refusal)
told (Err NoMemory) = Err disks.NoMemory
told (Err DiskFailed) = Err disks.Failed

-- how a lane's end has ended, as a command does
abbrev pub ended_as : Result (Unit {0}) Failed → Result Reply Stop
ended_as (Ok done) = Ok replies.Done
ended_as (Err failed) = Err DiskFailed

-- how an act ended, by its reply: want of memory and a fault are refusals there, and one without a reply is done
abbrev pub ended_by : Option Reply → Result Reply Stop
ended_by (Some (replies.Refused refusal)) = Err (Refused refusal)
ended_by (Some reply) = Ok reply
ended_by None = Ok replies.Done
