-- What the core says of its remote: reads change nothing of what it stands for, and those that fail are told.
use Rattle.std.specs.Prelude.{◌≡◌, ◌⊎◌, ◌+◌, ◌-◌, ◌^◌, ◌<◌, ◌≤◌, ◌↔◌, ◌==◌, ◌&&◌, ◌||◌, ℕ, ◌∷◌, Some, Result, Ok, Err}
use Rattle.disk_trait.specs.declared.disk.Disk.{Ghosts}
use Rattle.store_types.specs.declared.refusal.Refusal.TheVariants as refusals
use Rattle.wire_commands.specs.declared.reply.Reply.{Reply}
use Rattle.wire_commands.specs.declared.reply.Reply.TheVariants.{Refused}
use Rattle.store_history.specs.declared.act.Answer.{Answer}
use Rattle.core_state.specs.declared.state.Core.{Core}
use Rattle.store_stops.specs.declared.stop.Stop.{Stop}
use Rattle.store_stops.specs.declared.stop.Stop.TheVariants as stops
use Rattle.store_history.specs.RemoteDisk.{RemoteStays, faults_of, failed_reads}
use Rattle.core_state.specs.Settles.{IsEntered}

-- ---- what it was read

-- As many of these are entered at most as the remote's count of faults rose by, while it is below its greatest value.
pub record RemoteServes {D E C : Type 0} (e : Ghosts E) (old new : Core D E C) : Type 0 where
  pub stays : RemoteStays e old.remote new.remote
  pub failed : faults_of e new.remote < 2 ^ 64 - 1
      → failed_reads (new.journal).entries.items + faults_of e old.remote ≤ failed_reads (old.journal).entries.items + faults_of e new.remote

-- ---- how a read of it is entered

-- What it gave has kind 1, a refusal of what it has too. A refusal without a read has kind 0, and a read that failed 7.
abbrev pub kind_by : Result Reply Stop → ℕ
kind_by (Ok reply) = 1
kind_by (Err (stops.Refused refusal)) = 0
kind_by (Err stops.NoMemory) = 2
kind_by (Err stops.DiskFailed) = 7

abbrev pub reply_by : Result Reply Stop → Reply
reply_by (Ok reply) = reply
reply_by (Err (stops.Refused refusal)) = Refused refusal
reply_by (Err stops.NoMemory) = Refused refusals.NoMemory
reply_by (Err stops.DiskFailed) = Refused refusals.RemoteFault

abbrev pub SettlesRead : {D E C : Type 0} → Ghosts D → Core D E C → Core D E C → ℕ → ℕ → Result Reply Stop → Answer → Type 0
SettlesRead d old new lane moment ended answer = IsEntered d old new lane moment (kind_by ended) (Some (reply_by ended)) answer
