-- What an act's entry leaves.
use Rattle.disk_trait.specs.declared.disk.Disk.{Ghosts}
use Rattle.std.specs.Prelude.{◌≡◌, ℕ, Bool, ◌&&◌, ◌==◌, [], ◌∷◌, ◌++◌, length, Option, Some, Result, Ok, Err}
use Rattle.store_types.specs.declared.refusal.Refusal.TheVariants as refusals
use Rattle.store_types.specs.declared.order.TheConstants.{MEMORY_KIND}
use Rattle.wire_commands.specs.declared.reply.Reply.{Reply}
use Rattle.wire_commands.specs.declared.reply.Reply.TheVariants.{Refused}
use Rattle.disk_trait.specs.declared.disk.DiskError.{DiskError}
use Rattle.disk_trait.specs.declared.disk.DiskError.TheVariants.{NoMemory, Failed as DiskFailed}
use Rattle.store_history.specs.declared.act.Answer.{Answer}
use Rattle.core_state.specs.declared.state.Core.{Core}
use Rattle.store_history.specs.LastTouches.{SameTouches, dated}
use Rattle.core_state.specs.Collectors.{collector_by}
use Rattle.core_state.specs.Entering.{Enters}
use Rattle.core_state.specs.Upkeeps.{touches_kept}

-- an entry and its answer, where an entry was to be had without memory
pub record IsEntered {D E C : Type 0} (d : Ghosts D) (old new : Core D E C) (lane moment kind : ℕ) (reply : Option Reply) (answer : Answer) : Type 0 where
  pub parts : new.parts ≡ old.parts
  pub remote : new.remote ≡ old.remote
  pub clock : new.clock ≡ old.clock
  pub fault : new.fault ≡ old.fault
  pub last : new.last ≡ moment
  -- the entry dates what was undated
  pub upkeep : SameTouches (touches_kept new.upkeep) (dated moment (touches_kept old.upkeep))
  -- it may end the lane's collector early, or close it
  pub collector : new.collector ≡ collector_by kind lane old.collector
  pub entries : (new.journal).entries.items ≡ (old.journal).entries.items ++ answer.entry ∷ []
  pub calls : (new.journal).calls.items ≡ (old.journal).calls.items ++ d.calls (old.parts).disk ∷ []
  pub entry : answer.entry ≡ record { lane = lane; moment = moment; kind = kind }
  pub reply_is : answer.reply ≡ reply
  pub place : answer.place ≡ length (old.journal).entries.items
  pub is_held : Bool
  pub room : Enters old.journal new.journal lane is_held
  pub last_held : answer.last ≡ is_held && (kind == MEMORY_KIND)

abbrev pub kind_by : Result Reply DiskError → ℕ
kind_by (Ok reply) = 0
kind_by (Err NoMemory) = 2
kind_by (Err DiskFailed) = 5

abbrev pub reply_by : Result Reply DiskError → Reply
reply_by (Ok reply) = reply
reply_by (Err NoMemory) = Refused refusals.NoMemory
reply_by (Err DiskFailed) = Refused refusals.DiskFault

abbrev pub fault_by : Option ℕ → ℕ → Result Reply DiskError → Option ℕ
fault_by before place (Ok reply) = before
fault_by before place (Err NoMemory) = before
fault_by before place (Err DiskFailed) = Some place

-- with the fault that the outcome leaves
abbrev pub with_fault : {D E C : Type 0} → Core D E C → Option ℕ → Core D E C
with_fault core fault = record core { fault = fault }

-- An act that was done is entered by its outcome.
abbrev pub Settles : {D E C : Type 0} → Ghosts D → Core D E C → Core D E C → ℕ → ℕ → Result Reply DiskError → Answer → Type 0
Settles d old new lane moment outcome answer =
    IsEntered d (with_fault old (fault_by old.fault (length (old.journal).entries.items) outcome)) new lane moment (kind_by outcome) (Some (reply_by outcome)) answer
