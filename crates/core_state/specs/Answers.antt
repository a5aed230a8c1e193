-- What an act's answer is on any disk, and what stands in the order and in the counts after it.
use Rattle.disk_trait.specs.declared.disk.Disk.{Ghosts}
use Rattle.std.specs.Prelude.{◌≡◌, ◌≢◌, ◌≤◌, ◌↔◌, ℕ, true, ◌==◌, ◌⊎◌, [], ◌∷◌, ◌++◌, length, if◌then◌else◌, Some, None, IfSome, IsSome, IsTrue}
use Rattle.disk_trait.specs.Disk.{Rose}
use Rattle.store_types.specs.declared.refusal.Refusal.TheVariants.{NoMemory, RemoteFault, DiskFault, Halted}
use Rattle.store_types.specs.declared.order.TheConstants.{COMMAND_KIND, PART_KIND, MEMORY_KIND, START_KIND, STOP_KIND, FAULT_KIND, END_KIND, REMOTE_FAULT_KIND}
use Rattle.wire_commands.specs.declared.reply.Reply.{Reply}
use Rattle.wire_commands.specs.declared.reply.Reply.TheVariants.{Refused}
use Rattle.wire_commands.specs.HasText.{ReplyHasText}
use Rattle.store_history.specs.declared.act.Act.{Act}
use Rattle.store_history.specs.declared.act.Answer.{Answer}
use Rattle.store_history.specs.Acts.{Class, reaching, starting, sweeping, wanting, ending, class_of}
use Rattle.core_state.specs.declared.state.Core.{Core}
use Rattle.store_history.specs.Replies.{may_answer, may_end, may_give}
use Rattle.store_history.specs.Answered.{fault_after}

-- One entry more is in the order, with the disk's count of calls beside it. The reply has a spelling. The disk is said to have
-- failed only where its count of faults rose in this act, or where it had failed before.
pub record IsAnswered {D E C : Type 0} (d : Ghosts D) (old new : Core D E C) (lane : ℕ) (answer : Answer) : Type 0 where
  pub lane_is : (answer.entry).lane ≡ lane
  pub place : answer.place ≡ length (old.journal).entries.items
  pub entries : (new.journal).entries.items ≡ (old.journal).entries.items ++ answer.entry ∷ []
  pub calls : (new.journal).calls.items ≡ (old.journal).calls.items ++ d.calls (new.parts).disk ∷ []
  pub text : IfSome answer.reply ReplyHasText
  pub last : answer.last ≡ true → (answer.entry).kind ≡ MEMORY_KIND
  pub fault : new.fault ≡ fault_after (length (old.journal).entries.items) (answer.entry).kind old.fault
  pub count : d.faults (old.parts).disk ≤ d.faults (new.parts).disk
  -- an honest disk stays so
  pub kept : d.honest (old.parts).disk ↔ d.honest (new.parts).disk
  pub cause : (answer.entry).kind ≡ FAULT_KIND → old.fault ≡ None → Rose (d.faults (old.parts).disk) (d.faults (new.parts).disk)

-- Why an act that is no lane's end was answered so, on any disk: each answer has one of four causes.
pub data HasCause {D E C : Type 0} (d : Ghosts D) (old new : Core D E C) (act : Act) (answer : Answer) : Type 0 where
  -- the disk hasn't failed so far: by the tests of the command
  done : old.fault ≡ None → (answer.entry).kind ≡ COMMAND_KIND → (reply : Reply) → answer.reply ≡ Some reply → IsTrue (may_answer act reply) → HasCause d old new act answer
  -- want of memory
  short : (answer.entry).kind ≡ MEMORY_KIND → answer.reply ≡ Some (Refused NoMemory) → HasCause d old new act answer
  -- the disk failed in this act, which is kept as the first fault
  failed : old.fault ≡ None → (answer.entry).kind ≡ FAULT_KIND → answer.reply ≡ Some (Refused DiskFault)
      → new.fault ≡ Some answer.place → Rose (d.faults (old.parts).disk) (d.faults (new.parts).disk) → HasCause d old new act answer
  -- the disk failed before, in the act whose entry stands at this place
  halted : (place : ℕ) → old.fault ≡ Some place → (answer.entry).kind ≡ FAULT_KIND → answer.reply ≡ Some (Refused (Halted place)) → HasCause d old new act answer

-- A lane's end is refused exactly where the disk fails in it, which is kept as the first fault. After a fault it is done.
pub data EndHasCause {D E C : Type 0} (d : Ghosts D) (old new : Core D E C) (answer : Answer) : Type 0 where
  ended : (answer.entry).kind ≡ END_KIND → answer.reply ≡ None → EndHasCause d old new answer
  end_failed : old.fault ≡ None → (answer.entry).kind ≡ FAULT_KIND → answer.reply ≡ Some (Refused DiskFault)
      → new.fault ≡ Some answer.place → Rose (d.faults (old.parts).disk) (d.faults (new.parts).disk) → EndHasCause d old new answer

-- A read of the remote gives what stands there, or fails, which is no fault of the disk. Any other answer comes as any act's.
pub data ReachHasCause {D E C : Type 0} (d : Ghosts D) (old new : Core D E C) (act : Act) (answer : Answer) : Type 0 where
  reach_reads : old.fault ≡ None → (answer.entry).kind ≡ PART_KIND → (reply : Reply) → answer.reply ≡ Some reply → IsTrue (may_give act reply) → ReachHasCause d old new act answer
  reach_failed : old.fault ≡ None → (answer.entry).kind ≡ REMOTE_FAULT_KIND → answer.reply ≡ Some (Refused RemoteFault) → ReachHasCause d old new act answer
  reach_as_any : HasCause d old new act answer → ReachHasCause d old new act answer

-- The start of a collector opens it without a reply, or is answered as any act is.
pub data StartHasCause {D E C : Type 0} (d : Ghosts D) (old new : Core D E C) (act : Act) (answer : Answer) : Type 0 where
  start_opens : old.fault ≡ None → (answer.entry).kind ≡ START_KIND → answer.reply ≡ None → StartHasCause d old new act answer
  start_as_any : HasCause d old new act answer → StartHasCause d old new act answer

-- A mark or a visit has no reply. The end of a collector replies its report, or what ended it early. Any other answer comes as any act's.
pub data StepHasCause {D E C : Type 0} (d : Ghosts D) (old new : Core D E C) (act : Act) (answer : Answer) : Type 0 where
  step_passes : old.fault ≡ None → (answer.entry).kind ≡ PART_KIND → answer.reply ≡ None → StepHasCause d old new act answer
  step_ends : old.fault ≡ None → (answer.entry).kind ≡ STOP_KIND → (reply : Reply) → answer.reply ≡ Some reply → IsTrue (may_end reply) → StepHasCause d old new act answer
  step_as_any : HasCause d old new act answer → StepHasCause d old new act answer

abbrev pub ClassHasCause : {D E C : Type 0} → Ghosts D → Class → Core D E C → Core D E C → Act → Answer → Type 0
ClassHasCause d ending old new act answer = EndHasCause d old new answer
ClassHasCause d reaching old new act answer = ReachHasCause d old new act answer
ClassHasCause d starting old new act answer = StartHasCause d old new act answer
ClassHasCause d sweeping old new act answer = StepHasCause d old new act answer
ClassHasCause d wanting old new act answer = ((answer.entry).kind ≡ MEMORY_KIND) × (answer.reply ≡ Some (Refused NoMemory))
ClassHasCause d _ old new act answer = HasCause d old new act answer

-- why any act was answered so
abbrev pub IsCaused : {D E C : Type 0} → Ghosts D → Core D E C → Core D E C → Act → Answer → Type 0
IsCaused d old new act answer = ClassHasCause d (class_of act) old new act answer

-- a lane's end is not told, but where the disk failed
abbrev pub EndIsTold : Answer → Type 0
EndIsTold answer = (((answer.entry).kind ≡ END_KIND) × (answer.reply ≡ None)) ⊎ (((answer.entry).kind ≡ FAULT_KIND) × IsSome answer.reply)

-- an act is not told exactly where its entry is of this kind
abbrev pub IsToldBut : ℕ → Answer → Type 0
IsToldBut untold answer = (((answer.entry).kind ≡ untold) × (answer.reply ≡ None)) ⊎ (((answer.entry).kind ≢ untold) × IsSome answer.reply)

abbrev pub ClassIsTold : Class → Answer → Type 0
ClassIsTold ending answer = EndIsTold answer
ClassIsTold starting answer = IsToldBut 3 answer
ClassIsTold sweeping answer = IsToldBut 1 answer
ClassIsTold _ answer = IsSome answer.reply

-- every act has a reply but a collector's start, a mark, a visit, and a lane's end
abbrev pub IsTold : Act → Answer → Type 0
IsTold act answer = ClassIsTold (class_of act) answer
