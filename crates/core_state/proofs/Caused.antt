-- Why an act was answered so, on any disk.
use Rattle.disk_trait.specs.declared.disk.Disk.{Ghosts}
use Rattle.std.proofs.Common.{◌≡◌, ℕ, length, Option, Some, None, Result, Ok, Err, IfOk, IsTrue, IsErrOf, refl, sym, ap, subst, ◌∙◌}
use Rattle.port_traits.specs.Readings.{Readings}
use Rattle.disk_trait.specs.Disk.{Rose, Serves}
use Rattle.disk_trait.specs.declared.disk.DiskError.{DiskError}
use Rattle.disk_trait.specs.declared.disk.DiskError.TheVariants.{NoMemory as DiskMemory, Failed as DiskFailed}
use Rattle.store_types.specs.declared.refusal.Refusal.TheVariants.{DiskFault}
use Rattle.wire_commands.specs.declared.reply.Reply.{Reply}
use Rattle.wire_commands.specs.declared.reply.Reply.TheVariants.{Refused}
use Rattle.store_history.specs.declared.act.Act.{Act}
use Rattle.store_history.specs.declared.act.Act.TheVariants.{Plain, JobGroup, Blob, Chunk, ReadFile, ReadChunk, RemoteList, RemoteFile, RemoteChunk, Start, Step, Short, End}
use Rattle.store_history.specs.declared.act.Answer.{Answer}
use Rattle.store_history.specs.Acts.{class_of, stepping, wanting}
use Rattle.core_state.specs.declared.state.Core.{Core}
use Rattle.core_state.specs.Settles.{IsEntered, Settles}
use Rattle.core_state.specs.Begins.{IsBegun, IsShort, Refuses, short as is_out_of_memory, halted as is_halted, IsReady}
use Rattle.store_history.specs.Replies.{may_answer}
use Rattle.core_state.specs.Answers.{HasCause, done, short, failed, halted, EndHasCause, ended, end_failed, IsCaused}

pub short_caused : {D E C : Type 0} (d : Ghosts D) (readings : C → Option Readings) (old new : Core D E C) (lane : ℕ) (act : Act) (answer : Answer)
    → IsShort d readings old new lane answer → HasCause d old new act answer
short_caused d readings old new lane act answer is = short (ap (λ x. x.kind) (is.entered).entry) (is.entered).reply_is

pub refused_caused : {D E C : Type 0} (d : Ghosts D) (readings : C → Option Readings) (old new : Core D E C) (lane : ℕ) (act : Act) (answer : Answer)
    → Refuses d readings old new lane answer → HasCause d old new act answer
refused_caused d readings old new lane act answer (is_out_of_memory is) = short_caused d readings old new lane act answer is
refused_caused d readings old new lane act answer (is_halted is) = halted is.first is.fault (ap (λ x. x.kind) (is.entered).entry) (is.entered).reply_is

pub done_caused : {D E C : Type 0} (d : Ghosts D) (readings : C → Option Readings) (old mid acted new : Core D E C) (lane moment : ℕ) (act : Act) (result : Result Reply DiskError) (answer : Answer)
    → IsReady readings old mid lane moment
    → Serves d.honest d.faults (mid.parts).disk (acted.parts).disk (IsErrOf result DiskFailed) → IfOk result (λ reply. IsTrue (may_answer act reply))
    → Settles d acted new lane moment result answer → HasCause d old new act answer
done_caused d readings old mid acted new lane moment act (Ok reply) answer ready serves answers e =
    done ready.no_fault (ap (λ x. x.kind) e.entry) reply e.reply_is answers
done_caused d readings old mid acted new lane moment act (Err DiskMemory) answer ready serves answers e =
    short (ap (λ x. x.kind) e.entry) e.reply_is
done_caused d readings old mid acted new lane moment act (Err DiskFailed) answer ready serves answers e =
    failed ready.no_fault (ap (λ x. x.kind) e.entry) e.reply_is (e.fault ∙ ap (λ n. Some n) (sym e.place))
    (subst (λ p. Rose (d.faults (old.parts).disk) (d.faults p.disk)) (sym e.parts)
    (subst (λ p. Rose (d.faults p.disk) (d.faults (acted.parts).disk)) (ready.begun).parts (serves.cause refl)))

-- ---- a lane's end

pub ended_caused : {D E C : Type 0} (d : Ghosts D) (old acted new : Core D E C) (lane moment : ℕ) (answer : Answer)
    → IsEntered d acted new lane moment 6 None answer → EndHasCause d old new answer
ended_caused d old acted new lane moment answer e = ended (ap (λ x. x.kind) e.entry) e.reply_is

pub end_failed_caused : {D E C : Type 0} (d : Ghosts D) (readings : C → Option Readings) (has_failed : Type 0) (old mid acted new : Core D E C) (lane moment : ℕ) (answer : Answer)
    → IsBegun readings old mid lane moment → old.fault ≡ None → has_failed → Serves d.honest d.faults (mid.parts).disk (acted.parts).disk has_failed
    → acted.fault ≡ Some (length (acted.journal).entries.items)
    → IsEntered d acted new lane moment 5 (Some (Refused DiskFault)) answer → EndHasCause d old new answer
end_failed_caused d readings has_failed old mid acted new lane moment answer b before is serves first e =
    end_failed before (ap (λ x. x.kind) e.entry) e.reply_is (e.fault ∙ first ∙ ap (λ n. Some n) (sym e.place))
    (subst (λ p. Rose (d.faults (old.parts).disk) (d.faults p.disk)) (sym e.parts)
    (subst (λ p. Rose (d.faults p.disk) (d.faults (acted.parts).disk)) b.parts (serves.cause is)))

-- ---- any act

pub step_caused : {D E C : Type 0} (d : Ghosts D) (old new : Core D E C) (act : Act) (answer : Answer) → class_of act ≡ stepping → HasCause d old new act answer → IsCaused d old new act answer
step_caused d old new (Plain command) answer step h = h
step_caused d old new (JobGroup command) answer step h = h
step_caused d old new (Blob name checked) answer step h = h
step_caused d old new (Chunk digest checked) answer step h = h
step_caused d old new (ReadFile name offset) answer step h = h
step_caused d old new (ReadChunk name entry) answer step h = h
step_caused d old new (RemoteList command) answer step h = cc
step_caused d old new (RemoteFile snapshot name offset) answer step h = cc
step_caused d old new (RemoteChunk digest) answer step h = cc
step_caused d old new Start answer step h = cc
step_caused d old new Step answer step h = cc
step_caused d old new Short answer step h = cc
step_caused d old new End answer step h = cc

pub want_caused : {D E C : Type 0} (d : Ghosts D) (readings : C → Option Readings) (old new : Core D E C) (lane : ℕ) (act : Act) (answer : Answer)
    → class_of act ≡ wanting → IsShort d readings old new lane answer → IsCaused d old new act answer
want_caused d readings old new lane Short answer want is = (ap (λ x. x.kind) (is.entered).entry, (is.entered).reply_is)
want_caused d readings old new lane act answer want is = cc
