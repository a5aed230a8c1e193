-- What is told by what the core keeps: at a command's exits, and by the core's answer.
use Rattle.std.proofs.Common.{◌≡◌, ℕ, Option, Some, Result, Ok, Err, IfOk, IsErrAnd, refl, sym, ap, subst, ◌∙◌, arith}
use Rattle.disk_trait.specs.declared.disk.Disk.{Ghosts}
use Rattle.disk_trait.specs.declared.disk.DiskError.{DiskError}
use Rattle.disk_trait.specs.declared.disk.DiskError.TheVariants as disks
use Rattle.port_traits.specs.Readings.{Readings}
use Rattle.store_types.specs.declared.refusal.Refusal.{Refusal}
use Rattle.store_types.specs.declared.refusal.Refusal.TheVariants as refusals
use Rattle.store_types.specs.declared.order.TheConstants.{COMMAND_KIND, MEMORY_KIND, FAULT_KIND}
use Rattle.wire_commands.specs.declared.reply.Reply.{Reply}
use Rattle.wire_commands.specs.declared.reply.Reply.TheVariants as replies
use Rattle.store_history.specs.declared.act.Answer.{Answer}
use Rattle.core_state.specs.declared.entering.Place.{Place}
use Rattle.core_state.specs.declared.parts.Parts.{Parts}
use Rattle.core_state.specs.declared.state.Core.{Core}
use Rattle.store_stops.specs.declared.stop.Stop.{Stop}
use Rattle.store_stops.specs.declared.stop.Stop.TheVariants.{Refused, NoMemory, DiskFailed}
use Rattle.core_state.specs.Begins.{IsAdmitted, Refuses, short as is_out_of_memory, halted as is_halted}
use Rattle.core_state.specs.Commands.{IsNoRefusal}
use Rattle.core_state.specs.FromState.{ActTells, FromState, CoreTells, kept_reply}
use Rattle.store_history.specs.Replies.{reply_told}
use Rattle.core_state.specs.Settles.{Settles, kind_by, reply_by}
use Rattle.core_state.specs.Stops.{ended_by, told}

-- ---- exits by `?`, where the result is an error with this stop

abbrev pub Stops : Result Reply Stop → Stop → Type 0
Stops result stop = IsErrAnd result (λ x. x ≡ stop)

pub stopped : (P : Result Reply Stop → Type 0) (result : Result Reply Stop) (stop : Stop) → Stops result stop → P (Err stop) → P result
stopped P (Ok reply) stop is p = absurd is
stopped P (Err x) stop is p = subst (λ y. P (Err y)) (sym is) p

-- refused as the command's own tests refuse it
pub told_stopped : (wanted : Result Reply Refusal) (refusal : Refusal) (result : Result Reply Stop) → Stops result (Refused refusal) → wanted ≡ Err refusal → IfOk (told result) (λ reply. reply ≡ reply_told wanted)
told_stopped wanted refusal result stops is = stopped (λ r. IfOk (told r) (λ reply. reply ≡ reply_told wanted)) result (Refused refusal) stops (sym (ap reply_told is))

-- ---- the core's answer

-- an act that was refused before it was done is none that was done
pub undone_kind : {D E C : Type 0} (d : Ghosts D) (readings : C → Option Readings) (old new : Core D E C) (lane : ℕ) (answer : Answer)
    → Refuses d readings old new lane answer → (answer.entry).kind ≡ COMMAND_KIND → ⊥
undone_kind d readings old new lane answer (is_out_of_memory is) k =
    let kind : (answer.entry).kind ≡ MEMORY_KIND = ap (λ x. x.kind) (is.entered).entry in
    omega (arith, k, kind)
undone_kind d readings old new lane answer (is_halted is) k =
    let kind : (answer.entry).kind ≡ FAULT_KIND = ap (λ x. x.kind) (is.entered).entry in
    omega (arith, k, kind)

pub refused_tells : {D E C : Type 0} (d : Ghosts D) (readings : C → Option Readings) (old new : Core D E C) (lane : ℕ) (wanted : FromState) (answer : Answer)
    → Refuses d readings old new lane answer → CoreTells wanted old lane answer
refused_tells d readings old new lane wanted answer refuses k = absurd (undone_kind d readings old new lane answer refuses k)

told_by : (wanted : Reply) (outcome : Result Reply DiskError) → IfOk outcome (λ reply. reply ≡ wanted) → kind_by outcome ≡ 0 → Some (reply_by outcome) ≡ Some wanted
told_by wanted (Ok reply) is k = ap (λ r. Some r) is
told_by wanted (Err disks.NoMemory) is k = absurd (omega (arith, k))
told_by wanted (Err disks.Failed) is k = absurd (omega (arith, k))

-- an act that was done, as its command tells
pub done_tells : {D E C : Type 0} (d : Ghosts D) (readings : C → Option Readings) (old mid acted new : Core D E C) (lane : ℕ) (at : Place) (wanted : FromState) (result : Result Reply Stop) (answer : Answer)
    → IsAdmitted readings old mid lane at → ActTells wanted mid.parts at result → Settles d acted new at.lane at.moment (told result) answer → CoreTells wanted old lane answer
done_tells d readings old mid acted new lane at wanted result answer admitted tells e k =
    let before = ((admitted.ready).begun).parts in
    let done : kind_by (told result) ≡ 0 = sym (ap (λ x. x.kind) e.entry) ∙ k in
    e.reply_is ∙ told_by (kept_reply wanted mid.parts at.lane) (told result) tells done ∙ ap (λ p. Some (kept_reply wanted p at.lane)) before
    ∙ ap (λ l. Some (kept_reply wanted old.parts l)) admitted.lane_is

-- ---- how an act ended, by its reply

done_ended : (reply : Reply) → IsNoRefusal reply → ended_by (Some reply) ≡ Ok reply
done_ended (replies.Refused refusal) plain = absurd plain
done_ended reply plain = refl

-- what holds of how it ended holds by its reply, where want of memory and a fault are refusals
told_ended : (P : Result Reply Stop → Type 0) (result : Result Reply Stop) → IfOk result IsNoRefusal → (P (Err NoMemory) → P (Err (Refused refusals.NoMemory)))
    → (P (Err DiskFailed) → P (Err (Refused refusals.DiskFault))) → P result → P (ended_by (Some (reply_by (told result))))
told_ended P (Ok reply) plain wanting failing p = subst P (sym (done_ended reply plain)) p
told_ended P (Err (Refused refusal)) plain wanting failing p = p
told_ended P (Err NoMemory) plain wanting failing p = wanting p
told_ended P (Err DiskFailed) plain wanting failing p = failing p

-- of the parts before and after it, and how it ended
pub done_ends : {D E C : Type 0} (d : Ghosts D) (readings : C → Option Readings) (old mid acted new : Core D E C) (lane : ℕ) (at : Place) (P : Parts D → Parts D → ℕ → Result Reply Stop → Type 0) (result : Result Reply Stop) (answer : Answer)
    → IsAdmitted readings old mid lane at → IfOk result IsNoRefusal → (P mid.parts acted.parts at.lane (Err NoMemory) → P mid.parts acted.parts at.lane (Err (Refused refusals.NoMemory)))
    → (P mid.parts acted.parts at.lane (Err DiskFailed) → P mid.parts acted.parts at.lane (Err (Refused refusals.DiskFault)))
    → P mid.parts acted.parts at.lane result → Settles d acted new at.lane at.moment (told result) answer → P old.parts new.parts lane (ended_by answer.reply)
done_ends d readings old mid acted new lane at P result answer admitted plain wanting failing p e =
    subst (λ l. P old.parts new.parts l (ended_by answer.reply)) admitted.lane_is
    (subst (λ parts. P parts new.parts at.lane (ended_by answer.reply)) ((admitted.ready).begun).parts
    (subst (λ parts. P mid.parts parts at.lane (ended_by answer.reply)) (sym e.parts)
    (subst (λ r. P mid.parts acted.parts at.lane (ended_by r)) (sym e.reply_is)
    (told_ended (P mid.parts acted.parts at.lane) result plain wanting failing p))))

-- an act that was refused before it was done leaves the parts
pub refused_ends : {D E C : Type 0} (d : Ghosts D) (readings : C → Option Readings) (old new : Core D E C) (lane : ℕ) (P : Parts D → Parts D → Result Reply Stop → Type 0) (answer : Answer)
    → Refuses d readings old new lane answer → P old.parts old.parts (Err (Refused refusals.NoMemory)) → ((first : ℕ) → P old.parts old.parts (Err (Refused (refusals.Halted first))))
    → P old.parts new.parts (ended_by answer.reply)
refused_ends d readings old new lane P answer (is_out_of_memory is) wanting halting =
    subst (λ parts. P old.parts parts (ended_by answer.reply)) (sym ((is.entered).parts ∙ (is.begun).parts))
    (subst (λ r. P old.parts old.parts (ended_by r)) (sym (is.entered).reply_is) wanting)
refused_ends d readings old new lane P answer (is_halted is) wanting halting =
    subst (λ parts. P old.parts parts (ended_by answer.reply)) (sym ((is.entered).parts ∙ (is.begun).parts))
    (subst (λ r. P old.parts old.parts (ended_by r)) (sym (is.entered).reply_is) (halting is.first))
