-- What an act's answer is on any disk.
use Rattle.disk_trait.specs.declared.disk.Disk.{Ghosts}
use Rattle.std.proofs.Common.{◌≡◌, ◌↔◌, ◌≤◌, ℕ, Bool, true, false, ◌&&◌, ◌==◌, [], ◌∷◌, ◌++◌, length, Option, Some, None, Result, Ok, Err, IfSome, IsSome, is_some, IfOk, IsErrOf, inl, inr, refl, sym, ap, subst, ◌∙◌, arith}
use Rattle.store_types.specs.declared.order.TheConstants.{FAULT_KIND}
use Rattle.port_traits.specs.Readings.{Readings}
use Rattle.disk_trait.specs.Disk.{Rose, Serves}
use Rattle.disk_trait.specs.declared.disk.DiskError.{DiskError}
use Rattle.disk_trait.specs.declared.disk.DiskError.TheVariants.{NoMemory as DiskMemory, Failed as DiskFailed}
use Rattle.wire_commands.specs.declared.reply.Reply.{Reply}
use Rattle.wire_commands.specs.HasText.{ReplyHasText}
use Rattle.store_model.specs.Weave.{first_fault}
use Rattle.store_history.specs.declared.act.Answer.{Answer}
use Rattle.core_state.specs.declared.state.Core.{Core}
use Rattle.core_state.specs.declared.entering.Admitted.TheVariants.{Answered}
use Rattle.core_state.specs.Settles.{IsEntered, Settles}
use Rattle.core_state.specs.Begins.{IsBegun, IsShort, Refuses, short, halted, IsReady, AdmittedHasText}
use Rattle.core_state.specs.Answers.{IsAnswered, EndIsTold}
use Rattle.store_history.specs.Answered.{fault_after}
use Rattle.core_state.proofs.Texts.{no_memory_has_text, disk_fault_has_text}

pub and_second : (a : Bool) (n : ℕ) → a && (n == 2) ≡ true → n ≡ 2
and_second true n e = search arith
and_second false n e = absurd (false_true e)
  where
    false_true : false ≡ true → ⊥
    false_true e = cc

-- an entry after which no more has changed than at `mid`
pub entered_answered : {D E C : Type 0} (d : Ghosts D) (old mid new : Core D E C) (lane moment kind : ℕ) (reply : Option Reply) (answer : Answer)
    → IsEntered d mid new lane moment kind reply answer
    → (mid.journal).entries.items ≡ (old.journal).entries.items → (mid.journal).calls.items ≡ (old.journal).calls.items
    → IfSome reply ReplyHasText
    → mid.fault ≡ fault_after (length (old.journal).entries.items) kind old.fault
    → d.faults (old.parts).disk ≤ d.faults (mid.parts).disk → (d.honest (old.parts).disk ↔ d.honest (mid.parts).disk)
    → (kind ≡ FAULT_KIND → old.fault ≡ None → Rose (d.faults (old.parts).disk) (d.faults (mid.parts).disk))
    → IsAnswered d old new lane answer
entered_answered d old mid new lane moment kind reply answer e entries calls text fault count kept cause =
    let kind_is : (answer.entry).kind ≡ kind = ap (λ x. x.kind) e.entry in record {
      lane_is = ap (λ x. x.lane) e.entry;
      place = e.place ∙ ap length entries;
      entries = e.entries ∙ ap (λ xs. xs ++ answer.entry ∷ []) entries;
      calls = e.calls ∙ ap (λ xs. xs ++ d.calls (mid.parts).disk ∷ []) calls ∙ ap (λ p. (old.journal).calls.items ++ d.calls p.disk ∷ []) (sym e.parts);
      text = subst (λ r. IfSome r ReplyHasText) (sym e.reply_is) text;
      last = λ is. kind_is ∙ and_second e.is_held kind (sym e.last_held ∙ is);
      fault = e.fault ∙ fault ∙ ap (λ k. fault_after (length (old.journal).entries.items) k old.fault) (sym kind_is);
      count = subst (λ p. d.faults (old.parts).disk ≤ d.faults p.disk) (sym e.parts) count;
      kept = subst (λ p. d.honest (old.parts).disk ↔ d.honest p.disk) (sym e.parts) kept;
      cause = λ is before. subst (λ p. Rose (d.faults (old.parts).disk) (d.faults p.disk)) (sym e.parts) (cause (sym kind_is ∙ is) before);
    }

same_count : {D : Type 0} (d : Ghosts D) (old mid : D) → mid ≡ old → d.faults old ≤ d.faults mid
same_count d old mid same = let e = ap d.faults same in omega (arith, e)

pub same_honest : {D : Type 0} (d : Ghosts D) (old mid : D) → mid ≡ old → d.honest old ↔ d.honest mid
same_honest d old mid same = (λ h. subst d.honest (sym same) h, λ h. subst d.honest same h)

pub short_answered : {D E C : Type 0} (d : Ghosts D) (readings : C → Option Readings) (old new : Core D E C) (lane : ℕ) (answer : Answer)
    → IsShort d readings old new lane answer → IsAnswered d old new lane answer
short_answered d readings old new lane answer is = let b = is.begun in
    entered_answered d old is.between new lane is.moment 2 _ answer is.entered (b.entries).entries (b.entries).calls
    no_memory_has_text b.fault (same_count d _ _ (ap (λ p. p.disk) b.parts)) (same_honest d _ _ (ap (λ p. p.disk) b.parts)) (λ is. absurd (omega (arith, is)))

pub refused_answered : {D E C : Type 0} (d : Ghosts D) (readings : C → Option Readings) (old new : Core D E C) (lane : ℕ) (answer : Answer)
    → Refuses d readings old new lane answer → AdmittedHasText (Answered answer) → IsAnswered d old new lane answer
refused_answered d readings old new lane answer (short is) text = short_answered d readings old new lane answer is
refused_answered d readings old new lane answer (halted is) text = let b = is.begun in
    entered_answered d old is.between new lane is.moment 5 _ answer is.entered (b.entries).entries (b.entries).calls
    (subst (λ r. IfSome r ReplyHasText) (is.entered).reply_is text)
    (b.fault ∙ is.fault ∙ ap (first_fault (length (old.journal).entries.items)) (sym is.fault))
    (same_count d _ _ (ap (λ p. p.disk) b.parts)) (same_honest d _ _ (ap (λ p. p.disk) b.parts)) (λ _ before. absurd (some_none is.first (sym is.fault ∙ before)))
  where
    some_none : (n : ℕ) → Some n ≡ None → ⊥
    some_none n e = cc

pub done_answered : {D E C : Type 0} (d : Ghosts D) (readings : C → Option Readings) (old mid acted new : Core D E C) (lane moment : ℕ) (result : Result Reply DiskError) (answer : Answer)
    → IsReady readings old mid lane moment → acted.journal ≡ mid.journal → acted.fault ≡ mid.fault
    → Serves d.honest d.faults (mid.parts).disk (acted.parts).disk (IsErrOf result DiskFailed) → IfOk result ReplyHasText
    → Settles d acted new lane moment result answer → IsAnswered d old new lane answer
done_answered d readings old mid acted new lane moment result answer ready journal fault serves text settles =
    by_result result serves text settles
  where
    b : IsBegun readings old mid lane moment
    b = ready.begun

    place : ℕ
    place = length (old.journal).entries.items

    entries : (acted.journal).entries.items ≡ (old.journal).entries.items
    entries = ap (λ j. j.entries.items) journal ∙ (b.entries).entries

    calls : (acted.journal).calls.items ≡ (old.journal).calls.items
    calls = ap (λ j. j.calls.items) journal ∙ (b.entries).calls

    before : acted.fault ≡ old.fault
    before = fault ∙ b.fault

    risen : (failed : Type 0) → Serves d.honest d.faults (mid.parts).disk (acted.parts).disk failed → d.faults (old.parts).disk ≤ d.faults (acted.parts).disk
    risen failed s = subst (λ p. d.faults p.disk ≤ d.faults (acted.parts).disk) b.parts s.count

    honest : (failed : Type 0) → Serves d.honest d.faults (mid.parts).disk (acted.parts).disk failed → d.honest (old.parts).disk ↔ d.honest (acted.parts).disk
    honest failed s = subst (λ p. d.honest p.disk ↔ d.honest (acted.parts).disk) b.parts s.kept

    by_result : (r : Result Reply DiskError) → Serves d.honest d.faults (mid.parts).disk (acted.parts).disk (IsErrOf r DiskFailed) → IfOk r ReplyHasText
        → Settles d acted new lane moment r answer → IsAnswered d old new lane answer
    by_result (Ok reply) s t e =
        entered_answered d old (record acted { fault = acted.fault }) new lane moment 0 (Some reply) answer e entries calls t before (risen _ s) (honest _ s) (λ is. absurd (omega (arith, is)))
    by_result (Err DiskMemory) s t e =
        entered_answered d old (record acted { fault = acted.fault }) new lane moment 2 _ answer e entries calls no_memory_has_text before (risen _ s) (honest _ s) (λ is. absurd (omega (arith, is)))
    by_result (Err DiskFailed) s t e =
        entered_answered d old (record acted { fault = Some (length (acted.journal).entries.items) }) new lane moment 5 _ answer e entries calls disk_fault_has_text
        (ap (λ n. Some n) (ap length entries) ∙ sym (ap (first_fault place) ready.no_fault))
        (risen _ s) (honest _ s) (λ _ _. subst (λ p. Rose (d.faults p.disk) (d.faults (acted.parts).disk)) b.parts (s.cause refl))

-- ---- each has a reply

some_told : (r : Option Reply) (reply : Reply) → r ≡ Some reply → IsSome r
some_told r reply is = ap is_some is

pub short_told : {D E C : Type 0} (d : Ghosts D) (readings : C → Option Readings) (old new : Core D E C) (lane : ℕ) (answer : Answer)
    → IsShort d readings old new lane answer → IsSome answer.reply
short_told d readings old new lane answer is = some_told answer.reply _ (is.entered).reply_is

pub refused_told : {D E C : Type 0} (d : Ghosts D) (readings : C → Option Readings) (old new : Core D E C) (lane : ℕ) (answer : Answer)
    → Refuses d readings old new lane answer → IsSome answer.reply
refused_told d readings old new lane answer (short is) = short_told d readings old new lane answer is
refused_told d readings old new lane answer (halted is) = some_told answer.reply _ (is.entered).reply_is

-- ---- a lane's end

-- no disk call was made
pub untouched : {D : Type 0} (d : Ghosts D) (old new : D) → new ≡ old → Serves d.honest d.faults old new ⊥
untouched d old new same = record {
  kept = same_honest d old new same;
  count = same_count d old new same;
  cause = λ f. absurd f;
}

-- it was entered, and the disk did not fail in it
pub ended_answered : {D E C : Type 0} (d : Ghosts D) (readings : C → Option Readings) (failed : Type 0) (old mid acted new : Core D E C) (lane moment : ℕ) (answer : Answer)
    → IsBegun readings old mid lane moment → acted.journal ≡ mid.journal → acted.fault ≡ mid.fault
    → Serves d.honest d.faults (mid.parts).disk (acted.parts).disk failed
    → IsEntered d acted new lane moment 6 None answer → IsAnswered d old new lane answer
ended_answered d readings failed old mid acted new lane moment answer b journal fault serves e =
    entered_answered d old acted new lane moment 6 None answer e
    (ap (λ j. j.entries.items) journal ∙ (b.entries).entries) (ap (λ j. j.calls.items) journal ∙ (b.entries).calls) tt (fault ∙ b.fault)
    (subst (λ p. d.faults p.disk ≤ d.faults (acted.parts).disk) b.parts serves.count) (subst (λ p. d.honest p.disk ↔ d.honest (acted.parts).disk) b.parts serves.kept) (λ is. absurd (omega (arith, is)))

-- the disk failed in it
pub end_failed_answered : {D E C : Type 0} (d : Ghosts D) (readings : C → Option Readings) (failed : Type 0) (old mid acted new : Core D E C) (lane moment : ℕ) (answer : Answer)
    → IsBegun readings old mid lane moment → old.fault ≡ None → acted.journal ≡ mid.journal → acted.fault ≡ mid.fault
    → failed → Serves d.honest d.faults (mid.parts).disk (acted.parts).disk failed
    → Settles d acted new lane moment (Err DiskFailed) answer → IsAnswered d old new lane answer
end_failed_answered d readings failed old mid acted new lane moment answer b before journal fault has_failed serves e =
    entered_answered d old (record acted { fault = Some (length (acted.journal).entries.items) }) new lane moment 5 _ answer e
    entries (ap (λ j. j.calls.items) journal ∙ (b.entries).calls) disk_fault_has_text
    (ap (λ n. Some n) (ap length entries) ∙ sym (ap (first_fault (length (old.journal).entries.items)) before))
    (subst (λ p. d.faults p.disk ≤ d.faults (acted.parts).disk) b.parts serves.count)
    (subst (λ p. d.honest p.disk ↔ d.honest (acted.parts).disk) b.parts serves.kept)
    (λ _ _. subst (λ p. Rose (d.faults p.disk) (d.faults (acted.parts).disk)) b.parts (serves.cause has_failed))
  where
    entries : (acted.journal).entries.items ≡ (old.journal).entries.items
    entries = ap (λ j. j.entries.items) journal ∙ (b.entries).entries

pub ended_told : {D E C : Type 0} (d : Ghosts D) (old new : Core D E C) (lane moment : ℕ) (answer : Answer)
    → IsEntered d old new lane moment 6 None answer → EndIsTold answer
ended_told d old new lane moment answer e = inl (ap (λ x. x.kind) e.entry, e.reply_is)

pub end_failed_told : {D E C : Type 0} (d : Ghosts D) (mid acted new : Core D E C) (lane moment : ℕ) (answer : Answer)
    → acted.fault ≡ mid.fault → Settles d acted new lane moment (Err DiskFailed) answer → EndIsTold answer
end_failed_told d mid acted new lane moment answer same e = inr (ap (λ x. x.kind) e.entry, some_told answer.reply _ e.reply_is)

-- ---- the disk after it failed

pub where_some : (o : Option ℕ) (P : Type 0) → P → IfSome o (λ _. P)
where_some None P p = tt
where_some (Some n) P p = p

pub where_none : (o : Option ℕ) (P : Type 0) → o ≡ None → IfSome o (λ _. P)
where_none o P is = subst (λ x. IfSome x (λ _. P)) (sym is) tt

-- an act that is refused before it is done makes no disk call
pub refused_same : {D E C : Type 0} (d : Ghosts D) (readings : C → Option Readings) (old new : Core D E C) (lane : ℕ) (answer : Answer)
    → Refuses d readings old new lane answer → (new.parts).disk ≡ (old.parts).disk
refused_same d readings old new lane answer (short is) = ap (λ p. p.disk) ((is.entered).parts ∙ (is.begun).parts)
refused_same d readings old new lane answer (halted is) = ap (λ p. p.disk) ((is.entered).parts ∙ (is.begun).parts)
