-- What the core keeps of a history after one act more, on any disk.
use Rattle.disk_trait.specs.declared.disk.Disk.{Ghosts}
use Rattle.std.proofs.Common.{◌≡◌, ◌<◌, ◌≤◌, ◌+◌, ◌^◌, inl, inr, ℕ, suc, List, [], ◌∷◌, ◌++◌, length, length-append, Option, Some, None, IfSome, Result, sym, ap, subst, ◌∙◌, arith}
use Rattle.std.proofs.lemmas.List.{map-append, length-map}
use Rattle.store_types.specs.declared.order.TheConstants.{MEMORY_KIND}
use Rattle.port_traits.specs.Readings.{Readings}
use Rattle.disk_trait.specs.declared.disk.DiskError.{DiskError}
use Rattle.wire_commands.specs.declared.reply.Reply.{Reply}
use Rattle.wire_commands.specs.declared.reply.Reply.TheVariants.{Refused}
use Rattle.wire_commands.specs.HasText.{ReplyHasText}
use Rattle.store_model.specs.Weave.{fault_refusal}
use Rattle.store_history.specs.declared.act.Act.{Act}
use Rattle.store_history.specs.declared.act.Act.TheVariants.{Start, Step}
use Rattle.store_history.specs.declared.act.Answer.{Answer}
use Rattle.store_history.specs.declared.act.Event.{Event}
use Rattle.store_history.specs.Acts.{stepping, reaching, starting, sweeping, wanting, ending, class_of}
use Rattle.store_history.specs.History.{entry, kind, moment, kind_of}
use Rattle.store_history.specs.History as kinds
use Rattle.store_history.specs.Legal.{moment_after}
use Rattle.atime_book.specs.Touches.{NoneAfter}
use Rattle.store_history.proofs.Longer.{moment_more, entries_more}
use Rattle.core_state.specs.declared.state.Core.{Core}
use Rattle.core_state.specs.History.{History, then_event, event_of}
use Rattle.core_state.specs.Kept.{kept_at}
use Rattle.core_state.specs.Settles.{IsEntered, Settles, with_fault, fault_by, kind_by}
use Rattle.core_state.specs.Begins.{ReadsClock, IsShort, Refuses, short, halted}
use Rattle.core_state.specs.Answers.{IsAnswered, HasCause, done, short as was_short, failed, halted as was_halted, ReachHasCause, reach_reads, reach_failed, reach_as_any, StartHasCause, start_opens, start_as_any, StepHasCause, step_passes, step_ends, step_as_any, EndHasCause, ended, end_failed}
use Rattle.store_history.specs.Answered.{fault_after, FitsKind, FitsReply, GivesReply, IsKept, AreKept, fault_in}
use Rattle.core_state.specs.Records.{IsTimely, Records}
use Rattle.core_state.specs.Catalogue.{Lists, listed_by}
use Rattle.core_state.specs.Numbers.{AreNumbered}
use Rattle.core_state.proofs.Entered.{time_more}
use Rattle.core_state.proofs.Numbering.{numbered_by}

-- ---- one event more

kept_more : (place : ℕ) (fault : Option ℕ) (before : ℕ) (h : List Event) (e : Event) → AreKept place fault before h
    → IsKept (place + length h) (fault_in place fault h) (moment_after before h) e → AreKept place fault before (h ++ e ∷ [])
kept_more place fault before [] e kept is =
    let none : place + 0 ≡ place = omega arith in (subst (λ n. IsKept n fault before e) none is, tt)
kept_more place fault before (v ∷ h) e kept is =
    let on : place + suc (length h) ≡ place + 1 + length h = omega arith in
    let first = fault_after place (kind v) fault in (
      kept.0,
      kept_more (place + 1) first (moment v) h e kept.1 (subst (λ n. IsKept n (fault_in (place + 1) first h) (moment_after (moment v) h) e) on is),
    )

fault_more : (place : ℕ) (fault : Option ℕ) (h : List Event) (e : Event) → fault_in place fault (h ++ e ∷ []) ≡ fault_after (place + length h) (kind e) (fault_in place fault h)
fault_more place fault [] e =
    let none : place ≡ place + 0 = omega arith in ap (λ n. fault_after n (kind e) fault) none
fault_more place fault (v ∷ h) e =
    let on : place + 1 + length h ≡ place + suc (length h) = omega arith in
    let first = fault_after place (kind v) fault in
    fault_more (place + 1) first h e ∙ ap (λ n. fault_after n (kind e) (fault_in (place + 1) first h)) on

pub numbers_more : {D E C : Type 0} (old new : Core D E C) (lane : ℕ) (act : Act) (answer : Answer)
    → answer.place ≡ length (old.journal).entries.items → (new.journal).entries.items ≡ (old.journal).entries.items ++ answer.entry ∷ [] → Lists old new lane act answer
    → AreNumbered (length (old.journal).entries.items) (old.parts).catalogue.listed → AreNumbered (length (new.journal).entries.items) (new.parts).catalogue.listed
numbers_more old new lane act answer place entered lists numbers =
    let was = length (old.journal).entries.items in
    let few : was < 2 ^ 63 = omega (arith, (old.journal).entries.ok.0, (old.journal).entries.ok.1, (old.journal).entries.small) in
    let count : length (new.journal).entries.items ≡ was + 1 = let n = ap length entered in omega (arith, n, length-append (old.journal).entries.items (answer.entry ∷ [])) in
    let items : (new.parts).catalogue.listed ≡ listed_by act answer.reply was (kept_at old.parts lane) =
    lists ∙ ap (λ n. listed_by act answer.reply n (kept_at old.parts lane)) place in
    subst (λ n. AreNumbered n (new.parts).catalogue.listed) (sym count)
    (subst (AreNumbered (was + 1)) (sym items) (numbered_by was few (kept_at old.parts lane) numbers act answer.reply))

pub records_more : {D E C : Type 0} (d : Ghosts D) (readings : C → Option Readings) (old new : Core D E C) (lane : ℕ) (act : Act) (answer : Answer) (h : History)
    → IsAnswered d old new lane answer → IsTimely readings old new answer → FitsKind (class_of act) old.fault (answer.entry).kind
    → FitsReply old.fault act (kind_of (answer.entry).kind) answer.reply → Lists old new lane act answer
    → (NoneAfter (old.upkeep).book old.last → NoneAfter (new.upkeep).book new.last)
    → Records readings old h → Records readings new (then_event h (event_of act answer (d.calls (new.parts).disk)))
records_more d readings old new lane act answer h a t fits tells lists early r = record {
  kept = kept_more 0 None (h.opening).moment h.events e r.kept (record {
    kind_is = subst (λ o. FitsKind (class_of act) o (answer.entry).kind) r.fault fits;
    tells = subst (λ o. FitsReply o act (kind_of (answer.entry).kind) answer.reply) r.fault tells;
    place_is = a.place ∙ count;
    last = a.last;
    risen = subst (λ n. n ≤ (answer.entry).moment) r.last (t.clock).risen;
    in_time = (t.clock).in_time;
  });
  entries = a.entries ∙ ap (λ xs. xs ++ answer.entry ∷ []) r.entries ∙ sym (entries_more h.events e);
  calls = a.calls ∙ ap (λ xs. xs ++ d.calls (new.parts).disk ∷ []) r.calls ∙ sym (map-append (λ v. v.calls) h.events (e ∷ []));
  fault = a.fault ∙ ap (λ n. fault_after n (answer.entry).kind old.fault) count ∙ ap (fault_after (0 + length h.events) (answer.entry).kind) r.fault
      ∙ sym (fault_more 0 None h.events e);
  last = t.last ∙ sym (moment_more (h.opening).moment h.events e);
  time = time_more readings old.clock new.clock old.last h e r.last r.time t.clock;
  early = early r.early;
  numbers = numbers_more old new lane act answer a.place a.entries lists r.numbers;
}
  where
    e : Event
    e = event_of act answer (d.calls (new.parts).disk)

    count : length (old.journal).entries.items ≡ 0 + length h.events
    count = let n = ap length r.entries in omega (arith, n, length-map h.events entry)

-- ---- the moment

pub entered_timely : {D E C : Type 0} (d : Ghosts D) (readings : C → Option Readings) (old mid new : Core D E C) (lane m n : ℕ) (reply : Option Reply) (answer : Answer)
    → ReadsClock readings old.clock mid.clock old.last m → IsEntered d mid new lane m n reply answer → IsTimely readings old new answer
entered_timely d readings old mid new lane m n reply answer reads e =
    let is : (answer.entry).moment ≡ m = ap (λ x. x.moment) e.entry in record {
      clock = subst (λ x. ReadsClock readings old.clock new.clock old.last x) (sym is) (subst (λ c. ReadsClock readings old.clock c old.last m) (sym e.clock) reads);
      last = e.last ∙ sym is;
    }

pub short_timely : {D E C : Type 0} (d : Ghosts D) (readings : C → Option Readings) (old new : Core D E C) (lane : ℕ) (answer : Answer)
    → IsShort d readings old new lane answer → IsTimely readings old new answer
short_timely d readings old new lane answer is =
    entered_timely d readings old is.between new lane is.moment 2 _ answer (is.begun).clock is.entered

pub refused_timely : {D E C : Type 0} (d : Ghosts D) (readings : C → Option Readings) (old new : Core D E C) (lane : ℕ) (answer : Answer)
    → Refuses d readings old new lane answer → IsTimely readings old new answer
refused_timely d readings old new lane answer (short is) = short_timely d readings old new lane answer is
refused_timely d readings old new lane answer (halted is) =
    entered_timely d readings old is.between new lane is.moment 5 _ answer (is.begun).clock is.entered

pub settled_timely : {D E C : Type 0} (d : Ghosts D) (readings : C → Option Readings) (old acted new : Core D E C) (lane m : ℕ) (result : Result Reply DiskError) (answer : Answer)
    → ReadsClock readings old.clock acted.clock old.last m → Settles d acted new lane m result answer → IsTimely readings old new answer
settled_timely d readings old acted new lane m result answer reads e =
    entered_timely d readings old (with_fault acted (fault_by acted.fault (length (acted.journal).entries.items) result)) new lane m (kind_by result) _ answer reads e

-- ---- the kind

pub step_kind : {D E C : Type 0} (d : Ghosts D) (old new : Core D E C) (act : Act) (answer : Answer)
    → class_of act ≡ stepping → HasCause d old new act answer → FitsKind (class_of act) old.fault (answer.entry).kind
step_kind d old new act answer step cause = subst (λ c. FitsKind c old.fault (answer.entry).kind) (sym step) (by_cause cause)
  where
    by_cause : HasCause d old new act answer → FitsKind stepping old.fault (answer.entry).kind
    by_cause (done before is reply told may) = inl (is, before)
    by_cause (was_short is told) = inr (inl is)
    by_cause (failed before is told first rose) = inr (inr is)
    by_cause (was_halted place before is told) = inr (inr is)

pub wanting_kind : {D E C : Type 0} (old : Core D E C) (act : Act) (answer : Answer)
    → class_of act ≡ wanting → (answer.entry).kind ≡ MEMORY_KIND → FitsKind (class_of act) old.fault (answer.entry).kind
wanting_kind old act answer want is = subst (λ c. FitsKind c old.fault (answer.entry).kind) (sym want) is

pub end_kind : {D E C : Type 0} (d : Ghosts D) (old new : Core D E C) (act : Act) (answer : Answer)
    → class_of act ≡ ending → EndHasCause d old new answer → FitsKind (class_of act) old.fault (answer.entry).kind
end_kind d old new act answer ends cause = subst (λ c. FitsKind c old.fault (answer.entry).kind) (sym ends) (by_cause cause)
  where
    by_cause : EndHasCause d old new answer → FitsKind ending old.fault (answer.entry).kind
    by_cause (ended is told) = inl is
    by_cause (end_failed before is told first rose) = inr (is, before)

-- of a start that is answered as any act is
pub asked_fits : {D E C : Type 0} (d : Ghosts D) (old new : Core D E C) (act : Act) (answer : Answer)
    → class_of act ≡ starting → HasCause d old new act answer → FitsKind (class_of act) old.fault (answer.entry).kind
asked_fits d old new act answer starts cause = subst (λ c. FitsKind c old.fault (answer.entry).kind) (sym starts) (by_cause cause)
  where
    by_cause : HasCause d old new act answer → FitsKind starting old.fault (answer.entry).kind
    by_cause (done before is reply told may) = inl (inl is, before)
    by_cause (was_short is told) = inr (inl is)
    by_cause (failed before is told first rose) = inr (inr is)
    by_cause (was_halted place before is told) = inr (inr is)

-- a read of the remote
pub reach_fits : {D E C : Type 0} (d : Ghosts D) (old new : Core D E C) (act : Act) (answer : Answer)
    → class_of act ≡ reaching → ReachHasCause d old new act answer → FitsKind (class_of act) old.fault (answer.entry).kind
reach_fits d old new act answer reaches cause = subst (λ c. FitsKind c old.fault (answer.entry).kind) (sym reaches) (by_cause cause)
  where
    by_cause : ReachHasCause d old new act answer → FitsKind reaching old.fault (answer.entry).kind
    by_cause (reach_reads before is reply told may) = inl (inr (inl is), before)
    by_cause (reach_failed before is told) = inl (inr (inr is), before)
    by_cause (reach_as_any (done before is reply told may)) = inl (inl is, before)
    by_cause (reach_as_any (was_short is told)) = inr (inl is)
    by_cause (reach_as_any (failed before is told first rose)) = inr (inr is)
    by_cause (reach_as_any (was_halted place before is told)) = inr (inr is)

-- the start of a collector
pub start_fits : {D E C : Type 0} (d : Ghosts D) (old new : Core D E C) (answer : Answer) → StartHasCause d old new Start answer → FitsKind starting old.fault (answer.entry).kind
start_fits d old new answer (start_opens before is told) = inl (inr is, before)
start_fits d old new answer (start_as_any (done before is reply told may)) = inl (inl is, before)
start_fits d old new answer (start_as_any (was_short is told)) = inr (inl is)
start_fits d old new answer (start_as_any (failed before is told first rose)) = inr (inr is)
start_fits d old new answer (start_as_any (was_halted place before is told)) = inr (inr is)

-- and its other acts
pub sweep_fits : {D E C : Type 0} (d : Ghosts D) (old new : Core D E C) (answer : Answer) → StepHasCause d old new Step answer → FitsKind sweeping old.fault (answer.entry).kind
sweep_fits d old new answer (step_passes before is told) = inl (inr (inl is), before)
sweep_fits d old new answer (step_ends before is reply told may) = inl (inr (inr is), before)
sweep_fits d old new answer (step_as_any (done before is reply told may)) = inl (inl is, before)
sweep_fits d old new answer (step_as_any (was_short is told)) = inr (inl is)
sweep_fits d old new answer (step_as_any (failed before is told first rose)) = inr (inr is)
sweep_fits d old new answer (step_as_any (was_halted place before is told)) = inr (inr is)

-- ---- the reply

fault_told : (fault now : Option ℕ) (act : Act) (n : ℕ) (r : Option Reply) → n ≡ 5 → fault ≡ now → r ≡ Some (Refused (fault_refusal now)) → FitsReply fault act (kind_of n) r
fault_told fault now act n r is same told =
    subst (λ k. FitsReply fault act (kind_of k) r) (sym is) (told ∙ ap (λ f. Some (Refused (fault_refusal f))) (sym same))

pub tells_reply : {D E C : Type 0} (d : Ghosts D) (old new : Core D E C) (act : Act) (answer : Answer)
    → HasCause d old new act answer → IfSome answer.reply ReplyHasText → FitsReply old.fault act (kind_of (answer.entry).kind) answer.reply
tells_reply d old new act answer (done before is reply told may) text =
    subst (λ k. FitsReply old.fault act (kind_of k) answer.reply) (sym is)
    (subst (λ r. FitsReply old.fault act kinds.step_kind r) (sym told) (may, subst (λ r. IfSome r ReplyHasText) told text))
tells_reply d old new act answer (was_short is told) text = subst (λ k. FitsReply old.fault act (kind_of k) answer.reply) (sym is) told
tells_reply d old new act answer (failed before is told first rose) text = fault_told old.fault None act (answer.entry).kind answer.reply is before told
tells_reply d old new act answer (was_halted place before is told) text = fault_told old.fault (Some place) act (answer.entry).kind answer.reply is before told

pub reach_tells : {D E C : Type 0} (d : Ghosts D) (old new : Core D E C) (act : Act) (answer : Answer)
    → class_of act ≡ reaching → ReachHasCause d old new act answer → IfSome answer.reply ReplyHasText → FitsReply old.fault act (kind_of (answer.entry).kind) answer.reply
reach_tells d old new act answer reaches (reach_reads before is reply told may) text =
    subst (λ k. FitsReply old.fault act (kind_of k) answer.reply) (sym is)
    (subst (λ r. FitsReply old.fault act kinds.pass_kind r) (sym told)
    (subst (λ c. GivesReply c act (Some reply)) (sym reaches) (may, subst (λ r. IfSome r ReplyHasText) told text)))
reach_tells d old new act answer reaches (reach_failed before is told) text = subst (λ k. FitsReply old.fault act (kind_of k) answer.reply) (sym is) told
reach_tells d old new act answer reaches (reach_as_any cause) text = tells_reply d old new act answer cause text

pub start_tells : {D E C : Type 0} (d : Ghosts D) (old new : Core D E C) (answer : Answer)
    → StartHasCause d old new Start answer → IfSome answer.reply ReplyHasText → FitsReply old.fault Start (kind_of (answer.entry).kind) answer.reply
start_tells d old new answer (start_opens before is told) text = subst (λ k. FitsReply old.fault Start (kind_of k) answer.reply) (sym is) told
start_tells d old new answer (start_as_any cause) text = tells_reply d old new Start answer cause text

pub sweep_tells : {D E C : Type 0} (d : Ghosts D) (old new : Core D E C) (answer : Answer)
    → StepHasCause d old new Step answer → IfSome answer.reply ReplyHasText → FitsReply old.fault Step (kind_of (answer.entry).kind) answer.reply
sweep_tells d old new answer (step_passes before is told) text = subst (λ k. FitsReply old.fault Step (kind_of k) answer.reply) (sym is) told
sweep_tells d old new answer (step_ends before is reply told may) text =
    subst (λ k. FitsReply old.fault Step (kind_of k) answer.reply) (sym is)
    (subst (λ r. FitsReply old.fault Step kinds.close_kind r) (sym told) (may, subst (λ r. IfSome r ReplyHasText) told text))
sweep_tells d old new answer (step_as_any cause) text = tells_reply d old new Step answer cause text

pub end_tells_reply : {D E C : Type 0} (d : Ghosts D) (old new : Core D E C) (act : Act) (answer : Answer)
    → EndHasCause d old new answer → FitsReply old.fault act (kind_of (answer.entry).kind) answer.reply
end_tells_reply d old new act answer (ended is told) = subst (λ k. FitsReply old.fault act (kind_of k) answer.reply) (sym is) told
end_tells_reply d old new act answer (end_failed before is told first rose) = fault_told old.fault None act (answer.entry).kind answer.reply is before told
