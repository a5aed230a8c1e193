-- The two records of a command, lifted once over the beginning and the entry of an act.
use Rattle.std.proofs.Common.{◌≡◌, ◌<◌, ◌≤◌, ℕ, true, false, length, is_some, Option, Some, None, Result, Ok, Err, IfOk, IfSome, IsSome, IsTrue, IsErrOf, inl, refl, sym, ap, subst, ◌∙◌, arith}
use Rattle.store_files.specs.Folder.{HasWholeChunks}
use Rattle.core_state.specs.Chunks.{IsSafe}
use Rattle.store_history.specs.ChunkFiles.{HoldsOnly}
use Rattle.disk_trait.specs.Disk.{Serves}
use Rattle.disk_trait.specs.Files.{Files}
use Rattle.disk_trait.specs.declared.disk.Disk.{Ghosts}
use Rattle.disk_trait.specs.declared.disk.DiskError.TheVariants as disks
use Rattle.port_traits.specs.declared.clock.Clock as clocks
use Rattle.store_types.specs.declared.refusal.Refusal.{Refusal}
use Rattle.store_types.specs.declared.refusal.Refusal.TheVariants as refusals
use Rattle.store_types.specs.declared.refusal.Refusal.TheVariants.{DiskFault}
use Rattle.store_types.specs.declared.order.TheConstants.{START_KIND}
use Rattle.wire_commands.specs.declared.reply.Reply.{Reply}
use Rattle.wire_commands.specs.declared.reply.Reply.TheVariants as replies
use Rattle.store_history.specs.declared.act.Act.{Act}
use Rattle.store_history.specs.declared.act.Act.TheVariants.{Plain, Chunk, Start, Step, Short, End}
use Rattle.store_history.specs.declared.act.Answer.{Answer}
use Rattle.store_history.specs.Acts.{IsWellFormed, class_of, stepping, starting, sweeping, wanting, ending}
use Rattle.store_history.specs.History.{act_outcome}
use Rattle.atime_book.specs.Touches.{NoneAfter}
use Rattle.store_history.specs.LastTouches.{SameTouches, touches_by_entry, touched_by}
use Rattle.store_history.proofs.Families.{no_collector}
use Rattle.core_state.specs.declared.kept.Session.{Session}
use Rattle.core_state.specs.declared.entering.Admitted.TheVariants.{Answered}
use Rattle.core_state.specs.declared.entering.Place.{Place}
use Rattle.core_state.specs.declared.state.Core.{Core}
use Rattle.store_stops.specs.declared.stop.Stop.{Stop}
use Rattle.store_stops.specs.declared.stop.Stop.TheVariants.{Refused, NoMemory, DiskFailed}
use Rattle.core_state.specs.Answers.{IsTold, HasCause, done as was_done, short as was_short, failed as has_failed, halted as was_halted}
use Rattle.core_state.specs.Applies.{ActApplies, ActKeeps, IsClearFor, IsDone}
use Rattle.core_state.specs.Begins.{AdmittedHasText, IsAdmitted, IsNotShort, IsReady, IsShort, ReadsClock, Refuses, short, halted}
use Rattle.core_state.specs.Changes.{Change, IsFirm, LeavesChange, after, by_reply, by_stop, stays}
use Rattle.core_state.specs.Catalogue.{listed_by}
use Rattle.core_state.specs.Closing.{HasClosed, HasEnded, closes, closes_by, is_closing, is_writer}
use Rattle.core_state.specs.Collectors.{collector_by}
use Rattle.core_state.specs.Commands.{ActDoes, ActLeaves, IsNoRefusal, change_at, is_collectors, is_step, keeps_row, row_stays, row_stays_by}
use Rattle.core_state.specs.Entering.{held_by}
use Rattle.core_state.specs.History.{History, event_of, pieces_of, then_event, world}
use Rattle.core_state.specs.Holds.{Holds}
use Rattle.core_state.specs.Indexed.{row_at}
use Rattle.core_state.specs.Kept.{kept_at}
use Rattle.core_state.specs.Records.{IsTimely}
use Rattle.store_history.specs.Replies.{may_answer}
use Rattle.core_state.specs.Settles.{Settles, fault_by, kind_by, reply_by, with_fault}
use Rattle.core_state.specs.Stops.{told}
use Rattle.core_state.specs.Upkeeps.{touches_kept}
use Rattle.core_state.specs.Wanted.{session_at}
use Rattle.core_state.proofs.Answered.{IsAsked, refused_stands, short_stands, done_stands}
use Rattle.core_state.proofs.Answering.{refused_answered, short_answered, done_answered, refused_told, short_told, where_some, where_none, refused_same}
use Rattle.core_state.proofs.Beginning.{IsStart, start_caused, start_class, start_closes, start_formed, start_no_step, start_told}
use Rattle.core_state.proofs.Calls.{later}
use Rattle.core_state.proofs.Caused.{refused_caused, short_caused, done_caused, step_caused, want_caused}
use Rattle.core_state.proofs.Chunks.{clear_safe}
use Rattle.core_state.proofs.Commanding.{same_leaves, unlisted}
use Rattle.core_state.proofs.ForeignLemmas.{never_told}
use Rattle.core_state.proofs.KeepingTouches.{touches_more}
use Rattle.core_state.proofs.Recorded.{asked_fits, records_more, refused_timely, settled_timely, short_timely, step_kind, tells_reply, wanting_kind}
use Rattle.core_state.proofs.Recovering.{StandsMore, recovers_more}
use Rattle.core_state.proofs.Reserves.{refused_keeps, done_keeps, closing_kind, closing_before, no_end_keeps}
use Rattle.core_state.proofs.Touching.{early_more, entered_touches, refusal_untouched}
use Rattle.core_state.proofs.Unchanging.{refused_parts, refused_unchanged, done_unchanged}

-- between the beginning of an act and its entry the parts change alone, and the last touches by what the act is answered
pub record SameRest {D E C : Type 0} (mid acted : Core D E C) (when : ℕ) (act : Act) (reply : Option Reply) : Type 0 where
  pub journal : acted.journal ≡ mid.journal
  pub clock : acted.clock ≡ mid.clock
  pub fault : acted.fault ≡ mid.fault
  pub remote : acted.remote ≡ mid.remote
  pub upkeep : SameTouches (touches_kept acted.upkeep) (touched_by act reply when (touches_kept mid.upkeep))
  pub collector : acted.collector ≡ mid.collector

-- ---- the change by the reply

-- what was done has its change
done_change : (change : Change) (reply : Reply) → IsNoRefusal reply → by_reply change (Some reply) ≡ change
done_change change (replies.Refused refusal) plain = absurd plain
done_change change reply plain = refl

refused_stays : (change : Change) (refusal : Refusal) → (refusal ≡ DiskFault → ⊥) → by_reply change (Some (replies.Refused refusal)) ≡ stays
refused_stays change DiskFault other = absurd (other refl)
refused_stays change refusal other = refl

-- a record of the command speaks of what was done, where the reply is no refusal
done_told : (P : Type 0) (result : Result Reply Stop) → IfOk result (λ _. P) → IsNoRefusal (reply_by (told result)) → P
done_told P (Ok reply) p plain = p
done_told P (Err (Refused refusal)) p plain = absurd plain
done_told P (Err NoMemory) p plain = absurd plain
done_told P (Err DiskFailed) p plain = absurd plain

-- what is kept of indexes, by the reply as by how the act ended
refused_row : (act : Act) (refusal : Refusal) → row_stays_by (Some (replies.Refused refusal)) act ≡ true → row_stays (Err (Refused refusal)) act ≡ true
refused_row act (refusals.Damaged digest fault) is = is
refused_row act refusal is = refl

done_row : (act : Act) (reply : Reply) → IsNoRefusal reply → row_stays_by (Some reply) act ≡ keeps_row act
done_row act (replies.Refused refusal) plain = absurd plain
done_row act reply plain = refl

row_told : (act : Act) (result : Result Reply Stop) → IfOk result IsNoRefusal → row_stays_by (Some (reply_by (told result))) act ≡ true → row_stays result act ≡ true
row_told act (Ok reply) plain is = sym (done_row act reply plain) ∙ is
row_told act (Err (Refused refusal)) plain is = refused_row act refusal is
row_told act (Err NoMemory) plain is = refl
row_told act (Err DiskFailed) plain is = refl

pub no_fault : (result : Result Reply Stop) → (Some (reply_by (told result)) ≡ Some (replies.Refused DiskFault) → ⊥) → IsErrOf result DiskFailed → ⊥
no_fault result fine failed = fine (ap (λ r. Some (reply_by (told r))) failed)

-- an act that tells of a fault met one
fault_met : (act : Act) (result : Result Reply Stop) → IfOk (told result) (λ reply. IsTrue (may_answer act reply)) → Some (reply_by (told result)) ≡ Some (replies.Refused DiskFault) → IsErrOf result DiskFailed
fault_met act (Ok reply) answers is = absurd (never_told act (subst (λ r. IfSome r (λ x. IsTrue (may_answer act x))) is answers))
fault_met act (Err (Refused refusal)) answers is = absurd (never_told act (subst (λ r. IfSome r (λ x. IsTrue (may_answer act x))) is answers))
fault_met act (Err NoMemory) answers is = cc
fault_met act (Err DiskFailed) answers is = refl

refusal_is : (a b : Refusal) → Some (replies.Refused a) ≡ Some (replies.Refused b) → a ≡ b
refusal_is a b e = cc

failed_as : (result : Result Reply Stop) → IsErrOf (told result) disks.Failed → IsErrOf result DiskFailed
failed_as (Ok reply) e = cc
failed_as (Err (Refused refusal)) e = cc
failed_as (Err NoMemory) e = cc
failed_as (Err DiskFailed) e = refl

if_plain : (reply : Option Reply) (told_as : Reply) → reply ≡ Some told_as → IfSome reply IsNoRefusal → IsNoRefusal told_as
if_plain reply told_as is p = subst (λ r. IfSome r IsNoRefusal) is p

module _ {D : Type 0} (d : Ghosts D) where
  pub serves_told : (old new : D) (result : Result Reply Stop) → Serves d.honest d.faults old new (IsErrOf result DiskFailed) → Serves d.honest d.faults old new (IsErrOf (told result) disks.Failed)
  serves_told old new result serves = record { kept = serves.kept; count = serves.count; cause = λ e. serves.cause (failed_as result e) }

  content_told : (old new : D) (change : Change) (result : Result Reply Stop) → IfOk result IsNoRefusal → (Some (reply_by (told result)) ≡ Some (replies.Refused DiskFault) → ⊥)
      → d.content new ≡ after (by_stop change result) (d.content old) → d.content new ≡ after (by_reply change (Some (reply_by (told result)))) (d.content old)
  content_told old new change (Ok reply) plain fine is = is ∙ ap (λ c. after c (d.content old)) (sym (done_change change reply plain))
  content_told old new change (Err (Refused refusal)) plain fine is = is ∙ ap (λ c. after c (d.content old)) (sym (refused_stays change refusal (λ e. fine (ap (λ r. Some (replies.Refused r)) e))))
  content_told old new change (Err NoMemory) plain fine is = is
  content_told old new change (Err DiskFailed) plain fine is = absurd (fine refl)

  crash_told : (old new : D) (change : Change) (result : Result Reply Stop) → IfOk result IsNoRefusal → LeavesChange d old new (by_stop change result) → LeavesChange d old new (by_reply change (Some (reply_by (told result))))
  crash_told old new change (Ok reply) plain leaves = subst (LeavesChange d old new) (sym (done_change change reply plain)) leaves
  crash_told old new change (Err (Refused refusal)) plain leaves = same_leaves d old new (by_reply change (Some (replies.Refused refusal))) leaves
  crash_told old new change (Err NoMemory) plain leaves = leaves
  crash_told old new change (Err DiskFailed) plain leaves = leaves

-- ---- by the class

true_false : true ≡ false → ⊥
true_false e = cc

-- no lane's end, and no mark, visit or end of a collector
pub record IsNoEnd (act : Act) : Type 0 where
  pub end : class_of act ≡ ending → ⊥
  pub sweep : class_of act ≡ sweeping → ⊥
  pub step : is_step act ≡ true → ⊥
  pub no : is_step act ≡ false

pub step_other : (act : Act) → class_of act ≡ stepping → IsNoEnd act
step_other Start step = cc
step_other Step step = cc
step_other Short step = cc
step_other End step = cc
step_other act step = record { end = λ e. cc; sweep = λ e. cc; step = λ e. cc; no = refl }

pub start_other : (act : Act) → IsStart act → IsNoEnd act
start_other Start is = record { end = λ e. cc; sweep = λ e. cc; step = λ e. cc; no = refl }
start_other act is = absurd is

start_asked : (act : Act) → IsStart act → IsAsked (class_of act)
start_asked act is = subst IsAsked (sym (start_class act is)) tt

pub step_plain : (act : Act) → class_of act ≡ stepping → is_collectors act ≡ false
step_plain Start step = cc
step_plain Step step = cc
step_plain Short step = cc
step_plain End step = cc
step_plain (Plain command) step = no_collector command
step_plain act step = refl

step_asked : (act : Act) → class_of act ≡ stepping → IsAsked (class_of act)
step_asked act step = subst IsAsked (sym step) tt

-- an act that is answered as any opens no collector
pub no_start_kind : {D E C : Type 0} (d : Ghosts D) (old new : Core D E C) (act : Act) (answer : Answer) → HasCause d old new act answer → (answer.entry).kind ≡ START_KIND → ⊥
no_start_kind d old new act answer (was_done before zero reply told may) three = omega (arith, zero, three)
no_start_kind d old new act answer (was_short two told) three = omega (arith, two, three)
no_start_kind d old new act answer (has_failed before five told fault rose) three = omega (arith, five, three)
no_start_kind d old new act answer (was_halted place before five told) three = omega (arith, five, three)

pub want_plain : (act : Act) → class_of act ≡ wanting → is_collectors act ≡ false
want_plain Short want = refl
want_plain act want = cc

step_no_start : stepping ≡ starting → ⊥
step_no_start e = cc

want_no_start : wanting ≡ starting → ⊥
want_no_start e = cc

pub want_other : (act : Act) → class_of act ≡ wanting → IsNoEnd act
want_other Short want = record { end = λ e. cc; sweep = λ e. cc; step = λ e. cc; no = refl }
want_other act want = cc

pub class_told : (act : Act) (answer : Answer) → IsNoEnd act → (class_of act ≡ starting → ⊥) → IsSome answer.reply → IsTold act answer
class_told End answer other no_start is = absurd (other.end refl)
class_told Step answer other no_start is = absurd (other.sweep refl)
class_told Start answer other no_start is = absurd (no_start refl)
class_told act answer other no_start is = is

-- an act that never ends a session
pub closes_none : (fault : Option ℕ) (act : Act) (x : Session) → closes act x ≡ false → closes_by fault act x ≡ true → ⊥
closes_none None act x off on = true_false (sym on ∙ off)
closes_none (Some first) act x off on = true_false (sym on)

want_no_end : (act : Act) → class_of act ≡ wanting → class_of act ≡ ending → ⊥
want_no_end act want ends = apart (sym want ∙ ends)
  where
    apart : wanting ≡ ending → ⊥
    apart e = cc

-- whatever is said of an act that is done
pub undone : {P : Type 0} (answer : Answer) (refusal : Refusal) → answer.reply ≡ Some (replies.Refused refusal) → IsDone answer → P
undone answer refusal is done = absurd (subst (λ r. IfSome r IsNoRefusal) is done)

want_no_step : (act : Act) → class_of act ≡ wanting → class_of act ≡ stepping → ⊥
want_no_step act want step = apart (sym want ∙ step)
  where
    apart : wanting ≡ stepping → ⊥
    apart e = cc

-- where the act puts a chunk no other piece's stands there
safe_for : (m : Files) (h : History) (act : Act) (answer : Answer) (calls : ℕ) → IsWellFormed act → IsClearFor act (then_event h (event_of act answer calls))
    → HasWholeChunks m → HoldsOnly m (pieces_of h) → IsSafe m act
safe_for m h (Chunk digest checked) answer calls formed clear whole only = clear_safe m h (event_of (Chunk digest checked) answer calls) formed clear whole only
safe_for m h act answer calls formed clear whole only = tt

-- want of memory ends no session
wanting_closes : (act : Act) (x : Session) → class_of act ≡ wanting → closes act x ≡ false
wanting_closes Short x want = refl
wanting_closes act x want = cc

module _ {D E C : Type 0} (d : Ghosts D) (clock : clocks.Ghosts C) where
  -- moments never fall, and the act touches at its own
  pub early_by : (old new : Core D E C) (lane : ℕ) (act : Act) (answer : Answer) → is_step act ≡ false → IsTimely clock.readings old new answer → ActKeeps d old new lane act answer
      → NoneAfter (old.upkeep).book old.last → NoneAfter (new.upkeep).book new.last
  early_by old new lane act answer unstepped timely keeps early =
      early_more old.upkeep new.upkeep act answer.reply old.last (answer.entry).moment new.last (timely.clock).risen timely.last (keeps.upkeep unstepped) early

  pub refused_remote : (old new : Core D E C) (lane : ℕ) (answer : Answer) → Refuses d clock.readings old new lane answer → new.remote ≡ old.remote
  refused_remote old new lane answer (short is) = (is.entered).remote ∙ (is.begun).remote
  refused_remote old new lane answer (halted is) = (is.entered).remote ∙ (is.begun).remote

  -- what is refused before it is done touches nothing
  refusal_enters_none : (old new : Core D E C) (lane : ℕ) (act : Act) (answer : Answer) → Refuses d clock.readings old new lane answer
      → SameTouches (touches_kept new.upkeep) (touches_by_entry act answer.reply (answer.entry).moment (touches_kept old.upkeep))
  refusal_enters_none old new lane act answer (short is) =
      entered_touches d old is.between is.between new lane is.moment 2 act (Some (replies.Refused refusals.NoMemory)) answer (is.begun).upkeep
      (refusal_untouched act refusals.NoMemory is.moment (touches_kept (is.between).upkeep)) is.entered
  refusal_enters_none old new lane act answer (halted is) =
      entered_touches d old is.between is.between new lane is.moment 5 act (Some (replies.Refused (refusals.Halted is.first))) answer (is.begun).upkeep
      (refusal_untouched act (refusals.Halted is.first) is.moment (touches_kept (is.between).upkeep)) is.entered

  -- nor does it change the collector but by its entry
  pub refused_collector : (old new : Core D E C) (lane : ℕ) (answer : Answer) → Refuses d clock.readings old new lane answer → new.collector ≡ collector_by (answer.entry).kind lane old.collector
  refused_collector old new lane answer (short is) =
      (is.entered).collector ∙ ap (collector_by 2 lane) (is.begun).collector ∙ ap (λ k. collector_by k lane old.collector) (sym (ap (λ x. x.kind) (is.entered).entry))
  refused_collector old new lane answer (halted is) =
      (is.entered).collector ∙ ap (collector_by 5 lane) (is.begun).collector ∙ ap (λ k. collector_by k lane old.collector) (sym (ap (λ x. x.kind) (is.entered).entry))

  -- the refusal is none of the disk's in this act
  refused_as : (old new : Core D E C) (lane : ℕ) (answer : Answer) → Refuses d clock.readings old new lane answer
      → (refusal : Refusal) × (answer.reply ≡ Some (replies.Refused refusal)) × (refusal ≡ DiskFault → ⊥)
  refused_as old new lane answer (short is) = (refusals.NoMemory, (is.entered).reply_is, λ e. cc)
  refused_as old new lane answer (halted is) = (refusals.Halted is.first, (is.entered).reply_is, λ e. cc)

  pub refused_kept : (old new : Core D E C) (lane : ℕ) (act : Act) (answer : Answer) → IsNoEnd act
      → Refuses d clock.readings old new lane answer → (is_closing old lane act ≡ true → IsNotShort (Answered answer)) → ActKeeps d old new lane act answer
  refused_kept old new lane act answer other refuses memory =
      let parts = refused_parts d clock.readings old new lane answer refuses in
      let same = ap (λ p. p.disk) parts in
      let (refusal, is, fine) = refused_as old new lane answer refuses in
      let none : by_reply (change_at old.parts lane act) answer.reply ≡ stays = ap (by_reply (change_at old.parts lane act)) is ∙ refused_stays (change_at old.parts lane act) refusal fine in record {
        unchanged = refused_unchanged d clock.readings old new lane answer refuses;
        no_disk_call = λ _. same;
        reads = λ _ h. ap d.content same;
        content = λ _ _ _ h. ap d.content same ∙ ap (λ c. after c (d.content (old.parts).disk)) (sym none);
        crash = λ _. inl same;
        passed_its_tests = λ _ told. absurd (fine (refusal_is refusal DiskFault (sym is ∙ told)));
        firm = λ _. undone answer refusal is;
        listed = ap (λ p. p.catalogue.listed) parts ∙ sym (ap (λ r. listed_by act r answer.place (kept_at old.parts lane)) is
            ∙ unlisted act refusal answer.place (kept_at old.parts lane));
        admin = λ _. (ap (λ p. p.sessions.items) parts, ap (λ p. p.locks) parts);
        others = λ i _. ap (λ p. session_at p i) parts;
        ended = λ _. undone answer refusal is;
        rows = λ i _. ap (λ p. row_at p i) parts;
        halted = where_some _ _ (refused_same d clock.readings old new lane answer refuses);
        writes = λ _. undone answer refusal is;
        remote = λ _. refused_remote old new lane answer refuses;
        upkeep = λ _. refusal_enters_none old new lane act answer refuses;
        collector = λ _. refused_collector old new lane answer refuses;
        stepped = λ is. absurd (other.step is);
        memory = memory;
        reserve = no_end_keeps old new lane act answer other.end other.sweep (refused_keeps d clock.readings old new lane _ answer refuses memory);
      }

  pub refused_keeps_all : (old new : Core D E C) (lane : ℕ) (act : Act) (answer : Answer) → class_of act ≡ stepping
      → Refuses d clock.readings old new lane answer → (is_closing old lane act ≡ true → IsNotShort (Answered answer)) → ActKeeps d old new lane act answer
  refused_keeps_all old new lane act answer step refuses memory = refused_kept old new lane act answer (step_other act step) refuses memory

  -- refused before it is done
  pub refused_applies : (old new : Core D E C) (lane : ℕ) (act : Act) (answer : Answer) → lane < 64 → IsWellFormed act → class_of act ≡ stepping
      → Refuses d clock.readings old new lane answer → AdmittedHasText (Answered answer) → (is_closing old lane act ≡ true → IsNotShort (Answered answer)) → ActApplies d clock old new lane act answer
  refused_applies old new lane act answer lt formed step refuses text memory =
      let answers = refused_answered d clock.readings old new lane answer refuses text in
      let timely = refused_timely d clock.readings old new lane answer refuses in
      let cause = refused_caused d clock.readings old new lane act answer refuses in
      let keeps = refused_kept old new lane act answer (step_other act step) refuses memory in
      let more : StandsMore d clock old new act answer = λ h s clear. refused_stands d clock.readings old new h lane act answer s lt formed (step_asked act step) refuses memory in record {
        history = λ h s kept clear. more h s clear;
        records = λ h. records_more d clock.readings old new lane act answer h answers timely (step_kind d old new act answer step cause) (tells_reply d old new act answer cause answers.text) keeps.listed (early_by old new lane act answer (step_other act step).no timely keeps);
        recovers = λ told start h s clear kept. recovers_more d clock old new lane act answer lt more answers (step_caused d old new act answer step cause) keeps (step_other act step).no told start h s clear;
        touches = touches_more d clock old new lane act answer lt formed more answers (step_caused d old new act answer step cause) keeps (step_other act step).no (keeps.collector (step_plain act step)) (no_start_kind d old new act answer cause);
        answers = answers;
        timely = timely;
        told = class_told act answer (step_other act step) (λ e. step_no_start (sym step ∙ e)) (refused_told d clock.readings old new lane answer refuses);
        cause = step_caused d old new act answer step cause;
      }

  -- ---- a start that is refused before it is done

  pub start_closes_none : (old : Core D E C) (lane : ℕ) (act : Act) → IsStart act → is_closing old lane act ≡ true → ⊥
  start_closes_none old lane act starts closing = closes_none old.fault act (session_at old.parts lane) (start_closes act (session_at old.parts lane) starts) closing

  pub start_refused_keeps : (old new : Core D E C) (lane : ℕ) (act : Act) (answer : Answer) → IsStart act → Refuses d clock.readings old new lane answer → ActKeeps d old new lane act answer
  start_refused_keeps old new lane act answer starts refuses =
      refused_kept old new lane act answer (start_other act starts) refuses (λ closing. absurd (start_closes_none old lane act starts closing))

  pub start_refused_applies : (old new : Core D E C) (lane : ℕ) (act : Act) (answer : Answer) → IsStart act → lane < 64 → Refuses d clock.readings old new lane answer → AdmittedHasText (Answered answer)
      → ActApplies d clock old new lane act answer
  start_refused_applies old new lane act answer starts lt refuses text =
      let answers = refused_answered d clock.readings old new lane answer refuses text in
      let timely = refused_timely d clock.readings old new lane answer refuses in
      let cause = refused_caused d clock.readings old new lane act answer refuses in
      let caused = start_caused d old new act answer starts cause in
      let no_step = start_no_step act starts in
      let keeps = start_refused_keeps old new lane act answer starts refuses in
      let more : StandsMore d clock old new act answer = λ h s clear. refused_stands d clock.readings old new h lane act answer s lt (start_formed act starts) (start_asked act starts) refuses
      (λ closing. absurd (start_closes_none old lane act starts closing)) in record {
        history = λ h s kept clear. more h s clear;
        records = λ h. records_more d clock.readings old new lane act answer h answers timely (asked_fits d old new act answer (start_class act starts) cause) (tells_reply d old new act answer cause answers.text) keeps.listed (early_by old new lane act answer no_step timely keeps);
        recovers = λ told start h s clear kept. recovers_more d clock old new lane act answer lt more answers caused keeps no_step told start h s clear;
        touches = touches_more d clock old new lane act answer lt (start_formed act starts) more answers caused keeps no_step (refused_collector old new lane answer refuses) (no_start_kind d old new act answer cause);
        answers = answers;
        timely = timely;
        told = start_told act answer starts (no_start_kind d old new act answer cause) (refused_told d clock.readings old new lane answer refuses);
        cause = caused;
      }

  -- want of memory that was met outside the core
  short_kept : (old new : Core D E C) (lane : ℕ) (act : Act) (answer : Answer) → class_of act ≡ wanting → IsShort d clock.readings old new lane answer → ActKeeps d old new lane act answer
  short_kept old new lane act answer want is =
      refused_kept old new lane act answer (want_other act want) (short is)
      (λ closing. absurd (closes_none old.fault act (session_at old.parts lane) (wanting_closes act (session_at old.parts lane) want) closing))

  pub short_keeps_all : (old new : Core D E C) (lane : ℕ) (answer : Answer) → IsShort d clock.readings old new lane answer → ActKeeps d old new lane Short answer
  short_keeps_all old new lane answer is = short_kept old new lane Short answer refl is

  pub short_applies : (old new : Core D E C) (lane : ℕ) (act : Act) (answer : Answer) → lane < 64 → IsWellFormed act → class_of act ≡ wanting
      → IsShort d clock.readings old new lane answer → ActApplies d clock old new lane act answer
  short_applies old new lane act answer lt formed want is =
      let answers = short_answered d clock.readings old new lane answer is in
      let timely = short_timely d clock.readings old new lane answer is in
      let cause = short_caused d clock.readings old new lane act answer is in
      let keeps = short_kept old new lane act answer want is in
      let more : StandsMore d clock old new act answer = λ h s clear. short_stands d clock.readings old new h lane act answer s lt formed (want_no_end act want) (λ step closing. want_no_step act want step) (λ sweep. absurd ((want_other act want).sweep sweep)) is in record {
        history = λ h s kept clear. more h s clear;
        records = λ h. records_more d clock.readings old new lane act answer h answers timely (wanting_kind old act answer want (ap (λ x. x.kind) (is.entered).entry)) (tells_reply d old new act answer cause answers.text) keeps.listed (early_by old new lane act answer (want_other act want).no timely keeps);
        recovers = λ told start h s clear kept. recovers_more d clock old new lane act answer lt more answers (want_caused d clock.readings old new lane act answer want is) keeps (want_other act want).no told start h s clear;
        touches = touches_more d clock old new lane act answer lt formed more answers (want_caused d clock.readings old new lane act answer want is) keeps (want_other act want).no (keeps.collector (want_plain act want)) (no_start_kind d old new act answer cause);
        answers = answers;
        timely = timely;
        told = class_told act answer (want_other act want) (λ e. want_no_start (sym want ∙ e)) (short_told d clock.readings old new lane answer is);
        cause = want_caused d clock.readings old new lane act answer want is;
      }

  -- ---- done on these parts, and entered

  keeps_done : (old mid acted new : Core D E C) (at : Place) (act : Act) (result : Result Reply Stop) (answer : Answer) → class_of act ≡ stepping
      → IsReady clock.readings old mid at.lane at.moment → at.number ≡ length (mid.journal).entries.items
      → (is_closing old at.lane act ≡ false → (3 ≤ held_by mid.journal at.lane) × (0 < (mid.journal).spare)) → SameRest mid acted at.moment act (Some (reply_by (told result)))
      → ActDoes d mid.parts acted.parts at act result → ActLeaves d mid.parts acted.parts at act result
      → Settles d acted new at.lane at.moment (told result) answer → ActKeeps d old new at.lane act answer
  keeps_done old mid acted new at act result answer step ready number filled rest does leaves settles =
      let other = step_other act step in
      let before = (ready.begun).parts in
      let reply = settles.reply_is in
      let closed : is_closing old at.lane act ≡ true → HasClosed acted.parts at.lane (told result) = λ closing. leaves.closed (closing_before old mid at.lane act before closing) in record {
        unchanged = done_unchanged d clock.readings old mid acted new at.lane at.moment (told result) answer ready leaves.unchanged settles;
        no_disk_call = λ no_disk_call. ap (λ p. p.disk) settles.parts ∙ leaves.no_disk_call no_disk_call ∙ ap (λ p. p.disk) before;
        reads = λ only h. ap (λ p. d.content p.disk) settles.parts ∙ leaves.reads only (subst (λ p. d.honest p.disk) (sym before) h) ∙ ap (λ p. d.content p.disk) before;
        content = λ _ _ fine h. ap (λ p. d.content p.disk) settles.parts ∙ content_at before reply (λ e. fine (reply ∙ e)) h;
        crash = λ _. subst (λ p. LeavesChange d (old.parts).disk p.disk (by_reply (change_at old.parts at.lane act) answer.reply)) (sym settles.parts)
            (subst (λ r. LeavesChange d (old.parts).disk (acted.parts).disk (by_reply (change_at old.parts at.lane act) r)) (sym reply)
            (subst (λ p. LeavesChange d p.disk (acted.parts).disk (by_reply (change_at p at.lane act) (Some (reply_by (told result))))) before
            (crash_told d (mid.parts).disk (acted.parts).disk (change_at mid.parts at.lane act) result does.plain leaves.crash)));
        passed_its_tests = λ _ told s h. leaves.passed_its_tests (fault_met act result does.answers (sym reply ∙ told)) s (subst (λ p. Holds d p s) (sym before) h);
        firm = λ _ done. subst (λ p. IsFirm d (old.parts).disk p.disk (change_at old.parts at.lane act)) (sym settles.parts)
            (subst (λ p. IsFirm d p.disk (acted.parts).disk (change_at p at.lane act)) before
            (done_told _ result leaves.firm (if_plain answer.reply _ reply done)));
        listed = ap (λ p. p.catalogue.listed) settles.parts ∙ leaves.listed
            ∙ ap (λ p. listed_by act (Some (reply_by (told result))) at.number (kept_at p at.lane)) before
            ∙ ap (λ n. listed_by act (Some (reply_by (told result))) n (kept_at old.parts at.lane)) (number ∙ sym (settles.place ∙ ap (λ j. length j.entries.items) rest.journal))
            ∙ ap (λ r. listed_by act r answer.place (kept_at old.parts at.lane)) (sym reply);
        admin = λ is. (ap (λ p. p.sessions.items) settles.parts ∙ (leaves.admin is).0 ∙ ap (λ p. p.sessions.items) before, ap (λ p. p.locks) settles.parts ∙ (leaves.admin is).1 ∙ ap (λ p. p.locks) before);
        others = λ i other. ap (λ p. session_at p i) settles.parts ∙ leaves.others i other ∙ ap (λ p. session_at p i) before;
        ended = λ ends done. subst (λ p. HasEnded p at.lane) (sym settles.parts) (done_told _ result (leaves.ended ends) (if_plain answer.reply _ reply done));
        rows = λ i keeps. ap (λ p. row_at p i) settles.parts ∙ leaves.rows i (λ is. row_told act result does.plain (sym (ap (λ r. row_stays_by r act) reply) ∙ keeps is)) ∙ ap (λ p. row_at p i) before;
        halted = where_none _ _ ready.no_fault;
        writes = λ writes done. ap (λ p. is_writer (session_at p at.lane)) settles.parts ∙ done_told _ result (leaves.writes writes) (if_plain answer.reply _ reply done);
        remote = λ _. settles.remote ∙ rest.remote ∙ (ready.begun).remote;
        upkeep = λ _. entered_touches d old mid (with_fault acted (fault_by acted.fault (length (acted.journal).entries.items) (told result))) new at.lane at.moment (kind_by (told result)) act (Some (reply_by (told result))) answer
            (ready.begun).upkeep rest.upkeep settles;
        collector = λ _. settles.collector ∙ ap (collector_by (kind_by (told result)) at.lane) (rest.collector ∙ (ready.begun).collector)
            ∙ ap (λ k. collector_by k at.lane old.collector) (sym (ap (λ x. x.kind) settles.entry));
        stepped = λ is. absurd (other.step is);
        memory = λ closing. closing_kind d acted new at.lane at.moment (told result) answer (closed closing) settles;
        reserve = no_end_keeps old new at.lane act answer other.end other.sweep (done_keeps d clock.readings old mid acted new at.lane at.moment act (told result) answer ready rest.journal filled closed settles);
      }
    where
      content_at : mid.parts ≡ old.parts → answer.reply ≡ Some (reply_by (told result)) → (Some (reply_by (told result)) ≡ Some (replies.Refused DiskFault) → ⊥) → d.honest (old.parts).disk
          → d.content (acted.parts).disk ≡ after (by_reply (change_at old.parts at.lane act) answer.reply) (d.content (old.parts).disk)
      content_at before reply fine h =
          subst (λ p. d.content (acted.parts).disk ≡ after (by_reply (change_at p at.lane act) answer.reply) (d.content p.disk)) before
          (subst (λ r. d.content (acted.parts).disk ≡ after (by_reply (change_at mid.parts at.lane act) r) (d.content (mid.parts).disk)) (sym reply)
          (content_told d (mid.parts).disk (acted.parts).disk (change_at mid.parts at.lane act) result does.plain fine
          (leaves.content (no_fault result fine) (subst (λ p. d.honest p.disk) (sym before) h))))

  done_at : (old mid acted new : Core D E C) (at : Place) (act : Act) (result : Result Reply Stop) (answer : Answer) → at.lane < 64 → IsWellFormed act → class_of act ≡ stepping
      → IsReady clock.readings old mid at.lane at.moment → at.number ≡ length (mid.journal).entries.items
      → (is_closing old at.lane act ≡ false → (3 ≤ held_by mid.journal at.lane) × (0 < (mid.journal).spare)) → SameRest mid acted at.moment act (Some (reply_by (told result))) → ActDoes d mid.parts acted.parts at act result → ActLeaves d mid.parts acted.parts at act result
      → Settles d acted new at.lane at.moment (told result) answer → ActApplies d clock old new at.lane act answer
  done_at old mid acted new at act result answer lt formed step ready number filled rest does leaves settles =
      let answers = done_answered d clock.readings old mid acted new at.lane at.moment (told result) answer ready rest.journal rest.fault (serves_told d (mid.parts).disk (acted.parts).disk result does.serves) does.text settles in
      let timely = settled_timely d clock.readings old acted new at.lane at.moment (told result) answer
      (subst (λ k. ReadsClock clock.readings old.clock k old.last at.moment) (sym rest.clock) (ready.begun).clock) settles in
      let cause = done_caused d clock.readings old mid acted new at.lane at.moment act (told result) answer ready (serves_told d (mid.parts).disk (acted.parts).disk result does.serves) does.answers settles in
      let keeps = keeps_done old mid acted new at act result answer step ready number filled rest does leaves settles in record {
        history = λ h s kept clear. more h s clear;
        records = λ h. records_more d clock.readings old new at.lane act answer h answers timely (step_kind d old new act answer step cause) (tells_reply d old new act answer cause answers.text) keeps.listed (early_by old new at.lane act answer (step_other act step).no timely keeps);
        recovers = λ told start h s clear kept. recovers_more d clock old new at.lane act answer lt more answers (step_caused d old new act answer step cause) keeps (step_other act step).no told start h s clear;
        touches = touches_more d clock old new at.lane act answer lt formed more answers (step_caused d old new act answer step cause) keeps (step_other act step).no (keeps.collector (step_plain act step)) (no_start_kind d old new act answer cause);
        answers = answers;
        timely = timely;
        told = class_told act answer (step_other act step) (λ e. step_no_start (sym step ∙ e)) (ap is_some settles.reply_is);
        cause = step_caused d old new act answer step cause;
      }
    where
      more : StandsMore d clock old new act answer
      more h s clear =
          done_stands d clock.readings old mid acted new h at.lane at.moment act (λ st. act_outcome h.remote (record (world h) { store = st }) at.lane at.moment act) (told result) answer s lt formed step refl
          (record { ready = ready; journal = rest.journal; clock = rest.clock; fault = rest.fault; remote = rest.remote; collector = rest.collector; later = later d (mid.parts).disk (acted.parts).disk _ leaves.crash }) (λ safe. does.step safe h.remote (world h)) leaves.adds leaves.closed settles
          (λ whole only. safe_for (d.content (mid.parts).disk) h act answer (d.calls (new.parts).disk) formed clear whole only)

  ready_at : (old mid : Core D E C) (lane : ℕ) (at : Place) → IsAdmitted clock.readings old mid lane at → IsReady clock.readings old mid at.lane at.moment
  ready_at old mid lane at admitted = subst (λ l. IsReady clock.readings old mid l at.moment) (sym admitted.lane_is) admitted.ready

  pub done_applies : (old mid acted new : Core D E C) (lane : ℕ) (at : Place) (act : Act) (result : Result Reply Stop) (answer : Answer) → lane < 64 → IsWellFormed act → class_of act ≡ stepping
      → IsAdmitted clock.readings old mid lane at → (is_closing old lane act ≡ false → (3 ≤ held_by mid.journal lane) × (0 < (mid.journal).spare)) → SameRest mid acted at.moment act (Some (reply_by (told result))) → ActDoes d mid.parts acted.parts at act result → ActLeaves d mid.parts acted.parts at act result
      → Settles d acted new at.lane at.moment (told result) answer → ActApplies d clock old new lane act answer
  done_applies old mid acted new lane at act result answer lt formed step admitted filled rest does leaves settles =
      subst (λ l. ActApplies d clock old new l act answer) admitted.lane_is
      (done_at old mid acted new at act result answer (subst (λ l. l < 64) (sym admitted.lane_is) lt) formed step (ready_at old mid lane at admitted) admitted.number_is
      (subst (λ l. is_closing old l act ≡ false → (3 ≤ held_by mid.journal l) × (0 < (mid.journal).spare)) (sym admitted.lane_is) filled) rest does leaves settles)

  pub done_keeps_all : (old mid acted new : Core D E C) (lane : ℕ) (at : Place) (act : Act) (result : Result Reply Stop) (answer : Answer) → class_of act ≡ stepping
      → IsAdmitted clock.readings old mid lane at → (is_closing old lane act ≡ false → (3 ≤ held_by mid.journal lane) × (0 < (mid.journal).spare)) → SameRest mid acted at.moment act (Some (reply_by (told result)))
      → ActDoes d mid.parts acted.parts at act result → ActLeaves d mid.parts acted.parts at act result
      → Settles d acted new at.lane at.moment (told result) answer → ActKeeps d old new lane act answer
  done_keeps_all old mid acted new lane at act result answer step admitted filled rest does leaves settles =
      subst (λ l. ActKeeps d old new l act answer) admitted.lane_is
      (keeps_done old mid acted new at act result answer step (ready_at old mid lane at admitted) admitted.number_is
      (subst (λ l. is_closing old l act ≡ false → (3 ≤ held_by mid.journal l) × (0 < (mid.journal).spare)) (sym admitted.lane_is) filled) rest does leaves settles)
