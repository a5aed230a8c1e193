-- The start of a collector that opens it, and a start that was refused as it was done, on any disk and for each history.
use Rattle.disk_trait.specs.declared.disk.Disk.{Ghosts}
use Rattle.std.proofs.Common.{◌≡◌, ◌<◌, ◌≤◌, ℕ, true, false, is_some, length, IfOk, IfSome, IsErrOf, IsTrue, Some, None, Result, Ok, Err, inl, refl, sym, ap, subst, ◌∙◌, arith}
use Rattle.disk_trait.specs.Disk.{Serves}
use Rattle.disk_trait.specs.declared.disk.DiskError.{DiskError}
use Rattle.disk_trait.specs.declared.disk.DiskError.TheVariants as disks
use Rattle.port_traits.specs.declared.clock.Clock as clocks
use Rattle.store_types.specs.declared.refusal.Refusal.{Refusal}
use Rattle.store_types.specs.declared.refusal.Refusal.TheVariants.{DiskFault}
use Rattle.store_types.specs.declared.order.TheConstants.{START_KIND}
use Rattle.wire_commands.specs.declared.reply.Reply.{Reply}
use Rattle.wire_commands.specs.declared.reply.Reply.TheVariants.{Refused}
use Rattle.wire_commands.specs.HasText.{ReplyHasText}
use Rattle.store_history.specs.declared.act.Act.{Act}
use Rattle.store_history.specs.declared.act.Act.TheVariants.{Start}
use Rattle.store_history.specs.declared.act.Answer.{Answer}
use Rattle.store_history.specs.LastTouches.{SameTouches, touched_by}
use Rattle.store_history.specs.Legal.{may_open}
use Rattle.core_state.specs.declared.collector.Collector.{Collector}
use Rattle.core_state.specs.declared.state.Core.{Core}
use Rattle.core_state.specs.Answers.{IsAnswered, start_opens}
use Rattle.core_state.specs.Applies.{ActApplies, ActKeeps}
use Rattle.core_state.specs.Begins.{IsReady}
use Rattle.core_state.specs.Catalogue.{listed_by}
use Rattle.core_state.specs.Changes.{after, by_reply, stays}
use Rattle.core_state.specs.Closing.{is_closing}
use Rattle.core_state.specs.Collectors.{collector_by}
use Rattle.core_state.specs.Kept.{kept_at}
use Rattle.store_history.specs.Replies.{may_answer}
use Rattle.core_state.specs.Commands.{change_at}
use Rattle.core_state.specs.Entering.{held_by}
use Rattle.core_state.specs.History.{History, StandsFor, event_of, then_event, world}
use Rattle.core_state.specs.Indexed.{row_at}
use Rattle.core_state.specs.KeepsTouches.{KeepsTouches}
use Rattle.core_state.specs.Settles.{IsEntered, Settles, fault_by, kind_by, reply_by, with_fault}
use Rattle.core_state.specs.Unchanged.{Unchanged}
use Rattle.core_state.specs.Upkeeps.{touches_kept}
use Rattle.core_state.specs.Wanted.{session_at}
use Rattle.core_state.proofs.Answering.{done_answered, entered_answered, same_honest, untouched, where_none}
use Rattle.core_state.proofs.Applying.{IsNoEnd, closes_none, early_by, no_start_kind, start_closes_none, start_other, undone}
use Rattle.core_state.proofs.Beginning.{IsStart, start_caused, start_class, start_formed, start_no_step, start_told}
use Rattle.core_state.proofs.Caused.{done_caused}
use Rattle.core_state.proofs.Commanding.{unlisted}
use Rattle.core_state.proofs.KeepingTouches.{touches_more}
use Rattle.core_state.proofs.Leading.{stays_refused}
use Rattle.core_state.proofs.Recorded.{asked_fits, entered_timely, records_more, settled_timely, start_fits, start_tells, tells_reply}
use Rattle.core_state.proofs.Recovering.{StandsMore, recovers_more}
use Rattle.core_state.proofs.Reserves.{done_keeps, no_end_keeps, opened_keeps}
use Rattle.core_state.proofs.Started.{opened_stands}
use Rattle.core_state.proofs.Touching.{entered_touches, refusal_untouched}
use Rattle.core_state.proofs.Unchanging.{same_unchanged, untold_unchanged}

false_true : false ≡ true → ⊥
false_true e = cc

true_false : true ≡ false → ⊥
true_false e = cc

module _ {D E C : Type 0} (d : Ghosts D) (clock : clocks.Ghosts C) (old mid new : Core D E C) (k m : ℕ) (c : Collector) (answer : Answer)
    (ready : IsReady clock.readings old mid k m) (filled : (3 ≤ held_by mid.journal k) × (0 < (mid.journal).spare)) (entered : IsEntered d (record mid { collector = Some c }) new k m 3 None answer) where
  abbrev acted : Core D E C
  acted = record mid { collector = Some c }

  parts : new.parts ≡ old.parts
  parts = entered.parts ∙ (ready.begun).parts

  kind_is : (answer.entry).kind ≡ START_KIND
  kind_is = ap (λ x. x.kind) entered.entry

  pub start_opened_keeps : ActKeeps d old new k Start answer
  start_opened_keeps =
      let same = ap (λ p. p.disk) parts in
      let none : by_reply (change_at old.parts k Start) answer.reply ≡ stays = ap (by_reply (change_at old.parts k Start)) entered.reply_is in record {
        unchanged = untold_unchanged d old.parts new.parts answer.reply entered.reply_is;
        no_disk_call = λ _. same;
        reads = λ _ h. ap d.content same;
        content = λ _ _ _ h. ap d.content same ∙ ap (λ x. after x (d.content (old.parts).disk)) (sym none);
        crash = λ _. inl same;
        passed_its_tests = λ _ _ s h. tt;
        firm = λ _ _. tt;
        listed = ap (λ p. p.catalogue.listed) parts;
        admin = λ _. (ap (λ p. p.sessions.items) parts, ap (λ p. p.locks) parts);
        others = λ i _. ap (λ p. session_at p i) parts;
        ended = λ ends. absurd (false_true ends);
        rows = λ i _. ap (λ p. row_at p i) parts;
        halted = where_none _ _ ready.no_fault;
        writes = λ writes. absurd (false_true writes);
        remote = λ _. entered.remote ∙ (ready.begun).remote;
        upkeep = λ _. entered_touches d old mid acted new k m 3 Start None answer (ready.begun).upkeep (record { last = λ x. refl; undated = λ x. refl }) entered;
        collector = λ is. absurd (true_false is);
        stepped = λ is. absurd (false_true is);
        memory = λ closing. absurd (closes_none old.fault Start (session_at old.parts k) refl closing);
        reserve = opened_keeps d clock.readings old mid acted new k m _ answer ready refl filled entered;
      }

  answers : IsAnswered d old new k answer
  answers =
      let b = ready.begun in
      entered_answered d old acted new k m 3 None answer entered (b.entries).entries (b.entries).calls tt b.fault
      (let e = ap (λ p. d.faults p.disk) b.parts in omega (arith, e)) (same_honest d _ _ (ap (λ p. p.disk) b.parts)) (λ is. absurd (omega (arith, is)))

  -- it may open in each history, and its plan is the new sweep of each whose book the core's is
  pub start_opened_applies : k < 64 → ((h : History) → StandsFor d clock.readings old h → may_open (world h) k ≡ Ok tt) → c.lane ≡ k → c.ended ≡ None
      → ((h : History) → StandsFor d clock.readings old h → KeepsTouches d old h → StandsFor d clock.readings new (then_event h (event_of Start answer (d.calls (new.parts).disk)))
      → KeepsTouches d new (then_event h (event_of Start answer (d.calls (new.parts).disk))))
      → ActApplies d clock old new k Start answer
  start_opened_applies lt may lane goes touches =
      let timely = entered_timely d clock.readings old acted new k m 3 None answer (ready.begun).clock entered in
      let cause = start_opens ready.no_fault kind_is entered.reply_is in
      let keeps = start_opened_keeps in
      let more : StandsMore d clock old new Start answer = λ h s clear. opened_stands d clock.readings old mid h k m s ready new c answer lt (may h s) lane goes entered in record {
        history = λ h s kept clear. more h s clear;
        records = λ h. records_more d clock.readings old new k Start answer h answers timely (start_fits d old new answer cause) (start_tells d old new answer cause answers.text) keeps.listed (early_by d clock old new k Start answer refl timely keeps);
        recovers = λ told start h s clear kept. recovers_more d clock old new k Start answer lt more answers cause keeps refl told start h s clear;
        touches = λ h s kept clear. touches h s kept (more h s clear);
        answers = answers;
        timely = timely;
        told = inl (kind_is, entered.reply_is);
        cause = cause;
      }

-- ---- refused as it was done

module _ {D E C : Type 0} (d : Ghosts D) (clock : clocks.Ghosts C) (old mid new : Core D E C) (k m : ℕ) (act : Act) (starts : IsStart act) (result : Result Reply DiskError) (refusal : Refusal) (answer : Answer)
    (ready : IsReady clock.readings old mid k m) (filled : is_closing old k act ≡ false → (3 ≤ held_by mid.journal k) × (0 < (mid.journal).spare))
    (told : reply_by result ≡ Refused refusal) (fine : refusal ≡ DiskFault → ⊥) (settles : Settles d mid new k m result answer) where
  kept : new.parts ≡ old.parts
  kept = settles.parts ∙ (ready.begun).parts

  reply_is : answer.reply ≡ Some (Refused refusal)
  reply_is = settles.reply_is ∙ ap Some told

  refusal_same : (a b : Refusal) → Some (Refused a) ≡ Some (Refused b) → a ≡ b
  refusal_same a b e = cc

  other : IsNoEnd act
  other = start_other act starts

  collector : new.collector ≡ collector_by (answer.entry).kind k old.collector
  collector = settles.collector ∙ ap (collector_by (kind_by result) k) (ready.begun).collector ∙ ap (λ n. collector_by n k old.collector) (sym (ap (λ x. x.kind) settles.entry))

  untouched_by : SameTouches (touches_kept mid.upkeep) (touched_by act (Some (reply_by result)) m (touches_kept mid.upkeep))
  untouched_by = subst (λ r. SameTouches (touches_kept mid.upkeep) (touched_by act (Some r) m (touches_kept mid.upkeep))) (sym told) (refusal_untouched act refusal m (touches_kept mid.upkeep))

  pub start_settled_keeps : ActKeeps d old new k act answer
  start_settled_keeps =
      let same = ap (λ p. p.disk) kept in
      let none : by_reply (change_at old.parts k act) answer.reply ≡ stays = ap (by_reply (change_at old.parts k act)) reply_is ∙ stays_refused (change_at old.parts k act) refusal fine in record {
        unchanged = subst (λ r. IfSome r (Unchanged d old.parts new.parts)) (sym reply_is) (same_unchanged d old.parts new.parts (Refused refusal) kept);
        no_disk_call = λ _. same;
        reads = λ _ h. ap d.content same;
        content = λ _ _ _ h. ap d.content same ∙ ap (λ x. after x (d.content (old.parts).disk)) (sym none);
        crash = λ _. inl same;
        passed_its_tests = λ _ said. absurd (fine (refusal_same refusal DiskFault (sym reply_is ∙ said)));
        firm = λ _. undone answer refusal reply_is;
        listed = ap (λ p. p.catalogue.listed) kept ∙ sym (ap (λ r. listed_by act r answer.place (kept_at old.parts k)) reply_is
            ∙ unlisted act refusal answer.place (kept_at old.parts k));
        admin = λ _. (ap (λ p. p.sessions.items) kept, ap (λ p. p.locks) kept);
        others = λ i _. ap (λ p. session_at p i) kept;
        ended = λ _. undone answer refusal reply_is;
        rows = λ i _. ap (λ p. row_at p i) kept;
        halted = where_none _ _ ready.no_fault;
        writes = λ _. undone answer refusal reply_is;
        remote = λ _. settles.remote ∙ (ready.begun).remote;
        upkeep = λ _. entered_touches d old mid (with_fault mid (fault_by mid.fault (length (mid.journal).entries.items) result)) new k m (kind_by result) act (Some (reply_by result)) answer
            (ready.begun).upkeep untouched_by settles;
        collector = λ _. collector;
        stepped = λ is. absurd (other.step is);
        memory = λ closing. absurd (start_closes_none d clock old k act starts closing);
        reserve = no_end_keeps old new k act answer other.end other.sweep
            (done_keeps d clock.readings old mid mid new k m act result answer ready refl filled (λ closing. absurd (start_closes_none d clock old k act starts closing)) settles);
      }

  not_failed : (o : Result Reply DiskError) → reply_by o ≡ Refused refusal → IsErrOf o disks.Failed → ⊥
  not_failed (Ok reply) is e = cc
  not_failed (Err disks.NoMemory) is e = cc
  not_failed (Err disks.Failed) is e = fine (sym (refusal_same DiskFault refusal (ap Some is)))

  serves : Serves d.honest d.faults (mid.parts).disk (mid.parts).disk (IsErrOf result disks.Failed)
  serves = let u = untouched d (mid.parts).disk (mid.parts).disk refl in record { kept = u.kept; count = u.count; cause = λ e. absurd (not_failed result told e) }

  pub start_settled_applies : k < 64 → IfOk result ReplyHasText → IfOk result (λ reply. IsTrue (may_answer act reply))
      → ((h : History) → StandsFor d clock.readings old h → StandsFor d clock.readings new (then_event h (event_of act answer (d.calls (new.parts).disk))))
      → ActApplies d clock old new k act answer
  start_settled_applies lt text may stands =
      let answers = done_answered d clock.readings old mid mid new k m result answer ready refl refl serves text settles in
      let timely = settled_timely d clock.readings old mid new k m result answer (ready.begun).clock settles in
      let cause = done_caused d clock.readings old mid mid new k m act result answer ready serves may settles in
      let caused = start_caused d old new act answer starts cause in
      let no_step = start_no_step act starts in
      let keeps = start_settled_keeps in
      let more : StandsMore d clock old new act answer = λ h s clear. stands h s in record {
        history = λ h s kept clear. more h s clear;
        records = λ h. records_more d clock.readings old new k act answer h answers timely (asked_fits d old new act answer (start_class act starts) cause) (tells_reply d old new act answer cause answers.text) keeps.listed (early_by d clock old new k act answer no_step timely keeps);
        recovers = λ told start h s clear kept. recovers_more d clock old new k act answer lt more answers caused keeps no_step told start h s clear;
        touches = touches_more d clock old new k act answer lt (start_formed act starts) more answers caused keeps no_step collector (no_start_kind d old new act answer cause);
        answers = answers;
        timely = timely;
        told = start_told act answer starts (no_start_kind d old new act answer cause) (ap is_some settles.reply_is);
        cause = caused;
      }
