-- A lane's end, by the two records of what it does to the parts, behind its entry.
use Rattle.std.proofs.Common.{◌≡◌, ◌<◌, ◌≤◌, ℕ, true, false, length, Option, Some, None, Result, Ok, Err, inl, refl, sym, ap, subst, ◌∙◌, arith}
use Rattle.disk_trait.specs.declared.disk.Disk.{Ghosts}
use Rattle.disk_trait.specs.declared.disk.DiskError.TheVariants as disks
use Rattle.disk_trait.specs.declared.disk.Failed.{Failed}
use Rattle.port_traits.specs.declared.clock.Clock as clocks
use Rattle.store_types.specs.declared.refusal.Refusal.TheVariants.{DiskFault}
use Rattle.store_types.specs.declared.order.TheConstants.{START_KIND}
use Rattle.wire_commands.specs.declared.reply.Reply.{Reply}
use Rattle.wire_commands.specs.declared.reply.Reply.TheVariants as replies
use Rattle.store_model.specs.Store.{Store, ended as ended_store}
use Rattle.store_history.specs.declared.act.Act.TheVariants.{End}
use Rattle.store_history.specs.declared.act.Answer.{Answer}
use Rattle.store_history.specs.History.{act_outcome}
use Rattle.core_state.specs.declared.entering.Place.{Place}
use Rattle.core_state.specs.declared.kept.Session.TheVariants.{Idle}
use Rattle.core_state.specs.declared.state.Core.{Core}
use Rattle.store_stops.specs.declared.stop.Stop.TheVariants.{DiskFailed}
use Rattle.core_state.specs.Answers.{EndHasCause, ended as has_ended, end_failed}
use Rattle.core_state.specs.Applies.{ActApplies, ActKeeps}
use Rattle.core_state.specs.Begins.{IsNext, ReadsClock}
use Rattle.core_state.specs.Changes.{IsFirm, LeavesChange, after, by_reply}
use Rattle.core_state.specs.Collectors.{collector_by}
use Rattle.core_state.specs.Closing.{HasEnded}
use Rattle.core_state.specs.Commands.{ActDoes, ActLeaves, LeavesRows, OthersStay, change_at, row_stays_by}
use Rattle.core_state.specs.History.{History, StandsFor, world}
use Rattle.core_state.specs.Holds.{Holds, Shows, Does}
use Rattle.core_state.specs.Indexed.{row_at}
use Rattle.core_state.specs.Settles.{IsEntered, Settles, with_fault, reply_by}
use Rattle.core_state.specs.Stops.{ended_as}
use Rattle.core_state.specs.Wanted.{session_at}
use Rattle.core_state.proofs.Answering.{ended_answered, ended_told, end_failed_answered, end_failed_told, untouched, where_none, where_some}
use Rattle.core_state.proofs.Applying.{SameRest, closes_none, early_by, undone}
use Rattle.core_state.proofs.Calls.{later}
use Rattle.core_state.proofs.Caused.{ended_caused, end_failed_caused}
use Rattle.core_state.proofs.Clocks.{next_begun}
use Rattle.core_state.proofs.Ended.{IsClosed, ended_stands, end_failed_stands, end_halted_stands}
use Rattle.core_state.proofs.KeepingTouches.{touches_more}
use Rattle.core_state.proofs.Recovering.{StandsMore, recovers_more}
use Rattle.core_state.proofs.Recorded.{records_more, entered_timely, end_kind, end_tells_reply}
use Rattle.core_state.proofs.Reserves.{ended_keeps, end_failed_keeps}
use Rattle.core_state.proofs.Touching.{entered_touches}
use Rattle.core_state.proofs.Unchanging.{untold_unchanged, unchanged_between}

none_some : (first : ℕ) → Some first ≡ None → ⊥
none_some first e = cc

false_true : false ≡ true → ⊥
false_true e = cc

-- a lane's end opens no collector
no_open : {D E C : Type 0} (d : Ghosts D) (old new : Core D E C) (answer : Answer) → EndHasCause d old new answer → (answer.entry).kind ≡ START_KIND → ⊥
no_open d old new answer (has_ended six told) three = omega (arith, six, three)
no_open d old new answer (end_failed before five told fault rose) three = omega (arith, five, three)

module _ {D E C : Type 0} (d : Ghosts D) (clock : clocks.Ghosts C) where
  next_at : (old mid : Core D E C) (lane : ℕ) (at : Place) → IsNext clock.readings old mid lane at → IsNext clock.readings old mid at.lane at
  next_at old mid lane at next = subst (λ l. IsNext clock.readings old mid l at) (sym next.lane_is) next

  closed_at : {reply : Option Reply} (old mid acted : Core D E C) (at : Place) → IsNext clock.readings old mid at.lane at → SameRest mid acted at.moment End reply → d.calls (mid.parts).disk ≤ d.calls (acted.parts).disk
      → IsClosed d clock.readings old mid acted at.lane at.moment
  closed_at old mid acted at next rest up = record { begun = next_begun clock.readings old mid at.lane at next; journal = rest.journal; clock = rest.clock; fault = rest.fault; remote = rest.remote; collector = rest.collector; later = up }

  acted_clock : {reply : Option Reply} (old mid acted : Core D E C) (at : Place) → IsNext clock.readings old mid at.lane at → SameRest mid acted at.moment End reply → ReadsClock clock.readings old.clock acted.clock old.last at.moment
  acted_clock old mid acted at next rest = subst (λ c. ReadsClock clock.readings old.clock c old.last at.moment) (sym rest.clock) next.clock

  held_before : (old mid : Core D E C) (h : History) → mid.parts ≡ old.parts → old.fault ≡ None → StandsFor d clock.readings old h → Holds d mid.parts (world h).store
  held_before old mid h same none s = subst (λ p. Holds d p (world h).store) (sym same) (record { honest = s.honest; shows = s.shows; files = s.files (sym s.fault ∙ none) })

  -- the end closes the lane's collector, and one that met a fault leaves it
  entered_collector : (old mid acted new : Core D E C) (at : Place) (kind : ℕ) (reply : Option Reply) (answer : Answer) → IsNext clock.readings old mid at.lane at → acted.collector ≡ mid.collector
      → IsEntered d acted new at.lane at.moment kind reply answer → new.collector ≡ collector_by (answer.entry).kind at.lane old.collector
  entered_collector old mid acted new at kind reply answer next same e =
      e.collector ∙ ap (collector_by kind at.lane) (same ∙ next.collector) ∙ ap (λ k. collector_by k at.lane old.collector) (sym (ap (λ x. x.kind) e.entry))

  -- its session has ended, and its files are gone

  ended_kept_at : (old mid acted new : Core D E C) (at : Place) (answer : Answer) → old.fault ≡ None → IsNext clock.readings old mid at.lane at → SameRest mid acted at.moment End None
      → ActLeaves d mid.parts acted.parts at End (Ok replies.Done) → IsEntered d acted new at.lane at.moment 6 None answer → ActKeeps d old new at.lane End answer
  ended_kept_at old mid acted new at answer none next rest leaves entered = record {
    unchanged = untold_unchanged d old.parts new.parts answer.reply entered.reply_is;
    no_disk_call = λ no_disk_call. absurd (false_true no_disk_call);
    reads = λ only. absurd (false_true only);
    content = λ _ _ _ h. subst (λ p. d.content p.disk ≡ after (by_reply (change_at old.parts at.lane End) answer.reply) (d.content (old.parts).disk)) (sym entered.parts)
        (subst (λ r. d.content (acted.parts).disk ≡ after (by_reply (change_at old.parts at.lane End) r) (d.content (old.parts).disk)) (sym entered.reply_is)
        (subst (λ p. d.honest p.disk → d.content (acted.parts).disk ≡ after (change_at p at.lane End) (d.content p.disk)) next.parts (leaves.content (λ e. cc)) h));
    crash = λ _. subst (λ p. LeavesChange d (old.parts).disk p.disk (by_reply (change_at old.parts at.lane End) answer.reply)) (sym entered.parts)
        (subst (λ r. LeavesChange d (old.parts).disk (acted.parts).disk (by_reply (change_at old.parts at.lane End) r)) (sym entered.reply_is)
        (subst (λ p. LeavesChange d p.disk (acted.parts).disk (change_at p at.lane End)) next.parts leaves.crash));
    passed_its_tests = λ _ _ s h. tt;
    firm = λ _ _. subst (λ p. IsFirm d (old.parts).disk p.disk (change_at old.parts at.lane End)) (sym entered.parts)
        (subst (λ p. IsFirm d p.disk (acted.parts).disk (change_at p at.lane End)) next.parts leaves.firm);
    listed = ap (λ p. p.catalogue.listed) entered.parts ∙ leaves.listed ∙ ap (λ p. p.catalogue.listed) next.parts;
    admin = λ is. absurd (false_true is);
    others = λ i other. ap (λ p. session_at p i) entered.parts ∙ leaves.others i other ∙ ap (λ p. session_at p i) next.parts;
    ended = λ _ _. subst (λ p. HasEnded p at.lane) (sym entered.parts) (leaves.ended refl);
    rows = λ i keeps. ap (λ p. row_at p i) entered.parts ∙ leaves.rows i (λ is. sym (ap (λ r. row_stays_by r End) entered.reply_is) ∙ keeps is) ∙ ap (λ p. row_at p i) next.parts;
    halted = where_none _ _ none;
    writes = λ writes. absurd (false_true writes);
    remote = λ _. entered.remote ∙ rest.remote ∙ next.remote;
    upkeep = λ _. entered_touches d old mid acted new at.lane at.moment 6 End None answer next.upkeep rest.upkeep entered;
    collector = λ _. entered_collector old mid acted new at 6 None answer next rest.collector entered;
    stepped = λ is. absurd (false_true is);
    memory = λ closing. absurd (closes_none old.fault End (session_at old.parts at.lane) refl closing);
    reserve = ended_keeps d clock.readings old mid acted new at.lane at.moment answer next.journal rest.journal entered;
  }

  ended_at : (old mid acted new : Core D E C) (at : Place) (answer : Answer) → at.lane < 64 → old.fault ≡ None → IsNext clock.readings old mid at.lane at → SameRest mid acted at.moment End None
      → ActDoes d mid.parts acted.parts at End (Ok replies.Done) → ActLeaves d mid.parts acted.parts at End (Ok replies.Done)
      → IsEntered d acted new at.lane at.moment 6 None answer → ActApplies d clock old new at.lane End answer
  unfolding act_outcome
  ended_at old mid acted new at answer lt none next rest does leaves entered =
      let begun = next_begun clock.readings old mid at.lane at next in
      let answers = ended_answered d clock.readings _ old mid acted new at.lane at.moment answer begun rest.journal rest.fault does.serves entered in
      let timely = entered_timely d clock.readings old acted new at.lane at.moment 6 None answer (acted_clock old mid acted at next rest) entered in
      let cause = ended_caused d old acted new at.lane at.moment answer entered in
      let keeps = ended_kept_at old mid acted new at answer none next rest leaves entered in record {
        history = λ h s kept clear. more h s clear;
        records = λ h. records_more d clock.readings old new at.lane End answer h answers timely (end_kind d old new End answer refl cause) (end_tells_reply d old new End answer cause) keeps.listed (early_by d clock old new at.lane End answer refl timely keeps);
        recovers = λ told start h s clear kept. recovers_more d clock old new at.lane End answer lt more answers cause keeps refl told start h s clear;
        touches = touches_more d clock old new at.lane End answer lt tt more answers cause keeps refl (keeps.collector refl) (no_open d old new answer cause);
        answers = answers;
        timely = timely;
        told = ended_told d acted new at.lane at.moment answer entered;
        cause = cause;
      }
    where
      more : StandsMore d clock old new End answer
      more h s clear =
          let held = held_before old mid h next.parts none s in
          let did : Does d acted.parts (world h).store (ended_store (world h).store at.lane, replies.Done) (Ok replies.Done) = does.step tt h.remote (world h) (world h).store held in
          ended_stands d clock.readings old mid acted new h at.lane at.moment answer s lt
          (closed_at old mid acted at next rest (later d (mid.parts).disk (acted.parts).disk _ leaves.crash)) did.1 (λ _. leaves.adds (world h).store held) entered

  pub ended_applies : (old mid acted new : Core D E C) (lane : ℕ) (at : Place) (result : Result (Unit {0}) Failed) (answer : Answer) → lane < 64 → old.fault ≡ None
      → IsNext clock.readings old mid lane at → SameRest mid acted at.moment End None → result ≡ Ok tt
      → ActDoes d mid.parts acted.parts at End (ended_as result) → ActLeaves d mid.parts acted.parts at End (ended_as result)
      → IsEntered d acted new at.lane at.moment 6 None answer → ActApplies d clock old new lane End answer
  ended_applies old mid acted new lane at result answer lt none next rest is does leaves entered =
      subst (λ l. ActApplies d clock old new l End answer) next.lane_is
      (ended_at old mid acted new at answer (subst (λ l. l < 64) (sym next.lane_is) lt) none (next_at old mid lane at next) rest
      (subst (λ r. ActDoes d mid.parts acted.parts at End (ended_as r)) is does) (subst (λ r. ActLeaves d mid.parts acted.parts at End (ended_as r)) is leaves) entered)

  pub ended_keeps_all : (old mid acted new : Core D E C) (lane : ℕ) (at : Place) (result : Result (Unit {0}) Failed) (answer : Answer) → old.fault ≡ None
      → IsNext clock.readings old mid lane at → SameRest mid acted at.moment End None → result ≡ Ok tt → ActLeaves d mid.parts acted.parts at End (ended_as result)
      → IsEntered d acted new at.lane at.moment 6 None answer → ActKeeps d old new lane End answer
  ended_keeps_all old mid acted new lane at result answer none next rest is leaves entered =
      subst (λ l. ActKeeps d old new l End answer) next.lane_is
      (ended_kept_at old mid acted new at answer none (next_at old mid lane at next) rest (subst (λ r. ActLeaves d mid.parts acted.parts at End (ended_as r)) is leaves) entered)

  -- the disk failed

  end_failed_kept_at : (old mid acted new : Core D E C) (at : Place) (answer : Answer) → old.fault ≡ None → (session_at old.parts at.lane ≡ Idle → ⊥) → IsNext clock.readings old mid at.lane at → SameRest mid acted at.moment End (Some (reply_by (Err disks.Failed)))
      → ActLeaves d mid.parts acted.parts at End (Err DiskFailed) → Settles d acted new at.lane at.moment (Err disks.Failed) answer → ActKeeps d old new at.lane End answer
  end_failed_kept_at old mid acted new at answer none busy next rest leaves settles = record {
    unchanged = unchanged_between d old.parts mid.parts acted.parts new.parts (reply_by (Err disks.Failed)) answer.reply next.parts settles.parts settles.reply_is leaves.unchanged;
    no_disk_call = λ no_disk_call. absurd (false_true no_disk_call);
    reads = λ only. absurd (false_true only);
    content = λ _ _ fine h. absurd (fine settles.reply_is);
    crash = λ _. subst (λ p. LeavesChange d (old.parts).disk p.disk (by_reply (change_at old.parts at.lane End) answer.reply)) (sym settles.parts)
        (subst (λ r. LeavesChange d (old.parts).disk (acted.parts).disk (by_reply (change_at old.parts at.lane End) r)) (sym settles.reply_is)
        (subst (λ p. LeavesChange d p.disk (acted.parts).disk (change_at p at.lane End)) next.parts leaves.crash));
    passed_its_tests = λ _ _ s h. tt;
    firm = λ _. undone answer DiskFault settles.reply_is;
    listed = ap (λ p. p.catalogue.listed) settles.parts ∙ leaves.listed ∙ ap (λ p. p.catalogue.listed) next.parts;
    admin = λ is. absurd (false_true is);
    others = λ i other. ap (λ p. session_at p i) settles.parts ∙ leaves.others i other ∙ ap (λ p. session_at p i) next.parts;
    ended = λ _. undone answer DiskFault settles.reply_is;
    rows = λ i _. ap (λ p. row_at p i) settles.parts ∙ leaves.rows i (λ _. refl) ∙ ap (λ p. row_at p i) next.parts;
    halted = where_none _ _ none;
    writes = λ writes. absurd (false_true writes);
    remote = λ _. settles.remote ∙ rest.remote ∙ next.remote;
    upkeep = λ _. entered_touches d old mid (with_fault acted (Some (length (acted.journal).entries.items))) new at.lane at.moment 5 End (Some (reply_by (Err disks.Failed))) answer next.upkeep rest.upkeep settles;
    collector = λ _. entered_collector old mid (with_fault acted (Some (length (acted.journal).entries.items))) new at 5 (Some (reply_by (Err disks.Failed))) answer next rest.collector settles;
    stepped = λ is. absurd (false_true is);
    memory = λ closing. absurd (closes_none old.fault End (session_at old.parts at.lane) refl closing);
    reserve = end_failed_keeps d clock.readings old mid (with_fault acted (Some (length (acted.journal).entries.items))) new at.lane at.moment answer none busy next.journal rest.journal _ refl settles;
  }

  end_failed_at : (old mid acted new : Core D E C) (at : Place) (answer : Answer) → at.lane < 64 → old.fault ≡ None → (session_at old.parts at.lane ≡ Idle → ⊥) → IsNext clock.readings old mid at.lane at → SameRest mid acted at.moment End (Some (reply_by (Err disks.Failed)))
      → ActDoes d mid.parts acted.parts at End (Err DiskFailed) → ActLeaves d mid.parts acted.parts at End (Err DiskFailed)
      → Settles d acted new at.lane at.moment (Err disks.Failed) answer → ActApplies d clock old new at.lane End answer
  end_failed_at old mid acted new at answer lt none busy next rest does leaves settles =
      let begun = next_begun clock.readings old mid at.lane at next in
      let answers = end_failed_answered d clock.readings _ old mid acted new at.lane at.moment answer begun none rest.journal rest.fault refl does.serves settles in
      let timely = entered_timely d clock.readings old (with_fault acted (Some (length (acted.journal).entries.items))) new at.lane at.moment 5 _ answer (acted_clock old mid acted at next rest) settles in
      let cause = end_failed_caused d clock.readings _ old mid (with_fault acted (Some (length (acted.journal).entries.items))) new at.lane at.moment answer begun none refl does.serves refl settles in
      let keeps = end_failed_kept_at old mid acted new at answer none busy next rest leaves settles in record {
        history = λ h s kept clear. more h s clear;
        records = λ h. records_more d clock.readings old new at.lane End answer h answers timely (end_kind d old new End answer refl cause) (end_tells_reply d old new End answer cause) keeps.listed (early_by d clock old new at.lane End answer refl timely keeps);
        recovers = λ told start h s clear kept. recovers_more d clock old new at.lane End answer lt more answers cause keeps refl told start h s clear;
        touches = touches_more d clock old new at.lane End answer lt tt more answers cause keeps refl (keeps.collector refl) (no_open d old new answer cause);
        answers = answers;
        timely = timely;
        told = end_failed_told d mid acted new at.lane at.moment answer rest.fault settles;
        cause = cause;
      }
    where
      more : StandsMore d clock old new End answer
      more h s clear =
          let did = does.step tt h.remote (world h) (world h).store (held_before old mid h next.parts none s) in
          end_failed_stands d clock.readings old mid acted new h at.lane at.moment answer s lt
          (closed_at old mid acted at next rest (later d (mid.parts).disk (acted.parts).disk _ leaves.crash)) none did.0 did.1 settles

  pub end_failed_applies : (old mid acted new : Core D E C) (lane : ℕ) (at : Place) (result : Result (Unit {0}) Failed) (failed : Failed) (answer : Answer) → lane < 64 → old.fault ≡ None
      → (session_at old.parts lane ≡ Idle → ⊥) → IsNext clock.readings old mid lane at → SameRest mid acted at.moment End (Some (reply_by (Err disks.Failed))) → result ≡ Err failed
      → ActDoes d mid.parts acted.parts at End (ended_as result) → ActLeaves d mid.parts acted.parts at End (ended_as result)
      → Settles d acted new at.lane at.moment (Err disks.Failed) answer → ActApplies d clock old new lane End answer
  end_failed_applies old mid acted new lane at result failed answer lt none busy next rest is does leaves settles =
      subst (λ l. ActApplies d clock old new l End answer) next.lane_is
      (end_failed_at old mid acted new at answer (subst (λ l. l < 64) (sym next.lane_is) lt) none (subst (λ l. session_at old.parts l ≡ Idle → ⊥) (sym next.lane_is) busy) (next_at old mid lane at next) rest
      (subst (λ r. ActDoes d mid.parts acted.parts at End (ended_as r)) is does) (subst (λ r. ActLeaves d mid.parts acted.parts at End (ended_as r)) is leaves) settles)

  pub end_failed_keeps_all : (old mid acted new : Core D E C) (lane : ℕ) (at : Place) (result : Result (Unit {0}) Failed) (failed : Failed) (answer : Answer) → old.fault ≡ None
      → (session_at old.parts lane ≡ Idle → ⊥) → IsNext clock.readings old mid lane at → SameRest mid acted at.moment End (Some (reply_by (Err disks.Failed))) → result ≡ Err failed → ActLeaves d mid.parts acted.parts at End (ended_as result)
      → Settles d acted new at.lane at.moment (Err disks.Failed) answer → ActKeeps d old new lane End answer
  end_failed_keeps_all old mid acted new lane at result failed answer none busy next rest is leaves settles =
      subst (λ l. ActKeeps d old new l End answer) next.lane_is
      (end_failed_kept_at old mid acted new at answer none (subst (λ l. session_at old.parts l ≡ Idle → ⊥) (sym next.lane_is) busy) (next_at old mid lane at next) rest
      (subst (λ r. ActLeaves d mid.parts acted.parts at End (ended_as r)) is leaves) settles)

  -- after a fault its session ends without a call of the disk

  end_halted_kept_at : (old mid acted new : Core D E C) (at : Place) (first : ℕ) (answer : Answer) → old.fault ≡ Some first → IsNext clock.readings old mid at.lane at → SameRest mid acted at.moment End None
      → (acted.parts).disk ≡ (mid.parts).disk → (acted.parts).catalogue.listed ≡ (mid.parts).catalogue.listed → HasEnded acted.parts at.lane → OthersStay mid.parts acted.parts at.lane → LeavesRows mid.parts acted.parts at.lane End
      → IsEntered d acted new at.lane at.moment 6 None answer → ActKeeps d old new at.lane End answer
  end_halted_kept_at old mid acted new at first answer some next rest same catalogue idle apart others entered =
      let still = ap (λ p. p.disk) entered.parts ∙ same ∙ ap (λ p. p.disk) next.parts in record {
        unchanged = untold_unchanged d old.parts new.parts answer.reply entered.reply_is;
        no_disk_call = λ no_disk_call. absurd (false_true no_disk_call);
        reads = λ only. absurd (false_true only);
        content = λ _ none. absurd (none_some first (sym some ∙ none));
        crash = λ _. inl still;
        passed_its_tests = λ _ _ s h. tt;
        firm = λ none. absurd (none_some first (sym some ∙ none));
        listed = ap (λ p. p.catalogue.listed) entered.parts ∙ catalogue ∙ ap (λ p. p.catalogue.listed) next.parts;
        admin = λ is. absurd (false_true is);
        others = λ i other. ap (λ p. session_at p i) entered.parts ∙ apart i other ∙ ap (λ p. session_at p i) next.parts;
        ended = λ _ _. subst (λ p. HasEnded p at.lane) (sym entered.parts) idle;
        rows = λ i keeps. ap (λ p. row_at p i) entered.parts ∙ others i (λ is. sym (ap (λ r. row_stays_by r End) entered.reply_is) ∙ keeps is) ∙ ap (λ p. row_at p i) next.parts;
        halted = where_some _ _ still;
        writes = λ writes. absurd (false_true writes);
        remote = λ _. entered.remote ∙ rest.remote ∙ next.remote;
        upkeep = λ _. entered_touches d old mid acted new at.lane at.moment 6 End None answer next.upkeep rest.upkeep entered;
        collector = λ _. entered_collector old mid acted new at 6 None answer next rest.collector entered;
        stepped = λ is. absurd (false_true is);
        memory = λ closing. absurd (closes_none old.fault End (session_at old.parts at.lane) refl closing);
        reserve = ended_keeps d clock.readings old mid acted new at.lane at.moment answer next.journal rest.journal entered;
      }

  end_halted_at : (old mid acted new : Core D E C) (at : Place) (first : ℕ) (answer : Answer) → at.lane < 64 → old.fault ≡ Some first → IsNext clock.readings old mid at.lane at → SameRest mid acted at.moment End None
      → (acted.parts).disk ≡ (mid.parts).disk → (acted.parts).catalogue.listed ≡ (mid.parts).catalogue.listed → HasEnded acted.parts at.lane → OthersStay mid.parts acted.parts at.lane → LeavesRows mid.parts acted.parts at.lane End → ((s : Store) → Shows mid.parts s → Shows acted.parts (ended_store s at.lane))
      → IsEntered d acted new at.lane at.moment 6 None answer → ActApplies d clock old new at.lane End answer
  end_halted_at old mid acted new at first answer lt some next rest same catalogue idle apart others shows entered =
      let begun = next_begun clock.readings old mid at.lane at next in
      let answers = ended_answered d clock.readings ⊥ old mid acted new at.lane at.moment answer begun rest.journal rest.fault (untouched d (mid.parts).disk (acted.parts).disk same) entered in
      let timely = entered_timely d clock.readings old acted new at.lane at.moment 6 None answer (acted_clock old mid acted at next rest) entered in
      let cause = ended_caused d old acted new at.lane at.moment answer entered in
      let keeps = end_halted_kept_at old mid acted new at first answer some next rest same catalogue idle apart others entered in record {
        history = λ h s kept clear. more h s clear;
        records = λ h. records_more d clock.readings old new at.lane End answer h answers timely (end_kind d old new End answer refl cause) (end_tells_reply d old new End answer cause) keeps.listed (early_by d clock old new at.lane End answer refl timely keeps);
        recovers = λ told start h s clear kept. recovers_more d clock old new at.lane End answer lt more answers cause keeps refl told start h s clear;
        touches = touches_more d clock old new at.lane End answer lt tt more answers cause keeps refl (keeps.collector refl) (no_open d old new answer cause);
        answers = answers;
        timely = timely;
        told = ended_told d acted new at.lane at.moment answer entered;
        cause = cause;
      }
    where
      more : StandsMore d clock old new End answer
      more h s clear =
          end_halted_stands d clock.readings old mid acted new h at.lane at.moment first answer s lt
          (closed_at old mid acted at next rest (let e = ap d.calls same in omega (arith, e))) some
          (subst d.honest (sym (same ∙ ap (λ p. p.disk) next.parts)) s.honest) (shows (world h).store (subst (λ p. Shows p (world h).store) (sym next.parts) s.shows)) entered

  pub end_halted_applies : (old mid acted new : Core D E C) (lane : ℕ) (at : Place) (first : ℕ) (answer : Answer) → lane < 64 → old.fault ≡ Some first → IsNext clock.readings old mid lane at → SameRest mid acted at.moment End None
      → (acted.parts).disk ≡ (mid.parts).disk → (acted.parts).catalogue.listed ≡ (mid.parts).catalogue.listed → HasEnded acted.parts at.lane → OthersStay mid.parts acted.parts at.lane → LeavesRows mid.parts acted.parts at.lane End → ((s : Store) → Shows mid.parts s → Shows acted.parts (ended_store s at.lane))
      → IsEntered d acted new at.lane at.moment 6 None answer → ActApplies d clock old new lane End answer
  end_halted_applies old mid acted new lane at first answer lt some next rest same catalogue idle apart others shows entered =
      subst (λ l. ActApplies d clock old new l End answer) next.lane_is
      (end_halted_at old mid acted new at first answer (subst (λ l. l < 64) (sym next.lane_is) lt) some (next_at old mid lane at next) rest same catalogue idle apart others shows entered)

  pub end_halted_keeps_all : (old mid acted new : Core D E C) (lane : ℕ) (at : Place) (first : ℕ) (answer : Answer) → old.fault ≡ Some first → IsNext clock.readings old mid lane at → SameRest mid acted at.moment End None
      → (acted.parts).disk ≡ (mid.parts).disk → (acted.parts).catalogue.listed ≡ (mid.parts).catalogue.listed → HasEnded acted.parts at.lane → OthersStay mid.parts acted.parts at.lane → LeavesRows mid.parts acted.parts at.lane End
      → IsEntered d acted new at.lane at.moment 6 None answer → ActKeeps d old new lane End answer
  end_halted_keeps_all old mid acted new lane at first answer some next rest same catalogue idle apart others entered =
      subst (λ l. ActKeeps d old new l End answer) next.lane_is
      (end_halted_kept_at old mid acted new at first answer some (next_at old mid lane at next) rest same catalogue idle apart others entered)
