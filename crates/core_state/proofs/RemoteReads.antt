-- How a read of the remote is entered, on any disk, and for each history.
use Rattle.std.proofs.Common.{◌≡◌, ◌<◌, ◌≤◌, ◌⊎◌, ◌==◌, ◌&&◌, ◌||◌, ⊎_elim, ℕ, Bool, true, false, not, is_some, length, Option, Some, None, IfSome, IsTrue, Result, Ok, Err, inl, inr, refl, sym, ap, subst, ◌∙◌, arith}
use Rattle.std.proofs.lemmas.Bool.{eqb-true}
use Rattle.disk_trait.specs.Disk.{Rose}
use Rattle.disk_trait.specs.declared.disk.Disk.{Ghosts}
use Rattle.port_traits.specs.declared.clock.Clock as clocks
use Rattle.store_types.specs.declared.refusal.Refusal.TheVariants as refusals
use Rattle.store_types.specs.declared.order.TheConstants.{COMMAND_KIND, FAULT_KIND, REMOTE_FAULT_KIND}
use Rattle.wire_commands.specs.declared.reply.Reply.{Reply}
use Rattle.wire_commands.specs.declared.reply.Reply.TheVariants as replies
use Rattle.wire_commands.specs.HasText.{ReplyHasText}
use Rattle.store_model.specs.Store.{Store}
use Rattle.store_history.specs.declared.act.Act.{Act}
use Rattle.store_history.specs.declared.act.Act.TheVariants.{End, RemoteChunk, RemoteFile, RemoteList, Short, Start, Step}
use Rattle.store_history.specs.declared.act.Answer.{Answer}
use Rattle.store_history.specs.declared.act.Family.TheVariants.{Reaches}
use Rattle.store_history.specs.Acts.{IsWellFormed, class_of, ending, family_of, is_reaching, reaching, starting, sweeping}
use Rattle.store_history.specs.History.{act_outcome, kind_of, moved}
use Rattle.store_history.specs.LastTouches.{LastTouches, SameTouches, touched_by}
use Rattle.store_history.specs.Legal.{Right}
use Rattle.store_history.specs.Remote.{ReadsIn, may_read}
use Rattle.store_history.proofs.Families.{by_remote}
use Rattle.core_state.specs.declared.entering.Admitted.TheVariants.{Answered}
use Rattle.core_state.specs.declared.kept.Session.{Session}
use Rattle.core_state.specs.declared.parts.Parts.{Parts}
use Rattle.core_state.specs.declared.state.Core.{Core}
use Rattle.store_stops.specs.declared.stop.Stop.{Stop}
use Rattle.store_stops.specs.declared.stop.Stop.TheVariants as stops
use Rattle.store_history.specs.Answered.{fault_after}
use Rattle.core_state.specs.Answers.{ClassHasCause, EndHasCause, HasCause, IsAnswered, IsCaused, ReachHasCause, StartHasCause, StepHasCause, done, end_failed, ended as has_ended, failed, halted, reach_as_any, reach_failed, reach_reads, short, start_as_any, start_opens, step_as_any, step_ends, step_passes}
use Rattle.core_state.specs.Applies.{ActApplies, ActKeeps, CoreApplies}
use Rattle.core_state.specs.Begins.{AdmittedHasText, IsBegun, IsNotShort, IsReady, Refuses}
use Rattle.core_state.specs.Catalogue.{listed_by}
use Rattle.core_state.specs.Changes.{IsFirm, after, by_reply, stays}
use Rattle.core_state.specs.Closing.{closes, closes_by, is_closing}
use Rattle.core_state.specs.Collectors.{collector_by, open_in, shown_collecting}
use Rattle.core_state.specs.Commands.{change_at, ends_session, leaves_writer}
use Rattle.store_history.specs.RemoteDisk.{is_remotes, RemoteStays, ShowsRemote, faults_of, reads_remote}
use Rattle.core_state.specs.Kept.{KeptAt, kept_at}
use Rattle.core_state.specs.PassedTests.{PassesItsTests}
use Rattle.core_state.specs.Entering.{held_by}
use Rattle.core_state.specs.History.{History, StandsFor, event_of, then_event, world}
use Rattle.core_state.specs.Indexed.{row_at}
use Rattle.core_state.specs.Remotes.{RemoteServes, SettlesRead, kind_by, reply_by}
use Rattle.store_history.specs.Replies.{may_answer, may_give}
use Rattle.core_state.specs.Unchanged.{Unchanged}
use Rattle.core_state.specs.Upkeeps.{touches_kept}
use Rattle.core_state.specs.Wanted.{session_at}
use Rattle.core_state.proofs.Answered.{IsAsked, WorldMoves, begun_acted, refused_stands}
use Rattle.core_state.proofs.Answering.{entered_answered, refused_answered, refused_told, same_honest, where_none}
use Rattle.core_state.proofs.Applying.{IsNoEnd, class_told, closes_none, early_by, no_start_kind, refused_collector, refused_kept, refused_remote}
use Rattle.core_state.proofs.Caused.{refused_caused}
use Rattle.core_state.proofs.Collecting.{short_shown, step_shown}
use Rattle.core_state.proofs.Entered.{IsActed, entered_stands, moves}
use Rattle.core_state.proofs.KeepingTouches.{touches_by, touches_more}
use Rattle.core_state.proofs.Recorded.{entered_timely, reach_fits, reach_tells, records_more, refused_timely}
use Rattle.core_state.proofs.Recovering.{StandsMore, recovers_by, recovers_more}
use Rattle.core_state.proofs.RemoteLemmas.{serves_alone, serves_failed, serves_other}
use Rattle.core_state.proofs.Reserves.{entered_keeps, no_end_keeps}
use Rattle.core_state.proofs.Texts.{no_memory_has_text, remote_fault_has_text}
use Rattle.core_state.proofs.Touching.{entered_touches, same_touches}
use Rattle.core_state.proofs.Unchanging.{same_unchanged}

false_true : false ≡ true → ⊥
false_true e = cc

true_false : true ≡ false → ⊥
true_false e = cc

-- ---- what these acts are

pub remote_class : (act : Act) → family_of act ≡ Reaches → class_of act ≡ reaching
remote_class = by_remote (λ act. class_of act ≡ reaching) (λ c. refl) (λ snapshot name offset. refl) (λ digest. refl)

remote_other : (act : Act) → family_of act ≡ Reaches → IsNoEnd act
remote_other = by_remote IsNoEnd (λ c. record { end = λ e. cc; sweep = λ e. cc; step = λ e. cc; no = refl })
    (λ snapshot name offset. record { end = λ e. cc; sweep = λ e. cc; step = λ e. cc; no = refl }) (λ digest. record { end = λ e. cc; sweep = λ e. cc; step = λ e. cc; no = refl })

remote_change : {D : Type 0} (parts : Parts D) (lane : ℕ) (act : Act) → family_of act ≡ Reaches → change_at parts lane act ≡ stays
remote_change parts lane = by_remote (λ act. change_at parts lane act ≡ stays) (λ c. refl) (λ snapshot name offset. refl) (λ digest. refl)

remote_lists : (reply : Option Reply) (place : ℕ) (k : KeptAt) (act : Act) → family_of act ≡ Reaches → listed_by act reply place k ≡ k.catalogue
remote_lists reply place k = by_remote (λ act. listed_by act reply place k ≡ k.catalogue) (λ c. refl) (λ snapshot name offset. refl) (λ digest. refl)

remote_closes : (x : Session) (act : Act) → family_of act ≡ Reaches → closes act x ≡ false
remote_closes x = by_remote (λ act. closes act x ≡ false) (λ c. refl) (λ snapshot name offset. refl) (λ digest. refl)

remote_ends : (act : Act) → family_of act ≡ Reaches → ends_session act ≡ true → ⊥
remote_ends = by_remote (λ act. ends_session act ≡ true → ⊥) (λ c. false_true) (λ snapshot name offset. false_true) (λ digest. false_true)

remote_writes : (act : Act) → family_of act ≡ Reaches → leaves_writer act ≡ true → ⊥
remote_writes = by_remote (λ act. leaves_writer act ≡ true → ⊥) (λ c. false_true) (λ snapshot name offset. false_true) (λ digest. false_true)

remote_touches : (reply : Option Reply) (when : ℕ) (t : LastTouches) (act : Act) → family_of act ≡ Reaches → SameTouches t (touched_by act reply when t)
remote_touches reply when t = by_remote (λ act. SameTouches t (touched_by act reply when t)) (λ c. same_touches t) (λ snapshot name offset. same_touches t) (λ digest. same_touches t)

remote_passes : (s : Store) (lane : ℕ) (act : Act) → family_of act ≡ Reaches → PassesItsTests act s lane
remote_passes s lane = by_remote (λ act. PassesItsTests act s lane) (λ c. tt) (λ snapshot name offset. tt) (λ digest. tt)

-- they do nothing to the plain store
remote_moves : (h : History) (k m : ℕ) (act : Act) → family_of act ≡ Reaches → (moves h k m act 0).store ≡ (world h).store
unfolding moved act_outcome
remote_moves h k m = by_remote (λ act. (moves h k m act 0).store ≡ (world h).store) (λ c. refl) (λ snapshot name offset. refl) (λ digest. refl)

no_reach_end : reaching ≡ ending → ⊥
no_reach_end e = cc

no_reach_sweep : reaching ≡ sweeping → ⊥
no_reach_sweep e = cc

no_reach_start : reaching ≡ starting → ⊥
no_reach_start e = cc

-- nothing stays nothing
stays_by : (reply : Option Reply) → by_reply stays reply ≡ stays
stays_by (Some (replies.Refused refusals.DiskFault)) = refl
stays_by (Some (replies.Refused refusal)) = refl
stays_by reply = refl

module _ {D E C : Type 0} (d : Ghosts D) (old new : Core D E C) (act : Act) (remotes : family_of act ≡ Reaches) (answer : Answer) where
  pub remote_caused : ReachHasCause d old new act answer → IsCaused d old new act answer
  remote_caused cause = subst (λ c. ClassHasCause d c old new act answer) (sym (remote_class act remotes)) cause

-- ---- what was read

-- it is one of the act's replies
abbrev pub GivesFit : Act → Result Reply Stop → Type 0
GivesFit act (Ok reply) = IsTrue (may_give act reply) × ReplyHasText reply
GivesFit act (Err (stops.Refused refusal)) = IsTrue (may_answer act (replies.Refused refusal)) × ReplyHasText (replies.Refused refusal)
GivesFit act (Err stop) = Unit {0}

-- and that of a history
abbrev pub GivesRight : History → ℕ → Act → Result Reply Stop → Type 0
GivesRight h k act (Ok reply) = (may_read h.remote (world h).store k act ≡ Ok tt) × ReadsIn h.remote act (Some reply)
GivesRight h k act (Err (stops.Refused refusal)) = may_read h.remote (world h).store k act ≡ Err refusal
GivesRight h k act (Err stops.NoMemory) = Unit {0}
GivesRight h k act (Err stops.DiskFailed) = may_read h.remote (world h).store k act ≡ Ok tt

-- it failed only where the remote's count rose
abbrev pub FailsWhere : {E : Type 0} → Ghosts E → Option E → Option E → Result Reply Stop → Type 0
FailsWhere e old new (Err stops.DiskFailed) = Rose (faults_of e old) (faults_of e new)
FailsWhere e old new ended = Unit {0}

kind_calm : (ended : Result Reply Stop) → (kind_by ended ≡ 3 → ⊥) × (kind_by ended ≡ 5 → ⊥)
kind_calm (Ok reply) = (λ e. absurd (omega (arith, e)), λ e. absurd (omega (arith, e)))
kind_calm (Err (stops.Refused refusal)) = (λ e. absurd (omega (arith, e)), λ e. absurd (omega (arith, e)))
kind_calm (Err stops.NoMemory) = (λ e. absurd (omega (arith, e)), λ e. absurd (omega (arith, e)))
kind_calm (Err stops.DiskFailed) = (λ e. absurd (omega (arith, e)), λ e. absurd (omega (arith, e)))

-- such an act has one of two kinds, where it read nothing
pub unread_kind : (act : Act) (answer : Answer) → family_of act ≡ Reaches → reads_remote act answer ≡ false → ((answer.entry).kind ≡ COMMAND_KIND) ⊎ ((answer.entry).kind ≡ FAULT_KIND)
unread_kind act answer remotes unread =
    by_kind ((answer.entry).kind == COMMAND_KIND) ((answer.entry).kind == FAULT_KIND) refl refl (ap (λ f. is_reaching f && not ((answer.entry).kind == COMMAND_KIND || (answer.entry).kind == FAULT_KIND)) (sym remotes) ∙ unread)
  where
    by_kind : (a b : Bool) → ((answer.entry).kind == COMMAND_KIND) ≡ a → ((answer.entry).kind == FAULT_KIND) ≡ b → not ((answer.entry).kind == COMMAND_KIND || (answer.entry).kind == FAULT_KIND) ≡ false
        → ((answer.entry).kind ≡ COMMAND_KIND) ⊎ ((answer.entry).kind ≡ FAULT_KIND)
    by_kind true b zero five is = inl (eqb-true (answer.entry).kind 0 zero)
    by_kind false true zero five is = inr (eqb-true (answer.entry).kind 5 five)
    by_kind false false zero five is = absurd (true_false (sym (ap (λ x. not (x || (answer.entry).kind == FAULT_KIND)) zero ∙ ap not five) ∙ is))

-- and no other act reads it
pub others_unread : (act : Act) (answer : Answer) → is_remotes act ≡ false → reads_remote act answer ≡ false
others_unread act answer alone = ap (λ b. b && not ((answer.entry).kind == COMMAND_KIND || (answer.entry).kind == FAULT_KIND)) alone

fit_text : (act : Act) (ended : Result Reply Stop) → GivesFit act ended → ReplyHasText (reply_by ended)
fit_text act (Ok reply) fit = fit.1
fit_text act (Err (stops.Refused refusal)) fit = fit.1
fit_text act (Err stops.NoMemory) fit = no_memory_has_text
fit_text act (Err stops.DiskFailed) fit = remote_fault_has_text

module _ {D E C : Type 0} (d : Ghosts D) (e : Ghosts E) (clock : clocks.Ghosts C) (old mid new : Core D E C) (k m : ℕ) (act : Act) (remotes : family_of act ≡ Reaches)
    (remote : Option E) (ended : Result Reply Stop) (answer : Answer) (lt : k < 64) (formed : IsWellFormed act)
    (ready : IsReady clock.readings old mid k m) (filled : is_closing old k act ≡ false → (3 ≤ held_by mid.journal k) × (0 < (mid.journal).spare))
    (settles : SettlesRead d (record mid { remote = remote }) new k m ended answer) (unread : kind_by ended ≡ 0 → remote ≡ mid.remote) where
  abbrev acted : Core D E C
  acted = record mid { remote = remote }

  abbrev n : ℕ
  n = kind_by ended

  abbrev b : IsBegun clock.readings old mid k m
  b = ready.begun

  parts : new.parts ≡ old.parts
  parts = settles.parts ∙ b.parts

  kind_is : (answer.entry).kind ≡ n
  kind_is = ap (λ x. x.kind) settles.entry

  class_is : class_of act ≡ reaching
  class_is = remote_class act remotes

  other : IsNoEnd act
  other = remote_other act remotes

  not_closing : is_closing old k act ≡ false
  not_closing = ap (λ f. closes_by f act (session_at old.parts k)) ready.no_fault ∙ remote_closes (session_at old.parts k) act remotes

  change : change_at old.parts k act ≡ stays
  change = remote_change old.parts k act remotes

  none : by_reply (change_at old.parts k act) answer.reply ≡ stays
  none = ap (λ x. by_reply x answer.reply) change ∙ stays_by answer.reply

  collector : new.collector ≡ collector_by (answer.entry).kind k old.collector
  collector = settles.collector ∙ ap (collector_by n k) b.collector ∙ ap (λ x. collector_by x k old.collector) (sym kind_is)

  -- it read nothing only where its tests refused it
  pub refused : reads_remote act answer ≡ false → n ≡ 0
  refused alone =
      ⊎_elim (λ (zero : (answer.entry).kind ≡ COMMAND_KIND). sym kind_is ∙ zero) (λ (five : (answer.entry).kind ≡ FAULT_KIND). absurd ((kind_calm ended).1 (sym kind_is ∙ five)))
      (unread_kind act answer remotes alone)

  pub read_keeps : ActKeeps d old new k act answer
  read_keeps =
      let same = ap (λ p. p.disk) parts in record {
        unchanged = subst (λ r. IfSome r (Unchanged d old.parts new.parts)) (sym settles.reply_is) (same_unchanged d old.parts new.parts (reply_by ended) parts);
        no_disk_call = λ _. same;
        reads = λ _ h. ap d.content same;
        content = λ _ _ _ h. ap d.content same ∙ ap (λ x. after x (d.content (old.parts).disk)) (sym none);
        crash = λ _. inl same;
        passed_its_tests = λ _ _ s h. remote_passes s k act remotes;
        firm = λ _ _. subst (IsFirm d (old.parts).disk (new.parts).disk) (sym change) tt;
        listed = ap (λ p. p.catalogue.listed) parts ∙ sym (remote_lists answer.reply answer.place (kept_at old.parts k) act remotes);
        admin = λ _. (ap (λ p. p.sessions.items) parts, ap (λ p. p.locks) parts);
        others = λ i _. ap (λ p. session_at p i) parts;
        ended = λ ends. absurd (remote_ends act remotes ends);
        rows = λ i _. ap (λ p. row_at p i) parts;
        halted = where_none _ _ ready.no_fault;
        writes = λ writes. absurd (remote_writes act remotes writes);
        remote = λ alone. settles.remote ∙ unread (refused alone) ∙ b.remote;
        upkeep = λ _. entered_touches d old mid acted new k m n act (Some (reply_by ended)) answer b.upkeep (remote_touches (Some (reply_by ended)) m (touches_kept mid.upkeep) act remotes) settles;
        collector = λ _. collector;
        stepped = λ is. absurd (other.step is);
        memory = λ closing. absurd (closes_none old.fault act (session_at old.parts k) (remote_closes (session_at old.parts k) act remotes) closing);
        reserve = no_end_keeps old new k act answer other.end other.sweep
            (entered_keeps d clock.readings old mid acted new k m n (Some (reply_by ended)) (is_closing old k act) answer ready refl (filled not_closing) settles);
      }

  cause_by : (r : Result Reply Stop) → GivesFit act r → (answer.entry).kind ≡ kind_by r → answer.reply ≡ Some (reply_by r) → ReachHasCause d old new act answer
  cause_by (Ok reply) fit is told = reach_reads ready.no_fault is reply told fit.0
  cause_by (Err (stops.Refused refusal)) fit is told = reach_as_any (done ready.no_fault is (replies.Refused refusal) told fit.0)
  cause_by (Err stops.NoMemory) fit is told = reach_as_any (short is told)
  cause_by (Err stops.DiskFailed) fit is told = reach_failed ready.no_fault is told

  answered : GivesFit act ended → IsAnswered d old new k answer
  answered fit =
      entered_answered d old acted new k m n (Some (reply_by ended)) answer settles (b.entries).entries (b.entries).calls (fit_text act ended fit)
      (b.fault ∙ ready.no_fault ∙ sym (unfaulted ended)) (let x = ap (λ p. d.faults p.disk) b.parts in omega (arith, x)) (same_honest d _ _ (ap (λ p. p.disk) b.parts)) (λ five. absurd ((kind_calm ended).1 five))
    where
      unfaulted : (r : Result Reply Stop) → fault_after (length (old.journal).entries.items) (kind_by r) old.fault ≡ None
      unfaulted (Ok reply) = ready.no_fault
      unfaulted (Err (stops.Refused refusal)) = ready.no_fault
      unfaulted (Err stops.NoMemory) = ready.no_fault
      unfaulted (Err stops.DiskFailed) = ready.no_fault

  module _ (h : History) (s : StandsFor d clock.readings old h) where
    fault : (world h).fault ≡ None
    fault = sym s.fault ∙ ready.no_fault

    begun : open_in mid.collector ≡ shown_collecting (world h).collecting
    begun = ap open_in b.collector ∙ s.collecting

    no_sweep : class_of act ≡ sweeping → ⊥
    no_sweep is = no_reach_sweep (sym class_is ∙ is)

    right_by : (r : Result Reply Stop) → GivesRight h k act r → Right h.remote (world h) k m act (Some (reply_by r)) reaching (kind_of (kind_by r))
    right_by (Ok reply) gives = (fault, gives.0, gives.1)
    right_by (Err (stops.Refused refusal)) gives = (fault, subst (λ o. Rattle.store_history.specs.Legal.Refuses o (Some (replies.Refused refusal))) (sym gives) refl)
    right_by (Err stops.NoMemory) gives = refl
    right_by (Err stops.DiskFailed) gives = (fault, gives, refl)

    world_by : (r : Result Reply Stop) → WorldMoves h k m act (kind_by r)
    unfolding moved
    world_by (Ok reply) = record { fault = refl; store = refl }
    world_by (Err (stops.Refused refusal)) = record { fault = refl; store = remote_moves h k m act remotes }
    world_by (Err stops.NoMemory) = record { fault = refl; store = refl }
    world_by (Err stops.DiskFailed) = record { fault = refl; store = refl }

    shown_by : (r : Result Reply Stop) → open_in (collector_by (kind_by r) k mid.collector) ≡ shown_collecting (moves h k m act (kind_by r)).collecting
    unfolding moved
    shown_by (Ok reply) = begun
    shown_by (Err (stops.Refused refusal)) = step_shown h.remote (world h) k m act no_sweep mid.collector begun
    shown_by (Err stops.NoMemory) = short_shown h.remote (world h) k m act no_sweep mid.collector begun
    shown_by (Err stops.DiskFailed) = begun

    acted_is : is_some remote ≡ is_some mid.remote → IsActed d clock.readings old acted h k m act n
    acted_is there = let a = begun_acted d clock.readings old mid h k m act n s b (world_by ended) (shown_by ended) in record {
      clock = a.clock;
      entries = a.entries;
      calls = a.calls;
      later = a.later;
      honest = a.honest;
      remote = there ∙ a.remote;
      fault = a.fault;
      shows = a.shows;
      collecting = a.collecting;
      files = a.files;
      chunks = a.chunks;
    }

    -- it stands for the history with this read more
    pub read_stands : is_some remote ≡ is_some mid.remote → GivesRight h k act ended → StandsFor d clock.readings new (then_event h (event_of act answer (d.calls (new.parts).disk)))
    read_stands there gives =
        entered_stands d clock.readings old acted new h k m act n (Some (reply_by ended)) answer s lt formed
        (subst (λ c. Right h.remote (world h) k m act (Some (reply_by ended)) c (kind_of n)) (sym class_is) (right_by ended gives)) (acted_is there) settles

  serves_by : IsAnswered d old new k answer → RemoteStays e mid.remote remote → (r : Result Reply Stop) → kind_by r ≡ n → FailsWhere e mid.remote remote r → RemoteServes e old new
  serves_by answers stays_so r is fails = by_end r is fails
    where
      before : RemoteStays e old.remote new.remote
      before = subst (λ x. RemoteStays e old.remote x) (sym settles.remote) (subst (λ x. RemoteStays e x remote) b.remote stays_so)

      calm : (r : Result Reply Stop) → kind_by r ≡ n → (kind_by r ≡ 7 → ⊥) → RemoteServes e old new
      calm r is other = serves_other e old new answer.entry answers.entries (λ seven. other (is ∙ sym kind_is ∙ seven)) before

      by_end : (r : Result Reply Stop) → kind_by r ≡ n → FailsWhere e mid.remote remote r → RemoteServes e old new
      by_end (Ok reply) is fails = calm (Ok reply) is (λ x. absurd (omega (arith, x)))
      by_end (Err (stops.Refused refusal)) is fails = calm (Err (stops.Refused refusal)) is (λ x. absurd (omega (arith, x)))
      by_end (Err stops.NoMemory) is fails = calm (Err stops.NoMemory) is (λ x. absurd (omega (arith, x)))
      by_end (Err stops.DiskFailed) is fails =
          serves_failed e old new answer.entry answers.entries before
          (subst (λ x. Rose (faults_of e old.remote) (faults_of e x)) (sym settles.remote) (subst (λ x. Rose (faults_of e x) (faults_of e remote)) b.remote fails))

  -- it is one of the act's replies, and that of each history whose remote stands for what this remote does
  pub read_applies : GivesFit act ended → RemoteStays e mid.remote remote → is_some remote ≡ is_some mid.remote → FailsWhere e mid.remote remote ended
      → ((h : History) → StandsFor d clock.readings old h → ShowsRemote e old.remote h.remote → GivesRight h k act ended)
      → CoreApplies d e clock old new k act answer
  read_applies fit stays_so there fails gives =
      let answers = answered fit in
      let timely = entered_timely d clock.readings old acted new k m n (Some (reply_by ended)) answer b.clock settles in
      let cause = cause_by ended fit kind_is settles.reply_is in
      let caused = remote_caused d old new act remotes answer cause in
      let keeps = read_keeps in record {
        history = λ h s shown kept clear. read_stands h s there (gives h s shown);
        records = λ h. records_more d clock.readings old new k act answer h answers timely (reach_fits d old new act answer class_is cause) (reach_tells d old new act answer class_is cause answers.text) keeps.listed
            (early_by d clock old new k act answer other.no timely keeps);
        recovers = λ told start h s shown clear kept. recovers_by d clock old new k act answer lt answers caused keeps other.no told start h s (read_stands h s there (gives h s shown));
        touches = λ h s shown kept clear. touches_by d clock old new k act answer lt formed answers caused keeps other.no collector (λ three. (kind_calm ended).0 (sym kind_is ∙ three)) h s kept
            (read_stands h s there (gives h s shown));
        answers = answers;
        timely = timely;
        told = class_told act answer other (λ is. no_reach_start (sym class_is ∙ is)) (ap is_some settles.reply_is);
        cause = caused;
        remote = serves_by answers stays_so ended refl fails;
      }

  -- whatever the remote is, where this is that of each history
  pub read_alone : CoreApplies d e clock old new k act answer → is_some remote ≡ is_some mid.remote → ((h : History) → StandsFor d clock.readings old h → GivesRight h k act ended)
      → ActApplies d clock old new k act answer
  read_alone applies there gives = record {
    history = λ h s kept clear. read_stands h s there (gives h s);
    records = applies.records;
    recovers = λ told start h s clear kept. recovers_by d clock old new k act answer lt applies.answers applies.cause read_keeps other.no told start h s (read_stands h s there (gives h s));
    touches = λ h s kept clear. touches_by d clock old new k act answer lt formed applies.answers applies.cause read_keeps other.no collector (λ three. (kind_calm ended).0 (sym kind_is ∙ three)) h s kept
        (read_stands h s there (gives h s));
    answers = applies.answers;
    timely = applies.timely;
    told = applies.told;
    cause = applies.cause;
  }

-- ---- beside the remote

-- an act that let the remote alone, and was entered as no failed read
pub beside : {D E C : Type 0} (d : Ghosts D) (e : Ghosts E) (clock : clocks.Ghosts C) (old new : Core D E C) (lane : ℕ) (act : Act) (answer : Answer)
    → ActApplies d clock old new lane act answer → new.remote ≡ old.remote → ((answer.entry).kind ≡ REMOTE_FAULT_KIND → ⊥) → CoreApplies d e clock old new lane act answer
beside d e clock old new lane act answer applies alone other = record {
  history = λ h s shown kept clear. applies.history h s kept clear;
  records = applies.records;
  recovers = λ told start h s shown clear kept. applies.recovers told start h s clear kept;
  touches = λ h s shown kept clear. applies.touches h s kept clear;
  answers = applies.answers;
  timely = applies.timely;
  told = applies.told;
  cause = applies.cause;
  remote = serves_alone e old new answer.entry (applies.answers).entries other alone;
}

-- no other act is entered so
no_seven : {D E C : Type 0} (d : Ghosts D) (old new : Core D E C) (act : Act) (answer : Answer) → HasCause d old new act answer → (answer.entry).kind ≡ REMOTE_FAULT_KIND → ⊥
no_seven d old new act answer (done before zero reply told may) seven = omega (arith, zero, seven)
no_seven d old new act answer (short two told) seven = omega (arith, two, seven)
no_seven d old new act answer (failed before five told fault rose) seven = omega (arith, five, seven)
no_seven d old new act answer (halted place before five told) seven = omega (arith, five, seven)

end_no_seven : {D E C : Type 0} (d : Ghosts D) (old new : Core D E C) (answer : Answer) → EndHasCause d old new answer → (answer.entry).kind ≡ REMOTE_FAULT_KIND → ⊥
end_no_seven d old new answer (has_ended six told) seven = omega (arith, six, seven)
end_no_seven d old new answer (end_failed before five told fault rose) seven = omega (arith, five, seven)

start_no_seven : {D E C : Type 0} (d : Ghosts D) (old new : Core D E C) (act : Act) (answer : Answer) → StartHasCause d old new act answer → (answer.entry).kind ≡ REMOTE_FAULT_KIND → ⊥
start_no_seven d old new act answer (start_opens before three told) seven = omega (arith, three, seven)
start_no_seven d old new act answer (start_as_any cause) seven = no_seven d old new act answer cause seven

step_no_seven : {D E C : Type 0} (d : Ghosts D) (old new : Core D E C) (act : Act) (answer : Answer) → StepHasCause d old new act answer → (answer.entry).kind ≡ REMOTE_FAULT_KIND → ⊥
step_no_seven d old new act answer (step_passes before one told) seven = omega (arith, one, seven)
step_no_seven d old new act answer (step_ends before four reply told may) seven = omega (arith, four, seven)
step_no_seven d old new act answer (step_as_any cause) seven = no_seven d old new act answer cause seven

other_kind : {D E C : Type 0} (d : Ghosts D) (old new : Core D E C) (act : Act) (answer : Answer) → is_remotes act ≡ false → IsCaused d old new act answer → (answer.entry).kind ≡ REMOTE_FAULT_KIND → ⊥
other_kind d old new (RemoteList c) answer is cause = absurd (true_false is)
other_kind d old new (RemoteFile snapshot name offset) answer is cause = absurd (true_false is)
other_kind d old new (RemoteChunk digest) answer is cause = absurd (true_false is)
other_kind d old new Start answer is cause = start_no_seven d old new Start answer cause
other_kind d old new Step answer is cause = step_no_seven d old new Step answer cause
other_kind d old new Short answer is cause = λ seven. let two = cause.0 in omega (arith, two, seven)
other_kind d old new End answer is cause = end_no_seven d old new answer cause
other_kind d old new act answer is cause = no_seven d old new act answer cause

-- an act that reads no remote
pub applies_beside : {D E C : Type 0} (d : Ghosts D) (e : Ghosts E) (clock : clocks.Ghosts C) (old new : Core D E C) (lane : ℕ) (act : Act) (answer : Answer) → is_remotes act ≡ false
    → ActApplies d clock old new lane act answer → ActKeeps d old new lane act answer → CoreApplies d e clock old new lane act answer
applies_beside d e clock old new lane act answer alone applies keeps =
    beside d e clock old new lane act answer applies (keeps.remote (others_unread act answer alone)) (other_kind d old new act answer alone applies.cause)

-- ---- refused before it is read

module _ {D E C : Type 0} (d : Ghosts D) (e : Ghosts E) (clock : clocks.Ghosts C) (old new : Core D E C) (lane : ℕ) (act : Act) (remotes : family_of act ≡ Reaches) (answer : Answer)
    (refuses : Refuses d clock.readings old new lane answer) where
  goes : is_closing old lane act ≡ true → IsNotShort (Answered answer)
  goes closing = absurd (closes_none old.fault act (session_at old.parts lane) (remote_closes (session_at old.parts lane) act remotes) closing)

  pub unread_keeps : ActKeeps d old new lane act answer
  unread_keeps = refused_kept d clock old new lane act answer (remote_other act remotes) refuses goes

  asked : IsAsked (class_of act)
  asked = subst IsAsked (sym (remote_class act remotes)) tt

  -- whatever the remote is
  pub unread_alone : lane < 64 → IsWellFormed act → AdmittedHasText (Answered answer) → ActApplies d clock old new lane act answer
  unread_alone lt formed text =
      let answers = refused_answered d clock.readings old new lane answer refuses text in
      let timely = refused_timely d clock.readings old new lane answer refuses in
      let cause = refused_caused d clock.readings old new lane act answer refuses in
      let reach : ReachHasCause d old new act answer = reach_as_any cause in
      let caused = remote_caused d old new act remotes answer reach in
      let other = remote_other act remotes in
      let class_is = remote_class act remotes in
      let keeps = unread_keeps in
      let more : StandsMore d clock old new act answer = λ h s clear. refused_stands d clock.readings old new h lane act answer s lt formed asked refuses goes in record {
        history = λ h s kept clear. more h s clear;
        records = λ h. records_more d clock.readings old new lane act answer h answers timely (reach_fits d old new act answer class_is reach) (reach_tells d old new act answer class_is reach answers.text) keeps.listed
            (early_by d clock old new lane act answer other.no timely keeps);
        recovers = λ told start h s clear kept. recovers_more d clock old new lane act answer lt more answers caused keeps other.no told start h s clear;
        touches = touches_more d clock old new lane act answer lt formed more answers caused keeps other.no (refused_collector d clock old new lane answer refuses) (no_start_kind d old new act answer cause);
        answers = answers;
        timely = timely;
        told = class_told act answer other (λ is. no_reach_start (sym class_is ∙ is)) (refused_told d clock.readings old new lane answer refuses);
        cause = caused;
      }

  pub unread_applies : lane < 64 → IsWellFormed act → AdmittedHasText (Answered answer) → CoreApplies d e clock old new lane act answer
  unread_applies lt formed text =
      beside d e clock old new lane act answer (unread_alone lt formed text) (refused_remote d clock old new lane answer refuses)
      (no_seven d old new act answer (refused_caused d clock.readings old new lane act answer refuses))
