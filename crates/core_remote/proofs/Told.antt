-- How a read of the remote that was begun ends, as it is entered.
use Rattle.std.proofs.Common.{◌≡◌, ◌<◌, ◌⊎◌, ⊎_elim, inl, inr, ℕ, false, is_some, Option, None, Some, IfSome, IfOk, IsTrue, MatchResult, Result, Ok, Err, refl, sym, ap, subst, ◌∙◌, arith}
use Rattle.store_types.specs.declared.order.TheConstants.{PART_KIND, MEMORY_KIND, FAULT_KIND, REMOTE_FAULT_KIND}
use Rattle.disk_trait.specs.declared.disk.Disk.{Ghosts}
use Rattle.port_traits.specs.declared.clock.Clock as clocks
use Rattle.wire_commands.specs.declared.reply.Reply.{Reply}
use Rattle.wire_commands.specs.HasText.{ReplyHasText}
use Rattle.store_history.specs.declared.act.Act.{Act}
use Rattle.store_history.specs.declared.act.Answer.{Answer}
use Rattle.store_history.specs.declared.act.Family.TheVariants.{Reaches}
use Rattle.store_history.specs.Acts.{IsWellFormed, family_of}
use Rattle.store_history.specs.Remote as rules
use Rattle.core_state.specs.declared.entering.Admitted.TheVariants.{Answered, At}
use Rattle.core_state.specs.declared.entering.Place.{Place}
use Rattle.core_state.specs.declared.parts.Parts.{Parts}
use Rattle.core_state.specs.declared.state.Core.{Core}
use Rattle.store_stops.specs.declared.stop.Stop.{Stop}
use Rattle.store_stops.specs.declared.stop.Stop.TheVariants as stops
use Rattle.core_state.specs.Applies.{ActApplies, ActKeeps, CoreApplies}
use Rattle.core_state.specs.Begins.{AdmittedHasText, FillsUp, IsAdmitted, Refuses, halted, short}
use Rattle.core_state.specs.History.{History, StandsFor, world}
use Rattle.core_state.specs.Remotes.{SettlesRead, kind_by, reply_by}
use Rattle.store_history.specs.RemoteDisk.{RemoteStays, ShowsRemote, reads_remote}
use Rattle.store_history.specs.Replies.{may_give}
use Rattle.core_state.specs.Kept.{kept_at}
use Rattle.core_state.proofs.Applying.{refused_remote}
use Rattle.core_state.proofs.RemoteLemmas.{stays_there}
use Rattle.core_state.proofs.RemoteReads.{FailsWhere, GivesRight, read_alone, read_applies, read_keeps, refused, unread_alone, unread_applies, unread_keeps}
use Rattle.snapshot_files.specs.Reads.{StopHasText}
use Rattle.core_remote.specs.RemoteActs.{FailsBy, GivesFrom, GivesRemote, IsTested, RemoteGives, RemoteTells, TellsEnd, UnreadWhere, read_told}
use Rattle.core_remote.proofs.Given.{given_right}
use Rattle.core_remote.proofs.RemoteLemmas.{ends_fit, told_same}

-- what holds, holds in any case
in_any : {A P : Type 0} (o : Option A) → P → IfSome o (λ _. P)
in_any None p = tt
in_any (Some a) p = p

-- what was not read gives nothing
pub gives_none : {E : Type 0} (e : Ghosts E) (remote : Option E) (act : Act) (stop : Stop) → GivesRemote e remote act (Err stop)
gives_none e None act stop = tt
gives_none e (Some r) act stop = λ h. tt

module _ {D E C : Type 0} (d : Ghosts D) (e : Ghosts E) (clock : clocks.Ghosts C) (old new : Core D E C) (k : ℕ) (act : Act) (answer : Answer) (is : family_of act ≡ Reaches) where
  -- ---- refused before it is begun

  module _ (refuses : Refuses d clock.readings old new k answer) where
    pub refused_keeps : ActKeeps d old new k act answer
    refused_keeps = unread_keeps d e clock old new k act is answer refuses

    pub refused_applies : k < 64 → IsWellFormed act → AdmittedHasText (Answered answer) → CoreApplies d e clock old new k act answer
    refused_applies lt formed text = unread_applies d e clock old new k act is answer refuses lt formed text

    pub refused_alone : k < 64 → IsWellFormed act → AdmittedHasText (Answered answer) → ActApplies d clock old new k act answer
    refused_alone lt formed text = unread_alone d e clock old new k act is answer refuses lt formed text

    other_kinds : Refuses d clock.readings old new k answer → ((answer.entry).kind ≡ MEMORY_KIND) ⊎ ((answer.entry).kind ≡ FAULT_KIND)
    other_kinds (short s) = inl (ap (λ x. x.kind) (s.entered).entry)
    other_kinds (halted s) = inr (ap (λ x. x.kind) (s.entered).entry)

    no_kind : (n : ℕ) → (n ≡ 2 → ⊥) → (n ≡ 5 → ⊥) → (answer.entry).kind ≡ n → ⊥
    no_kind n two five at =
        ⊎_elim (λ (x : (answer.entry).kind ≡ MEMORY_KIND). two (sym at ∙ x)) (λ (x : (answer.entry).kind ≡ FAULT_KIND). five (sym at ∙ x)) (other_kinds refuses)

    not_called : new.remote ≡ old.remote
    not_called = refused_remote d clock old new k answer refuses

    pub refused_tells : RemoteTells old new k act answer
    refused_tells = record {
      refused = λ zero. absurd (no_kind 0 (λ x. absurd (omega (arith, x))) (λ x. absurd (omega (arith, x))) zero);
      reads = λ at. ⊎_elim (λ (one : (answer.entry).kind ≡ PART_KIND). absurd (no_kind 1 (λ x. absurd (omega (arith, x))) (λ x. absurd (omega (arith, x))) one))
          (λ (seven : (answer.entry).kind ≡ REMOTE_FAULT_KIND). absurd (no_kind 7 (λ x. absurd (omega (arith, x))) (λ x. absurd (omega (arith, x))) seven)) at;
      unread = λ _ _. not_called;
      halted = in_any old.fault not_called;
      tested = λ one. absurd (no_kind 1 (λ x. absurd (omega (arith, x))) (λ x. absurd (omega (arith, x))) one);
    }

    pub refused_gives : RemoteGives e old act answer
    refused_gives = λ one. absurd (no_kind 1 (λ x. absurd (omega (arith, x))) (λ x. absurd (omega (arith, x))) one)

  -- ---- it was begun

  module _ (mid : Core D E C) (at : Place) (lt : k < 64) (formed : IsWellFormed act) (admitted : IsAdmitted clock.readings old mid k at) (filled : FillsUp old mid k act (At at))
      (remote : Option E) (ended : Result Reply Stop) (tells : TellsEnd mid.parts mid.remote k act ended) (stays : RemoteStays e mid.remote remote) (failed : FailsBy e mid.remote remote ended)
      (unread : UnreadWhere mid.parts mid.remote remote k act) (tested : IfOk ended (IsTested act)) (gives : GivesRemote e mid.remote act ended) (kind : IfOk ended (λ reply. IsTrue (may_give act reply))) (text : MatchResult ended ReplyHasText StopHasText)
      (settled : SettlesRead d (record mid { remote = remote }) new at.lane at.moment ended answer) where
    -- its tests, by the core as it was before
    before : read_told act (is_some mid.remote) (kept_at mid.parts k) ≡ read_told act (is_some old.remote) (kept_at old.parts k)
    before =
        let b = (admitted.ready).begun in
        ap (λ t. read_told act t (kept_at mid.parts k)) (ap is_some b.remote) ∙ ap (λ (p : Parts D). read_told act (is_some old.remote) (kept_at p k)) b.parts

    -- and of a history
    of_history : (h : History) → StandsFor d clock.readings old h → rules.may_read h.remote (world h).store k act ≡ read_told act (is_some mid.remote) (kept_at mid.parts k)
    of_history h s =
        told_same old.parts (world h).store k h.remote s.shows lt act is formed ∙ ap (λ t. read_told act t (kept_at old.parts k)) (sym s.remote) ∙ sym before

    settles : SettlesRead d (record mid { remote = remote }) new k at.moment ended answer
    settles = subst (λ n. SettlesRead d (record mid { remote = remote }) new n at.moment ended answer) admitted.lane_is settled

    kind_is : (answer.entry).kind ≡ kind_by ended
    kind_is = ap (λ x. x.kind) settled.entry

    -- where its tests refused it the remote is as it was
    handed : (r : Result Reply Stop) → TellsEnd mid.parts mid.remote k act r → kind_by r ≡ 0 → remote ≡ mid.remote
    handed (Ok reply) tells zero = absurd (omega (arith, zero))
    handed (Err (stops.Refused r)) tells zero = unread r tells
    handed (Err stops.NoMemory) tells zero = absurd (omega (arith, zero))
    handed (Err stops.DiskFailed) tells zero = absurd (omega (arith, zero))

    pub done_keeps : ActKeeps d old new k act answer
    done_keeps = read_keeps d e clock old mid new k at.moment act is remote ended answer lt formed admitted.ready filled settles (handed ended tells)

    fails_by : (r : Result Reply Stop) → FailsBy e mid.remote remote r → FailsWhere e mid.remote remote r
    fails_by (Ok reply) failed = tt
    fails_by (Err (stops.Refused r)) failed = tt
    fails_by (Err stops.NoMemory) failed = tt
    fails_by (Err stops.DiskFailed) failed = failed refl

    -- of the remote as it was before
    was : (r : Result Reply Stop) → GivesRemote e mid.remote act r → GivesRemote e old.remote act r
    was r gives = subst (λ (x : Option E). GivesRemote e x act r) ((admitted.ready).begun).remote gives

    right_by : (r : Result Reply Stop) → TellsEnd mid.parts mid.remote k act r → GivesRemote e mid.remote act r → (h : History) → StandsFor d clock.readings old h → ShowsRemote e old.remote h.remote → GivesRight h k act r
    right_by (Ok reply) tells gives h s shown = (of_history h s ∙ tells, given_right e old.remote h.remote act reply is formed shown (was (Ok reply) gives))
    right_by (Err (stops.Refused r)) tells gives h s shown = of_history h s ∙ tells
    right_by (Err stops.NoMemory) tells gives h s shown = tt
    right_by (Err stops.DiskFailed) tells gives h s shown = of_history h s ∙ tells

    pub done_applies : CoreApplies d e clock old new k act answer
    done_applies =
        read_applies d e clock old mid new k at.moment act is remote ended answer lt formed admitted.ready filled settles (handed ended tells)
        (ends_fit act (is_some mid.remote) (kept_at mid.parts k) ended is formed tells kind text) stays (stays_there e mid.remote remote stays) (fails_by ended failed) (right_by ended tells gives)

    -- a refusal by its tests is that of each history, whatever the remote is
    refused_right : (r : Result Reply Stop) → TellsEnd mid.parts mid.remote k act r → kind_by r ≡ 0 → (h : History) → StandsFor d clock.readings old h → GivesRight h k act r
    refused_right (Ok reply) tells zero h s = absurd (omega (arith, zero))
    refused_right (Err (stops.Refused r)) tells zero h s = of_history h s ∙ tells
    refused_right (Err stops.NoMemory) tells zero h s = absurd (omega (arith, zero))
    refused_right (Err stops.DiskFailed) tells zero h s = absurd (omega (arith, zero))

    pub done_alone : reads_remote act answer ≡ false → ActApplies d clock old new k act answer
    done_alone alone =
        read_alone d e clock old mid new k at.moment act is remote ended answer lt formed admitted.ready filled settles (handed ended tells) done_applies
        (stays_there e mid.remote remote stays)
        (refused_right ended tells (refused d e clock old mid new k at.moment act is remote ended answer lt formed admitted.ready filled settles (handed ended tells) alone))

    not_read : (n : ℕ) → (answer.entry).kind ≡ n → (n ≡ 1 → ⊥) → (n ≡ 7 → ⊥) → ((answer.entry).kind ≡ PART_KIND) ⊎ ((answer.entry).kind ≡ REMOTE_FAULT_KIND) → ⊥
    not_read n kind one seven at = ⊎_elim (λ (x : (answer.entry).kind ≡ PART_KIND). one (sym kind ∙ x)) (λ (x : (answer.entry).kind ≡ REMOTE_FAULT_KIND). seven (sym kind ∙ x)) at

    tested_by : (r : Result Reply Stop) → IfOk r (IsTested act) → (answer.entry).kind ≡ kind_by r → answer.reply ≡ Some (reply_by r) → (answer.entry).kind ≡ PART_KIND → IfSome answer.reply (IsTested act)
    tested_by (Ok reply) tests kind told one = subst (λ (x : Option Reply). IfSome x (IsTested act)) (sym told) tests
    tested_by (Err (stops.Refused r)) tests kind told one = absurd (omega (arith, kind, one))
    tested_by (Err stops.NoMemory) tests kind told one = absurd (omega (arith, kind, one))
    tested_by (Err stops.DiskFailed) tests kind told one = absurd (omega (arith, kind, one))

    chunk_tested : (answer.entry).kind ≡ PART_KIND → IfSome answer.reply (IsTested act)
    chunk_tested = tested_by ended tested kind_is settled.reply_is

    -- where its tests refuse the read the remote is not called
    not_called_where : UnreadWhere old.parts old.remote new.remote k act
    not_called_where refusal told = settled.remote ∙ unread refusal (before ∙ told) ∙ ((admitted.ready).begun).remote

    -- the disk had not failed
    no_halt : IfSome old.fault (λ _. new.remote ≡ old.remote)
    no_halt = subst (λ (o : Option ℕ). IfSome o (λ _. new.remote ≡ old.remote)) (sym (admitted.ready).no_fault) tt

    tells_by : (r : Result Reply Stop) → TellsEnd mid.parts mid.remote k act r → (answer.entry).kind ≡ kind_by r → answer.reply ≡ Some (reply_by r) → RemoteTells old new k act answer
    tells_by (Ok reply) tells kind told = record { refused = λ zero. absurd (omega (arith, kind, zero)); reads = λ _. sym before ∙ tells; unread = not_called_where; halted = no_halt; tested = chunk_tested }
    tells_by (Err (stops.Refused r)) tells kind told = record {
      refused = λ _. (r, told, sym before ∙ tells);
      reads = λ at. absurd (not_read 0 kind (λ x. absurd (omega (arith, x))) (λ x. absurd (omega (arith, x))) at);
      unread = not_called_where;
      halted = no_halt;
      tested = chunk_tested;
    }
    tells_by (Err stops.NoMemory) tells kind told = record {
      refused = λ zero. absurd (omega (arith, kind, zero));
      reads = λ at. absurd (not_read 2 kind (λ x. absurd (omega (arith, x))) (λ x. absurd (omega (arith, x))) at);
      unread = not_called_where;
      halted = no_halt;
      tested = chunk_tested;
    }
    tells_by (Err stops.DiskFailed) tells kind told = record { refused = λ zero. absurd (omega (arith, kind, zero)); reads = λ _. sym before ∙ tells; unread = not_called_where; halted = no_halt; tested = chunk_tested }

    pub done_tells : RemoteTells old new k act answer
    done_tells = tells_by ended tells kind_is settled.reply_is

    given_from : (reply : Reply) → answer.reply ≡ Some reply → (o : Option E) → GivesRemote e o act (Ok reply) → IfSome o (λ r. e.honest r → IfSome answer.reply (GivesFrom (e.content r) act))
    given_from reply told None gives = tt
    given_from reply told (Some r) gives = λ h. subst (λ x. IfSome x (GivesFrom (e.content r) act)) (sym told) (gives h)

    given_by : (r : Result Reply Stop) → GivesRemote e old.remote act r → (answer.entry).kind ≡ kind_by r → answer.reply ≡ Some (reply_by r) → RemoteGives e old act answer
    given_by (Ok reply) gives kind told = λ one. given_from reply told old.remote gives
    given_by (Err (stops.Refused r)) gives kind told = λ one. absurd (omega (arith, kind, one))
    given_by (Err stops.NoMemory) gives kind told = λ one. absurd (omega (arith, kind, one))
    given_by (Err stops.DiskFailed) gives kind told = λ one. absurd (omega (arith, kind, one))

    pub done_gives : RemoteGives e old act answer
    done_gives = given_by ended (was ended gives) kind_is settled.reply_is
