-- ABORT is the store's, and what it and a lane's end change.
use Rattle.std.proofs.Common.{◌≡◌, ◌<◌, ℕ, true, false, List, Option, Ok, Err, IsErrAnd, refl, sym, ap, subst, ◌∙◌, inl, inr, ⊎_elim, arith, set}
use Rattle.std.specs.Prelude.{IsErrOf, IsErr, IsOk, is_err, is_ok}
use Rattle.std.specs.FinMap.{get}
use Rattle.sha2.specs.Sha256.{sha256}
use Rattle.blob_codec.specs.Blob as blobs
use Rattle.disk_trait.specs.Files.{Files}
use Rattle.disk_trait.specs.Disk.{Same, Serves}
use Rattle.disk_trait.specs.Effects.{LeavesBy}
use Rattle.disk_trait.specs.Laws.{same_files}
use Rattle.disk_trait.specs.Runs.{leaves_as}
use Rattle.disk_trait.specs.declared.disk.Disk.{Ghosts}
use Rattle.disk_trait.specs.declared.disk.DiskError.TheVariants as disks
use Rattle.disk_trait.specs.declared.disk.DiskError.{DiskError}
use Rattle.disk_trait.specs.declared.disk.Failed.{Failed}
use Rattle.std.specs.Prelude.{Result}
use Rattle.std.specs.List.{Contains}
use Rattle.store_types.specs.declared.refusal.Refusal.{Refusal}
use Rattle.store_files.specs.Folder.{chunk_name}
use Rattle.snapshot_files.specs.Forgotten.{MayLose, without}
use Rattle.wire_commands.specs.declared.command.Command.TheVariants.{Abort}
use Rattle.wire_commands.specs.declared.reply.Reply.{Reply}
use Rattle.wire_commands.specs.declared.reply.Reply.TheVariants.{Done}
use Rattle.store_model.specs.Store as model
use Rattle.store_model.specs.Store.{Store, Writer, writer, session, ended}
use Rattle.store_model.specs.WriterSteps.{abort}
use Rattle.store_model.specs.Steps.{outcome, answered}
use Rattle.store_files.specs.Archive.{Snapshot}
use Rattle.store_history.specs.History.{World, act_outcome}
use Rattle.core_state.specs.Stops.{ended_as}
use Rattle.store_history.specs.declared.act.Act.{Act}
use Rattle.store_history.specs.declared.act.Act.TheVariants as acts
use Rattle.core_state.specs.declared.entering.Place.{Place}
use Rattle.core_state.specs.declared.kept.Session.{Session}
use Rattle.core_state.specs.declared.kept.Session.TheVariants.{Idle, Writer as Writes, Reader}
use Rattle.core_state.specs.declared.parts.Parts.{Parts}
use Rattle.store_stops.specs.declared.stop.Stop.{Stop}
use Rattle.store_stops.specs.declared.stop.Stop.TheVariants.{DiskFailed}
use Rattle.core_state.specs.Changes.{Change, drops, IsFirm, LeavesChange, after, by_writer, put_paths}
use Rattle.core_state.specs.Chunks.{AddsChunks}
use Rattle.core_state.specs.Commands.{ActDoes, ActLeaves, OthersStay}
use Rattle.core_state.specs.Holds.{Does, Holds, Shows}
use Rattle.core_state.specs.Unchanged.{SameKept}
use Rattle.core_state.specs.Closing.{HasEnded}
use Rattle.core_state.specs.Wanted.{session_at}
use Rattle.core_state.specs.declared.indexes.Indexes.TheVariants.{Unread}
use Rattle.core_state.proofs.Rows.{rows_but}
use Rattle.core_state.proofs.Commanding.{failed_does, failed_leaves, writes_does, writes_leaves, not_still}
use Rattle.core_state.proofs.Texts.{done_has_text}
use Rattle.core_writer.specs.Ended.{files_in}
use Rattle.core_writer.proofs.EndingLemmas.{has_ended, without_less}

module _ (s : Store) (lane moment : ℕ) where
  pub not_writing : (r : Refusal) → model.want_writer (session s lane) ≡ Err r → outcome s lane moment Abort ≡ Err r
  unfolding outcome abort
  not_writing r e = rw e refl

  pub aborts : (w : Writer) → session s lane ≡ writer w → outcome s lane moment Abort ≡ Ok (ended s lane, Done)
  unfolding outcome abort
  aborts w at = rw at refl

pub never_failed : {P : Type 0} (r : Result (Unit {0}) Failed) (e : Failed) → r ≡ Err e → IsOk r → P
never_failed r e was ok = absurd (false_true (sym (ap is_ok was) ∙ ok))
  where
    false_true : false ≡ true → ⊥
    false_true e = cc

-- ---- what has changed

-- the change of the end of a session
abbrev pub ends_by : Session → Change
ends_by x = by_writer x (λ w. drops (put_paths w.files))

lose_none : (b c : Files) → MayLose (put_paths (files_in Idle)) b c → c ≡ b
lose_none b c lose = same_files c b (λ q. ⊎_elim {C = get c q ≡ get b q} (λ same. same) (λ gone. absurd (empty q gone.1)) (lose q))
  where
    empty : (q : List ℕ) → Contains (put_paths (files_in Idle)) q → ⊥
    empty q (k, lt, is) = omega (arith, lt)

pub adds_less : (m n : Files) (paths : List (List ℕ)) (act : Act) → n ≡ without paths m → AddsChunks m n act
adds_less m n paths act is p there = inl (without_less paths m (chunk_name (sha256 p)) (blobs.blob p) (sym (ap (λ f. get f (chunk_name (sha256 p))) is) ∙ there))

pub after_end : (x : Session) (m n : Files) → n ≡ without (put_paths (files_in x)) m → n ≡ after (ends_by x) m
after_end Idle m n e = e
after_end (Writes w) m n e = e
after_end (Reader r) m n e = e

module _ {D : Type 0} (d : Ghosts D) where
  same_leaves : (old new : D) → LeavesBy d old new (MayLose (put_paths (files_in Idle))) → LeavesBy d old new Same
  same_leaves old new (inl same) = inl same
  same_leaves old new (inr steps) = inr (leaves_as steps (λ c x. (x.0, x.1, lose_none x.0 c x.2)))

  pub leaves_end : (x : Session) (old new : D) → LeavesBy d old new (MayLose (put_paths (files_in x))) → LeavesChange d old new (ends_by x)
  leaves_end Idle old new leaves = same_leaves old new leaves
  leaves_end (Writes w) old new leaves = leaves
  leaves_end (Reader r) old new leaves = same_leaves old new leaves

  pub firm_end : (x : Session) (old new : D) → IsFirm d old new (ends_by x)
  firm_end Idle old new = tt
  firm_end (Writes w) old new = tt
  firm_end (Reader r) old new = tt

  -- ---- a lane's end

  abbrev end_failed : Result (Unit {0}) DiskError
  end_failed = Err disks.Failed

  no_memory : {P : Type 0} → IsErrOf end_failed disks.NoMemory → P
  no_memory e = cc

  pub end_does : (old new : Parts D) (at : Place) (removed : D) (failed : Type 0) → at.lane < 64 → new.disk ≡ removed → Serves d.honest d.faults old.disk removed failed
      → (d.honest old.disk → d.content removed ≡ without (put_paths (files_in (session_at old at.lane))) (d.content old.disk))
      → ((s : Store) → Shows old s → Shows new (ended s at.lane)) → ActDoes d old new at acts.End (Ok Done)
  end_does old new at removed failed lt same serves content shows =
      let after_it : Serves d.honest d.faults old.disk new.disk failed = subst (λ x. Serves d.honest d.faults old.disk x failed) (sym same) serves in
      writes_does d old new at acts.End Done failed after_it done_has_text refl tt
      (λ safe s h.
      let holds = has_ended d old new s at.lane lt after_it.kept (λ honest. ap d.content same ∙ content honest) (shows s h.shows) h in
      (ended s at.lane, refl, holds.shows, holds.files))

  pub end_leaves : (old new : Parts D) (at : Place) (removed : D) → new.disk ≡ removed → LeavesBy d old.disk removed (MayLose (put_paths (files_in (session_at old at.lane))))
      → (d.honest old.disk → d.content removed ≡ without (put_paths (files_in (session_at old at.lane))) (d.content old.disk))
      → new.catalogue.listed ≡ old.catalogue.listed → HasEnded new at.lane → new.indexes.items ≡ set old.indexes.items at.lane Unread → OthersStay old new at.lane → ActLeaves d old new at acts.End (Ok Done)
  end_leaves old new at removed same crash content c idle emptied others =
      let reads : d.honest old.disk → d.content new.disk ≡ without (put_paths (files_in (session_at old at.lane))) (d.content old.disk) = λ h. ap d.content same ∙ content h in
      writes_leaves d old new at acts.End Done tt refl
      (λ h. after_end (session_at old at.lane) (d.content old.disk) (d.content new.disk) (reads h))
      (subst (λ x. LeavesChange d old.disk x (ends_by (session_at old at.lane))) (sym same) (leaves_end (session_at old at.lane) old.disk removed crash))
      (firm_end (session_at old at.lane) old.disk new.disk) c (not_still acts.End refl)
      (λ s h. adds_less (d.content old.disk) (d.content new.disk) (put_paths (files_in (session_at old at.lane))) acts.End (reads h.honest)) (λ _. idle) (λ writes. cc)
      (rows_but old new.indexes.items at.lane acts.End Unread refl emptied) others

  pub end_fails : (old new : Parts D) (at : Place) (removed result : Result (Unit {0}) Failed) (e f : Failed) → removed ≡ Err e → IsErrAnd result (λ x. x ≡ f) → Serves d.honest d.faults old.disk new.disk (IsErr removed) → SameKept old new
      → ActDoes d old new at acts.End (ended_as result)
  end_fails old new at removed (Ok u) e f was is serves kept = absurd is
  end_fails old new at removed (Err x) e f was is serves kept =
      failed_does d old new at acts.End end_failed disks.Failed (Err DiskFailed) refl refl
      (record { kept = serves.kept; count = serves.count; cause = λ _. serves.cause (ap is_err was) }) (λ none. no_memory none) kept

  pub end_failed_leaves : (old new : Parts D) (at : Place) (result : Result (Unit {0}) Failed) (f : Failed) → IsErrAnd result (λ x. x ≡ f) → LeavesBy d old.disk new.disk (MayLose (put_paths (files_in (session_at old at.lane)))) → SameKept old new
      → ActLeaves d old new at acts.End (ended_as result)
  end_failed_leaves old new at (Ok u) f is crash kept = absurd is
  end_failed_leaves old new at (Err x) f is crash kept =
      failed_leaves d old new at acts.End end_failed disks.Failed (Err DiskFailed) refl refl (λ none. no_memory none) (λ none. no_memory none)
      (leaves_end (session_at old at.lane) old.disk new.disk crash) kept refl (λ none closing. no_memory none) (λ s h. tt)

  -- ---- ABORT: a writer ends as a lane does

  abort_as : (new : Parts D) (remote : Option (List Snapshot)) (w : World) (s : Store) (lane moment : ℕ) (v : Writer) → session s lane ≡ writer v
      → Does d new s (answered s (act_outcome remote (record w { store = s }) lane moment acts.End)) (Ok Done)
      → Does d new s (answered s (act_outcome remote (record w { store = s }) lane moment (acts.Plain Abort))) (Ok Done)
  unfolding act_outcome
  abort_as new remote w s lane moment v at_lane done = subst (λ o. Does d new s (answered s o) (Ok Done)) (sym (aborts s lane moment v at_lane)) done

  pub abort_does : (old new : Parts D) (at : Place) (result : Result (Unit {0}) Failed) → result ≡ Ok tt → ActDoes d old new at acts.End (ended_as result)
      → ((s : Store) → Holds d old s → (w : Writer) × (session s at.lane ≡ writer w)) → ActDoes d old new at (acts.Plain Abort) (Ok Done)
  abort_does old new at result was ends is = by_end (subst (λ r. ActDoes d old new at acts.End (ended_as r)) was ends)
    where
      by_end : ActDoes d old new at acts.End (Ok Done) → ActDoes d old new at (acts.Plain Abort) (Ok Done)
      by_end ends = record {
        serves = ends.serves;
        text = ends.text;
        answers = refl;
        plain = tt;
        step = λ safe remote w s h. abort_as new remote w s at.lane at.moment (is s h).0 (is s h).1 (ends.step tt remote w s h);
      }

  pub abort_leaves : (old new : Parts D) (at : Place) (result : Result (Unit {0}) Failed) → result ≡ Ok tt → ActLeaves d old new at acts.End (ended_as result) → ActLeaves d old new at (acts.Plain Abort) (Ok Done)
  abort_leaves old new at result was ends = by_end (subst (λ r. ActLeaves d old new at acts.End (ended_as r)) was ends)
    where
      by_end : ActLeaves d old new at acts.End (Ok Done) → ActLeaves d old new at (acts.Plain Abort) (Ok Done)
      by_end ends = record {
        unchanged = tt;
        no_disk_call = λ e. cc;
        reads = λ e. cc;
        content = ends.content;
        crash = ends.crash;
        firm = ends.firm;
        listed = ends.listed;
        admin = λ e. cc;
        adds = ends.adds;
        passed_its_tests = λ failed s h. tt;
        closed = λ _. (ends.ended refl).session;
        ended = λ _. ends.ended refl;
        writes = λ writes. cc;
        others = ends.others;
        rows = ends.rows;
      }

  -- the disk failed
  pub abort_failed_does : (old new : Parts D) (at : Place) (told : Result (Unit {0}) Failed) (e : Failed) (result : Result Reply Stop) → IsErrAnd result (λ x. x ≡ DiskFailed) → told ≡ Err e → ActDoes d old new at acts.End (ended_as told)
      → ActDoes d old new at (acts.Plain Abort) result
  abort_failed_does old new at told e result stops was ends = by_end result stops (subst (λ r. ActDoes d old new at acts.End (ended_as r)) was ends)
    where
      by_end : (r : Result Reply Stop) → IsErrAnd r (λ x. x ≡ DiskFailed) → ActDoes d old new at acts.End (Err DiskFailed) → ActDoes d old new at (acts.Plain Abort) r
      by_end (Ok reply) is ends = absurd is
      by_end (Err x) is ends = subst (λ y. ActDoes d old new at (acts.Plain Abort) (Err y)) (sym is) (record {
        serves = ends.serves;
        text = tt;
        answers = tt;
        plain = tt;
        step = λ safe remote w s h. ends.step tt remote w s h;
      })

  pub abort_failed_leaves : (old new : Parts D) (at : Place) (told : Result (Unit {0}) Failed) (e : Failed) (result : Result Reply Stop) → IsErrAnd result (λ x. x ≡ DiskFailed) → told ≡ Err e → ActLeaves d old new at acts.End (ended_as told)
      → ActLeaves d old new at (acts.Plain Abort) result
  abort_failed_leaves old new at told e result stops was ends = by_end result stops (subst (λ r. ActLeaves d old new at acts.End (ended_as r)) was ends)
    where
      by_end : (r : Result Reply Stop) → IsErrAnd r (λ x. x ≡ DiskFailed) → ActLeaves d old new at acts.End (Err DiskFailed) → ActLeaves d old new at (acts.Plain Abort) r
      by_end (Ok reply) is ends = absurd is
      by_end (Err x) is ends = subst (λ y. ActLeaves d old new at (acts.Plain Abort) (Err y)) (sym is) (record {
        unchanged = ends.unchanged;
        no_disk_call = λ e. cc;
        reads = λ e. cc;
        content = ends.content;
        crash = ends.crash;
        firm = tt;
        listed = ends.listed;
        admin = λ e. cc;
        adds = ends.adds;
        passed_its_tests = λ failed s h. tt;
        closed = λ _. tt;
        ended = λ _. tt;
        writes = λ _. tt;
        others = ends.others;
        rows = ends.rows;
      })
