-- What an act leaves of images that stand for the list of now, by the act.
use Rattle.std.proofs.Common.{◌≡◌, ◌<◌, ◌≤◌, ◌⊎◌, ⊎_elim, inl, inr, ℕ, zero, suc, true, false, ◌==◌, map, List, Option, Some, None, Result, Ok, Err, IsOk, refl, sym, ap, subst, ◌∙◌, arith}
use Rattle.std.specs.Prelude.{IfSome}
use Rattle.disk_trait.specs.Disk.{Now}
use Rattle.disk_trait.specs.Files.{Files}
use Rattle.disk_trait.specs.declared.disk.Disk.{Ghosts}
use Rattle.store_types.specs.declared.names.Digest32.{Digest32}
use Rattle.store_types.specs.declared.names.SnapshotKey.{SnapshotKey}
use Rattle.store_types.specs.declared.refusal.Refusal.{Refusal}
use Rattle.store_types.specs.declared.refusal.Refusal.TheVariants as refusals
use Rattle.store_files.specs.Archive.{Snapshot}
use Rattle.store_files.specs.Folder.{HasWholeChunks, chunk_name, file_path, manifest_path}
use Rattle.store_files.specs.Manifest.{Manifest}
use Rattle.store_types.specs.Names.{key_of}
use Rattle.store_types.specs.declared.order.TheConstants.{FAULT_KIND}
use Rattle.wire_commands.specs.declared.command.Command.TheVariants.{Finish, Forget}
use Rattle.wire_commands.specs.declared.reply.Reply.{Reply}
use Rattle.wire_commands.specs.declared.reply.Reply.TheVariants as replies
use Rattle.store_model.specs.AdminSteps.{forget}
use Rattle.store_model.specs.Manifests.{finish_check}
use Rattle.store_model.specs.Stands.{IsSnapshot, StandsFor}
use Rattle.store_model.specs.Steps.{answered, outcome}
use Rattle.store_model.specs.Store as model
use Rattle.store_model.specs.Store.{Store, Outcome, session, insert_snapshot, snapshot_named, without_snapshot}
use Rattle.store_model.specs.Weave.{fault_refusal}
use Rattle.store_model.specs.WriterSteps.{finish, snapshot_of}
use Rattle.store_model.specs.Done.{finished}
use Rattle.store_history.specs.declared.act.Act.{Act}
use Rattle.store_history.specs.declared.act.Act.TheVariants.{Plain, Chunk}
use Rattle.store_history.specs.declared.act.Answer.{Answer}
use Rattle.store_history.specs.Acts.{stepping, class_of, IsWellFormed}
use Rattle.store_history.specs.History.{World, act_outcome, kind_of, moved}
use Rattle.store_history.specs.Legal.{Right}
use Rattle.snapshot_files.specs.Standing.{Completes}
use Rattle.snapshot_files.proofs.StandingLemmas.{stands_completed, stands_completing, stands_forgetting, stands_forgotten}
use Rattle.chunk_store.specs.Pieces.{with_chunk}
use Rattle.core_state.specs.declared.kept.Session.{Session}
use Rattle.core_state.specs.declared.kept.Session.TheVariants.{Idle, Writer, Reader}
use Rattle.core_state.specs.declared.state.Core.{Core}
use Rattle.core_state.specs.Applies.{ActKeeps}
use Rattle.core_state.specs.Changes.{Change, IsFirm, LeavesChange, MayLeave, after, by_reply, by_writer, change_of, chunk_put, drops, finishes, forgets, installs, stays, stores, undone}
use Rattle.core_state.specs.Commands.{IsNoRefusal, change_at, is_step}
use Rattle.core_state.specs.Holds.{Holds}
use Rattle.core_state.specs.Kept.{KeptAt, kept_at}
use Rattle.core_state.specs.PassedTests.{PassesItsTests}
use Rattle.core_state.specs.Recovers.{TellsMoments}
use Rattle.core_state.specs.Wanted.{session_at}
use Rattle.core_state.proofs.Calls.{later}
use Rattle.core_state.proofs.Commanding.{session_shown}
use Rattle.core_state.proofs.Completing.{FinishIs, completes, fails as finish_fails, finish_changes, finish_is, gives as finish_gives}
use Rattle.core_state.proofs.Removing.{ForgetIs, are_files, beside, fails as forget_fails, forget_changes, forget_is, forgot, found_key, found_whole, gives as forget_gives}
use Rattle.core_state.proofs.SameSnapshots.{moves_manifest, next_keeps, next_store}
use Rattle.core_state.proofs.Sparing.{Spares, spares_all, spares_change, spares_reply, stands_spared}
use Rattle.core_state.proofs.Storing.{stands_storing, whole_storing}

-- Where each image of now stands for the first list, each since stands for it or for the second, and once the act is done each for the second.
pub record Leads {D : Type 0} (d : Ghosts D) (old new : D) (done : Type 0) (first second : List Snapshot) : Type 0 where
  pub each : Now d.calls d.images old (λ b. StandsFor b first) → (t : ℕ) (c : Files) → d.calls old ≤ t → d.images new t c → StandsFor c first ⊎ StandsFor c second
  pub firm : done → Now d.calls d.images old (λ b. StandsFor b first) → Now d.calls d.images new (λ c. StandsFor c second)

-- ---- by the change

may_stay : (change : Change) (read m : Files) → MayLeave change read m m
may_stay stays read m = refl
may_stay undone read m = refl
may_stay (installs path bytes) read m = inl (λ q ne. refl)
may_stay (stores name bytes) read m = inl refl
may_stay (drops paths) read m = λ q. inl refl
may_stay (finishes path bytes) read m = inl (λ q ne. refl)
may_stay (forgets manifest paths) read m = inl refl

module _ {D : Type 0} (d : Ghosts D) (told : TellsMoments d) (old new : D) (done : Type 0) where
  -- each image since is one of now after the change
  since : (change : Change) → LeavesChange d old new change → (t : ℕ) (c : Files) → d.calls old ≤ t → d.images new t c → (b : Files) × d.images old (d.calls old) b × MayLeave change (d.content old) b c
  since change (inl same) t c le image =
      let was : d.images old t c = subst (λ (x : D). d.images x t c) same image in
      let last = (told old t c was).1 in
      let now : t ≡ d.calls old = omega (arith, last, le) in
      (c, subst (λ n. d.images old n c) now was, may_stay change (d.content old) c)
  since change (inr steps) t c le image = steps.each t c le image

  pub leads_same : (first second : List Snapshot) (change : Change) → LeavesChange d old new change → second ≡ first → ((b c : Files) → MayLeave change (d.content old) b c → StandsFor b first → StandsFor c first)
      → Leads d old new done first second
  leads_same first second change crash same keeps = record {
    each = λ now t c le image. let x = since change crash t c le image in inl (keeps x.0 c x.2 (now x.0 x.1));
    firm = λ _ now c image. let x = since change crash (d.calls new) c (later d old new _ crash) image in subst (StandsFor c) (sym same) (keeps x.0 c x.2 (now x.0 x.1));
  }

  pub leads_stays : (first second : List Snapshot) (change : Change) → LeavesChange d old new change → change ≡ stays → second ≡ first → Leads d old new done first second
  leads_stays first second change crash none same =
      leads_same first second stays (subst (LeavesChange d old new) none crash) same (λ b c e s. subst (λ (m : Files). StandsFor m first) (sym e) s)

  pub leads_finish : (first : List Snapshot) (x : Snapshot) (path text : List ℕ) → Completes (d.content old) first x path text → LeavesChange d old new (finishes path text)
      → (done → IsFirm d old new (finishes path text)) → Leads d old new done first (insert_snapshot x first)
  leads_finish first x path text full crash firm = record {
    each = λ now t c le image. let y = since (finishes path text) crash t c le image in stands_completing (d.content old) first x path text full y.0 c y.2 (now y.0 y.1);
    firm = λ is now c image.
        let y = firm is c image in
        subst (λ (m : Files). StandsFor m (insert_snapshot x first)) (sym y.2.1) (stands_completed (d.content old) first x path text full y.0 y.2.0 (now y.0 y.1));
  }

  pub leads_forget : (first : List Snapshot) (x : Snapshot) → IsSnapshot x → LeavesChange d old new (forgets (manifest_path x.key) (map (file_path x.key) (beside x)))
      → (done → IsFirm d old new (forgets (manifest_path x.key) (map (file_path x.key) (beside x)))) → Leads d old new done first (without_snapshot x.key first)
  leads_forget first x is crash firm = record {
    each = λ now t c le image.
        let y = since (forgets (manifest_path x.key) (map (file_path x.key) (beside x))) crash t c le image in
        stands_forgetting first x.key (beside x) is.key (are_files x is) y.0 c y.2 (now y.0 y.1);
    firm = λ so now c image.
        let y = firm so c image in
        stands_forgotten first x.key (beside x) is.key (are_files x is) (d.content old) y.0 c y.2 (now y.0 y.1);
  }

-- ---- what came of an act

data CameTo (R : Option (List Snapshot)) (w : World) (k m : ℕ) (a : Act) (r : Option Reply) (n : ℕ) : Type 0 where
  done : (n == 5) ≡ false → r ≡ Some (answered w.store (act_outcome R w k m a)).1 → next_store R w k m a n ≡ (answered w.store (act_outcome R w k m a)).0 → CameTo R w k m a r n
  short : r ≡ Some (replies.Refused refusals.NoMemory) → next_store R w k m a n ≡ w.store → CameTo R w k m a r n
  faulted : (n == 5) ≡ true → r ≡ Some (replies.Refused refusals.DiskFault) → next_store R w k m a n ≡ (answered w.store (act_outcome R w k m a)).0 → CameTo R w k m a r n

came_to : (R : Option (List Snapshot)) (w : World) (k m : ℕ) (a : Act) (r : Option Reply) (n : ℕ) → w.fault ≡ None → Right R w k m a r stepping (kind_of n) → CameTo R w k m a r n
unfolding moved
came_to R w k m a r zero none right = done refl right.1 refl
came_to R w k m a r (suc zero) none right = absurd right
came_to R w k m a r (suc (suc zero)) none right = short right.0 refl
came_to R w k m a r (suc (suc (suc zero))) none right = absurd right
came_to R w k m a r (suc (suc (suc (suc zero)))) none right = absurd right
came_to R w k m a r (suc (suc (suc (suc (suc zero))))) none right = faulted refl (right ∙ ap (λ f. Some (replies.Refused (fault_refusal f))) none) refl
came_to R w k m a r (suc (suc (suc (suc (suc (suc zero)))))) none right = absurd right
came_to R w k m a r (suc (suc (suc (suc (suc (suc (suc zero))))))) none right = absurd right
came_to R w k m a r (suc (suc (suc (suc (suc (suc (suc (suc n)))))))) none right = absurd right

-- what is known of an act, and of its answer, where the disk had not failed
pub record IsCalm {D E C : Type 0} (d : Ghosts D) (old new : Core D E C) (R : Option (List Snapshot)) (w : World) (act : Act) (answer : Answer) : Type 0 where
  pub none : old.fault ≡ None
  pub none_there : w.fault ≡ None
  pub inside : (answer.entry).lane < 64
  pub keeps : ActKeeps d old new (answer.entry).lane act answer
  -- it is no mark, visit or end of a collector
  pub no : is_step act ≡ false
  pub holds : Holds d old.parts w.store
  pub formed : IsWellFormed act
  pub right : Right R w (answer.entry).lane (answer.entry).moment act answer.reply (class_of act) (kind_of (answer.entry).kind)
  -- no fault came
  pub unhurt : ((answer.entry).kind == FAULT_KIND) ≡ false → answer.reply ≡ Some (replies.Refused refusals.DiskFault) → ⊥
  pub whole : ((answer.entry).kind == FAULT_KIND) ≡ false → HasWholeChunks (d.content (new.parts).disk)
  -- one did
  pub passed_its_tests : answer.reply ≡ Some (replies.Refused refusals.DiskFault) → PassesItsTests act w.store (answer.entry).lane

pub stays_refused : (change : Change) (r : Refusal) → (r ≡ refusals.DiskFault → ⊥) → by_reply change (Some (replies.Refused r)) ≡ stays
stays_refused change refusals.DiskFault other = absurd (other refl)
stays_refused change r other = refl

true_false : true ≡ false → ⊥
true_false e = cc

err_ok : {A E : Type 0} (r : Result A E) (e : E) → r ≡ Err e → IsOk r → ⊥
err_ok (Ok x) e is ok = cc
err_ok (Err x) e is ok = cc

-- the change of a CHUNK, with its reply
abbrev Puts : Digest32 → Result (List ℕ) Refusal → Change → Type 0
Puts digest checked change = (change ≡ stays) ⊎ ((bytes : List ℕ) × (checked ≡ Ok bytes) × (change ≡ stores (chunk_name digest.0) bytes))

chunk_change : (digest : Digest32) (checked : Result (List ℕ) Refusal) (k : KeptAt) (reply : Option Reply)
    → Puts digest checked (by_reply (change_of (Chunk digest checked) k) reply)
chunk_change digest checked k reply = by_session k.session
  where
    stays_by : (r : Option Reply) → by_reply stays r ≡ stays
    stays_by None = refl
    stays_by (Some (replies.Refused refusals.DiskFault)) = refl
    stays_by (Some (replies.Refused refusal)) = refl
    stays_by (Some r) = refl

    kept_by : (change : Change) (r : Option Reply) → (by_reply change r ≡ stays) ⊎ (by_reply change r ≡ change)
    kept_by change None = inr refl
    kept_by change (Some (replies.Refused refusals.DiskFault)) = inr refl
    kept_by change (Some (replies.Refused refusal)) = inl refl
    kept_by change (Some r) = inr refl

    by_check : (r : Result (List ℕ) Refusal) → checked ≡ r → Puts digest checked (by_reply (chunk_put digest r) reply)
    by_check (Ok bytes) was =
        ⊎_elim {C = Puts digest checked (by_reply (stores (chunk_name digest.0) bytes) reply)} (λ none. inl none) (λ all. inr (bytes, was, all)) (kept_by (stores (chunk_name digest.0) bytes) reply)
    by_check (Err refusal) was = inl (stays_by reply)

    by_session : (x : Session) → Puts digest checked (by_reply (by_writer x (λ w. chunk_put digest checked)) reply)
    by_session Idle = inl (stays_by reply)
    by_session (Writer w) = by_check checked refl
    by_session (Reader r) = inl (stays_by reply)

module _ {D E C : Type 0} (d : Ghosts D) (told : TellsMoments d) (old new : Core D E C) (R : Option (List Snapshot)) (w : World) (answer : Answer) where
  abbrev k : ℕ
  k = (answer.entry).lane

  abbrev n : ℕ
  n = (answer.entry).kind

  abbrev now : List Snapshot
  now = (w.store).snapshots

  abbrev next : Act → List Snapshot
  next act = (next_store R w k (answer.entry).moment act n).snapshots

  abbrev LeadsTo : List Snapshot → Type 0
  LeadsTo list = Leads d (old.parts).disk (new.parts).disk ((n == 5) ≡ false) now list

  -- ---- refused by its tests, or done

  module _ (act : Act) (f : IsCalm d old new R w act answer) where
    abbrev o : Outcome
    o = act_outcome R w k (answer.entry).moment act

    refused : (r : Refusal) → o ≡ Err r → (n == 5) ≡ false → answer.reply ≡ Some (answered w.store o).1 → next_store R w k (answer.entry).moment act n ≡ (answered w.store o).0 → LeadsTo (next act)
    refused r is calm says then_is =
        let reply : answer.reply ≡ Some (replies.Refused r) = says ∙ ap (λ (x : Outcome). Some (answered w.store x).1) is in
        let none : by_reply (change_at old.parts k act) answer.reply ≡ stays = ap (by_reply (change_at old.parts k act)) reply ∙ stays_refused (change_at old.parts k act) r (λ e. f.unhurt calm (reply ∙ ap (λ x. Some (replies.Refused x)) e)) in
        leads_stays d told (old.parts).disk (new.parts).disk ((n == 5) ≡ false) now (next act) _ ((f.keeps).crash f.no) none
        (ap (λ (s : Store). s.snapshots) (then_is ∙ ap (λ (x : Outcome). (answered w.store x).0) is))

    shorted : answer.reply ≡ Some (replies.Refused refusals.NoMemory) → next_store R w k (answer.entry).moment act n ≡ w.store → LeadsTo (next act)
    shorted reply then_is =
        leads_stays d told (old.parts).disk (new.parts).disk ((n == 5) ≡ false) now (next act) _ ((f.keeps).crash f.no) (ap (by_reply (change_at old.parts k act)) reply) (ap (λ (s : Store). s.snapshots) then_is)

    -- the change of the act, where it was done, or met the fault
    crash_as : (change : Change) → by_reply (change_at old.parts k act) answer.reply ≡ change_at old.parts k act → change_at old.parts k act ≡ change → LeavesChange d (old.parts).disk (new.parts).disk change
    crash_as change all is = subst (LeavesChange d (old.parts).disk (new.parts).disk) (all ∙ is) ((f.keeps).crash f.no)

    firm_as : (change : Change) → change_at old.parts k act ≡ change → ((n == 5) ≡ false → answer.reply ≡ Some replies.Done) → (n == 5) ≡ false → IsFirm d (old.parts).disk (new.parts).disk change
    firm_as change is reply calm = subst (IsFirm d (old.parts).disk (new.parts).disk) is ((f.keeps).firm f.none (subst (λ r. IfSome r IsNoRefusal) (sym (reply calm)) tt))

    -- ---- acts that move no manifest

    moves_none : moves_manifest act ≡ false → next act ≡ now
    moves_none off = next_keeps R w k (answer.entry).moment act n f.formed off

    leads_other : moves_manifest act ≡ false → spares_all act ≡ true → LeadsTo (next act)
    leads_other off is =
        let spares : Spares now (change_at old.parts k act) =
        spares_change w.store k ((f.holds).shows).sound (kept_at old.parts k) (session_shown old.parts w.store k (f.holds).shows f.inside) act is in
        let change = by_reply (change_at old.parts k act) answer.reply in
        leads_same d told (old.parts).disk (new.parts).disk ((n == 5) ≡ false) now (next act) change ((f.keeps).crash f.no) (moves_none off)
        (λ b c may s. stands_spared now change (d.content (old.parts).disk) b c (spares_reply now (change_at old.parts k act) answer.reply spares) may s)

  -- ---- FINISH

  abbrev fin : Act
  fin = Plain Finish

  finish_out : act_outcome R w k (answer.entry).moment fin ≡ finish w.store k
  unfolding act_outcome outcome
  finish_out = refl

  finish_given : (f : IsCalm d old new R w fin answer) (v : model.Writer) (m : Manifest) → session w.store k ≡ model.writer v → finish_check v ≡ Ok m
      → by_reply (change_at old.parts k fin) answer.reply ≡ change_at old.parts k fin → ((n == 5) ≡ false → answer.reply ≡ Some replies.Done)
      → next_store R w k (answer.entry).moment fin n ≡ finished w.store k v → LeadsTo (next fin)
  finish_given f v m at check all reply store =
      let sound = ((f.holds).shows).sound in
      let (path, text, has, is) = finish_changes w.store k v m sound at check (session_at old.parts k) (session_shown old.parts w.store k (f.holds).shows f.inside) in
      subst LeadsTo (sym (ap (λ (s : Store). s.snapshots) store))
      (leads_finish d told (old.parts).disk (new.parts).disk ((n == 5) ≡ false) now (snapshot_of v) path text
      (completes w.store k v m sound at check (d.content (old.parts).disk) path text (f.holds).files has)
      (crash_as fin f (finishes path text) all is) (firm_as fin f (finishes path text) is reply))

  by_finish : IsCalm d old new R w fin answer → FinishIs w.store k → CameTo R w k (answer.entry).moment fin answer.reply n → LeadsTo (next fin)
  by_finish f step (short reply then_is) = shorted fin f reply then_is
  by_finish f (finish_fails r is) (done calm says then_is) = refused fin f r (finish_out ∙ is) calm says then_is
  by_finish f (finish_fails r is) (faulted hurt reply then_is) = absurd (err_ok (finish w.store k) r is (f.passed_its_tests reply))
  by_finish f (finish_gives v m at check is) (done calm says then_is) =
      let reply : answer.reply ≡ Some replies.Done = says ∙ ap (λ (x : Outcome). Some (answered w.store x).1) (finish_out ∙ is) in
      finish_given f v m at check (ap (by_reply (change_at old.parts k fin)) reply) (λ _. reply) (then_is ∙ ap (λ (x : Outcome). (answered w.store x).0) (finish_out ∙ is))
  by_finish f (finish_gives v m at check is) (faulted hurt reply then_is) =
      finish_given f v m at check (ap (by_reply (change_at old.parts k fin)) reply) (λ calm. absurd (true_false (sym hurt ∙ calm))) (then_is ∙ ap (λ (x : Outcome). (answered w.store x).0) (finish_out ∙ is))

  -- ---- FORGET

  module _ (text : List ℕ) (f : IsCalm d old new R w (Plain (Forget text)) answer) where
    abbrev gone : Act
    gone = Plain (Forget text)

    forget_out : act_outcome R w k (answer.entry).moment gone ≡ forget w.store k text
    unfolding act_outcome outcome
    forget_out = refl

    forget_given : (key : SnapshotKey) (x : Snapshot) → key_of text ≡ Some key → snapshot_named key now ≡ Some x
        → by_reply (change_at old.parts k gone) answer.reply ≡ change_at old.parts k gone → ((n == 5) ≡ false → answer.reply ≡ Some replies.Done)
        → next_store R w k (answer.entry).moment gone n ≡ forgot w.store key → LeadsTo (next gone)
    forget_given key x named there all reply store =
        let whole = found_whole now key x (((f.holds).shows).sound).each there in
        let is = forget_changes text (kept_at old.parts k) now key x ((f.holds).shows).catalogue named there in
        subst LeadsTo (sym (ap (λ (s : Store). s.snapshots) store ∙ ap (λ q. without_snapshot q now) (sym (found_key now key x there))))
        (leads_forget d told (old.parts).disk (new.parts).disk ((n == 5) ≡ false) now x whole (crash_as gone f _ all is) (firm_as gone f _ is reply))

    by_forget : ForgetIs w.store k text → CameTo R w k (answer.entry).moment gone answer.reply n → LeadsTo (next gone)
    by_forget step (short reply then_is) = shorted gone f reply then_is
    by_forget (forget_fails r is) (done calm says then_is) = refused gone f r (forget_out ∙ is) calm says then_is
    by_forget (forget_fails r is) (faulted hurt reply then_is) = absurd (err_ok (forget w.store k text) r is (f.passed_its_tests reply))
    by_forget (forget_gives key x named there is) (done calm says then_is) =
        let reply : answer.reply ≡ Some replies.Done = says ∙ ap (λ (x : Outcome). Some (answered w.store x).1) (forget_out ∙ is) in
        forget_given key x named there (ap (by_reply (change_at old.parts k gone)) reply) (λ _. reply) (then_is ∙ ap (λ (x : Outcome). (answered w.store x).0) (forget_out ∙ is))
    by_forget (forget_gives key x named there is) (faulted hurt reply then_is) =
        forget_given key x named there (ap (by_reply (change_at old.parts k gone)) reply) (λ calm. absurd (true_false (sym hurt ∙ calm))) (then_is ∙ ap (λ (x : Outcome). (answered w.store x).0) (forget_out ∙ is))

  -- ---- CHUNK

  module _ (digest : Digest32) (checked : Result (List ℕ) Refusal) (f : IsCalm d old new R w (Chunk digest checked) answer) where
    abbrev sends : Act
    sends = Chunk digest checked

    abbrev read : Files
    read = d.content (old.parts).disk

    stored : (bytes : List ℕ) → by_reply (change_at old.parts k sends) answer.reply ≡ stores (chunk_name digest.0) bytes → HasWholeChunks (with_chunk digest.0 bytes read) → LeadsTo (next sends)
    stored bytes is whole =
        leads_same d told (old.parts).disk (new.parts).disk ((n == 5) ≡ false) now (next sends) (stores (chunk_name digest.0) bytes)
        (subst (LeavesChange d (old.parts).disk (new.parts).disk) is ((f.keeps).crash f.no)) (moves_none sends f refl) (λ b c may s. stands_storing now digest.0 bytes read b c whole may s)

    by_change : Puts digest checked (by_reply (change_at old.parts k sends) answer.reply)
        → CameTo R w k (answer.entry).moment sends answer.reply n → LeadsTo (next sends)
    by_change (inl none) came = leads_stays d told (old.parts).disk (new.parts).disk ((n == 5) ≡ false) now (next sends) _ ((f.keeps).crash f.no) none (moves_none sends f refl)
    by_change (inr put) (done calm says then_is) =
        let now_reads = (f.keeps).content f.no f.none (f.unhurt calm) (f.holds).honest ∙ ap (λ c. after c read) put.2 in
        stored put.0 put.2 (subst HasWholeChunks now_reads (f.whole calm))
    by_change (inr put) (short reply then_is) = shorted sends f reply then_is
    by_change (inr put) (faulted hurt reply then_is) =
        stored put.0 put.2 (whole_storing read digest.0 put.0 (subst (λ r. PassesItsTests (Chunk digest r) w.store k) put.1 (f.passed_its_tests reply)) (((f.holds).files).snapshots).chunks)

  -- ---- any act

  pub leads : (act : Act) → IsCalm d old new R w act answer → LeadsTo (next act)
  leads (Plain Finish) f = by_finish f (finish_is w.store k) (came_to R w k (answer.entry).moment fin answer.reply n f.none_there f.right)
  leads (Plain (Forget text)) f = by_forget text f (forget_is w.store k text) (came_to R w k (answer.entry).moment (Plain (Forget text)) answer.reply n f.none_there f.right)
  leads (Chunk digest checked) f =
      by_change digest checked f (chunk_change digest checked (kept_at old.parts k) answer.reply)
      (came_to R w k (answer.entry).moment (Chunk digest checked) answer.reply n f.none_there f.right)
  leads act f = leads_other act f refl refl
