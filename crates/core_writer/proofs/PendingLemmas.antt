-- BLOB and CLOSE_INDEX: a file that was made pending is put, and is the writer's; or all is as before.
use Rattle.disk_trait.specs.declared.disk.Disk.{Ghosts}
use Rattle.std.proofs.Common.{◌≡◌, ◌<◌, ℕ, Bool, true, false, cond, if◌then◌else◌, get_or, length, set, Option, Some, Result, Ok, Err, List, OnOk, OnErr, IsErrAnd, IsErrOf, inr, refl, sym, ap, subst, ◌∙◌, arith}
use Rattle.std.proofs.lemmas.List.{get_or_default}
use Rattle.std.specs.Str.{bytes_eq}
use Rattle.disk_trait.specs.Disk.{Serves, Steps, Same}
use Rattle.disk_trait.specs.Files.{Files}
use Rattle.disk_trait.specs.declared.disk.DiskError.{DiskError}
use Rattle.disk_trait.specs.declared.disk.DiskError.TheVariants as disks
use Rattle.file_install.specs.Install.{installed, Installs}
use Rattle.store_types.specs.FileNames.{manifest_name}
use Rattle.store_types.specs.Names.{IsKey}
use Rattle.store_files.specs.Folder.{file_path}
use Rattle.wire_commands.specs.declared.reply.Reply.{Reply}
use Rattle.wire_commands.specs.declared.reply.Reply.TheVariants.{Done}
use Rattle.store_model.specs.Store as model
use Rattle.store_model.specs.Store.{Store, session, with_session}
use Rattle.store_history.specs.declared.act.Act.{Act}
use Rattle.backup_session.specs.Session as rows
use Rattle.backup_session.specs.Session.{held, kept, settled}
use Rattle.core_state.specs.Kept.{kept_at}
use Rattle.core_state.specs.declared.entering.Place.{Place}
use Rattle.core_state.specs.declared.kept.Session.{Session}
use Rattle.core_state.specs.declared.kept.Session.TheVariants.{Idle, Writer}
use Rattle.core_state.specs.declared.kept.StoredFile.{StoredFile}
use Rattle.core_state.specs.declared.kept.Writing.{Writing}
use Rattle.core_state.specs.declared.parts.Parts.{Parts}
use Rattle.store_stops.specs.declared.stop.Stop.{Stop}
use Rattle.store_stops.specs.declared.stop.Stop.TheVariants.{Refused, NoMemory, DiskFailed}
use Rattle.core_state.specs.Catalogue.{listed_by}
use Rattle.core_state.specs.Changes.{Change, IsFirm, LeavesChange, after, by_writer, file_put, stays, installs}
use Rattle.core_state.specs.Closing.{closes, is_writer}
use Rattle.core_state.specs.Commands.{ActDoes, ActLeaves, change_at, ends_session, is_still, calls_no_disk, reads_only}
use Rattle.core_state.specs.PassedTests.{PassesItsTests}
use Rattle.core_state.specs.Holds.{Holds, IsOnDisk, Shows}
use Rattle.core_state.specs.Named.{is_named}
use Rattle.store_history.specs.Replies.{may_answer}
use Rattle.core_state.specs.Shown.{shown_writer}
use Rattle.store_stops.specs.Stops.{stop_of}
use Rattle.core_state.specs.Unchanged.{SameKept}
use Rattle.core_state.specs.Wanted.{session_at}
use Rattle.core_state.proofs.Commanding.{act_does, failed_does, failed_leaves, others_set, refused_does, refused_leaves, short_does, short_leaves, writes_does, writes_leaves, writes_set}
use Rattle.core_state.proofs.LockLemmas.{locked_writes_on}
use Rattle.core_state.proofs.NamedLemmas.{writer_named, writer_stays_named}
use Rattle.core_state.proofs.Sessions.{at_lane}
use Rattle.core_state.specs.Indexed.{FitsRows}
use Rattle.core_state.proofs.Rows.{rows_same, rows_writing}
use Rattle.core_state.proofs.Soundness.{sound_writer, shows_changed}
use Rattle.core_state.proofs.Texts.{done_has_text}
use Rattle.core_writer.specs.declared.files.NewFile.{NewFile}
use Rattle.core_writer.specs.Pending.{HasPending, IsPending, MakesPending, grown, with_pending, without_pending}
use Rattle.core_writer.specs.Uploaded.{PutsFile, insert_stored, put_change, with_put}
use Rattle.core_writer.proofs.GrownLemmas.{alone_grown, grown_on_disk, is_writer_grown}
use Rattle.core_writer.proofs.KeepLemmas.{file_is, found_stays, shown_with}
use Rattle.core_writer.proofs.OtherChunks.{puts_no_chunk}
use Rattle.core_writer.proofs.SteppedLemmas.{false_true}

-- ---- the session

-- a file is pending in it
pub is_pending : (old new : Session) (o : Store → ℕ → model.Outcome) (file : StoredFile) (text : List ℕ) → IsPending old new o file text → HasPending new
is_pending old new o file text p = subst HasPending (sym p.new_is) refl

writers_same : (v w : Writing) → Writer v ≡ Writer w → v ≡ w
writers_same v w e = cc

-- given up, the session is as before
pub back_is : (old new : Session) (o : Store → ℕ → model.Outcome) (file : StoredFile) (text : List ℕ) → is_named old ≡ true → IsPending old new o file text → without_pending new ≡ old
back_is old new o file text named p =
    let w = p.found in
    let none = (writer_named w (sym (ap is_named p.old_is) ∙ named)).1 in
    let made : Option rows.Writing → Session = λ x. Writer (record { session = record { writer = (w.session).writer; pending = x }; files = w.files }) in
    ap without_pending p.new_is ∙ ap made (sym none) ∙ sym p.old_is

-- kept, no file is pending
pub kept_named : (old new : Session) (o : Store → ℕ → model.Outcome) (file : StoredFile) (text : List ℕ) → is_named old ≡ true → IsPending old new o file text → is_named (with_pending file new) ≡ true
kept_named old new o file text named p =
    let w = p.found in
    let is_key = (writer_named w (sym (ap is_named p.old_is) ∙ named)).0 in
    ap (λ x. is_named (with_pending file x)) p.new_is
    ∙ writer_stays_named (record { session = settled p.after; files = insert_stored file w.files }) (subst IsKey (sym p.key) is_key) refl

pub left_named : {E : Type 0} (result : Result (Unit {0}) E) (old new left : Session) (o : Store → ℕ → model.Outcome) (file : StoredFile) (text : List ℕ) → is_named old ≡ true → IsPending old new o file text
    → OnOk result (left ≡ with_pending file new) → OnErr result (left ≡ without_pending new) → is_named left ≡ true
left_named (Ok u) old new left o file text named p ok err = ap is_named ok ∙ kept_named old new o file text named p
left_named (Err e) old new left o file text named p ok err = ap is_named (err ∙ back_is old new o file text named p) ∙ named

-- ---- the disk

-- what the act changes is what is put
change_is : (w : Writing) (file : StoredFile) (text : List ℕ) → file.path ≡ file_path ((w.session).writer).key file.name → file_put file.name text w ≡ put_change file text
change_is w file text path = ap (λ p. if bytes_eq file.name manifest_name then stays else installs p text) (sym path)

after_is : (file : StoredFile) (text : List ℕ) (m : Files) → with_put file text m ≡ after (put_change file text) m
after_is file text m = by_test (bytes_eq file.name manifest_name)
  where
    by_test : (b : Bool) → cond b m (installed m file.path text) ≡ after (cond b stays (installs file.path text)) m
    by_test true = refl
    by_test false = refl

firm_is : {D : Type 0} (d : Ghosts D) (old new : D) (file : StoredFile) (text : List ℕ) → IsFirm d old new (put_change file text)
firm_is d old new file text = by_test (bytes_eq file.name manifest_name)
  where
    by_test : (b : Bool) → IsFirm d old new (cond b stays (installs file.path text))
    by_test true = tt
    by_test false = tt

-- it is the manifest, or it was installed
pub put_puts : {D : Type 0} (d : Ghosts D) (old new : D) (file : StoredFile) (text path : List ℕ) (done : Result (Unit {0}) DiskError) → bytes_eq file.name manifest_name ≡ false → path ≡ file.path
    → Serves d.honest d.faults old new (IsErrOf done disks.Failed) → Steps d.calls d.images old new (Installs (d.content old) path text) → (d.honest old → OnOk done (d.content new ≡ installed (d.content old) path text))
    → (IsErrOf done disks.NoMemory → (d.honest old → d.content new ≡ d.content old) × Steps d.calls d.images old new Same × (d.faults new ≡ d.faults old)) → PutsFile d old new file text done
put_puts d old new file text path done plain path_is serves crash put unchanged = record {
  serves = serves;
  crash = subst (LeavesChange d old new) (sym (ap (λ b. if b then stays else installs file.path text) plain)) (subst (λ p. LeavesChange d old new (installs p text)) path_is (inr crash));
  put = λ h. subst (λ m. OnOk done (d.content new ≡ m)) (ap (λ p. installed (d.content old) p text) path_is ∙ sym (ap (λ b. if b then d.content old else installed (d.content old) file.path text) plain)) (put h);
  same = λ short. (unchanged short).0;
  unmoved = λ short. inr (unchanged short).1;
}

-- ---- the act

module _ {D : Type 0} (d : Ghosts D) (old new : Parts D) (at : Place) (act : Act) (found mid : Session) (changes : Writing → Change) (lt : at.lane < 64) (here : found ≡ get_or old.sessions.items at.lane found)
    (c : new.catalogue.listed ≡ old.catalogue.listed) (k : new.locks ≡ old.locks) (rows_are : new.indexes.items ≡ old.indexes.items) where
  abbrev Makes : Result NewFile Stop → Type 0
  Makes r = MakesPending found mid (λ s lane. act_does s lane at.moment act) (may_answer act) changes r

  within : at.lane < length old.sessions.items
  within = omega (arith, old.lanes, old.sessions.ok.0, lt)

  session_is : session_at old at.lane ≡ found
  session_is = sym (here ∙ get_or_default old.sessions.items at.lane found Idle within)

  same_kept : (left : Session) → new.sessions.items ≡ set old.sessions.items at.lane left → left ≡ found → SameKept old new
  same_kept left l same = record { catalogue = c; sessions = l ∙ ap (set old.sessions.items at.lane) same ∙ found_stays old.sessions.items at.lane found here; locks = k; indexes = rows_are }

  -- it is stopped before
  module _ (r : Result NewFile Stop) (stop : Stop) (result : Result Reply Stop) (stopped : IsErrAnd result (λ x. x ≡ stop)) (was : r ≡ Err stop) (makes : Makes r) (disk : new.disk ≡ old.disk) (l : new.sessions.items ≡ set old.sessions.items at.lane mid) where
    pub unpending_does : ActDoes d old new at act result
    unpending_does = by_stop stop stopped (subst Makes was makes)
      where
        by_stop : (stop : Stop) → IsErrAnd result (λ x. x ≡ stop) → Makes (Err stop) → ActDoes d old new at act result
        by_stop (Refused q) stopped m = refused_does d old new at act q result stopped disk (same_kept mid l m.same) m.text m.answers
            (λ s shows. m.pending s at.lane shows.sound (at_lane old.sessions.items s at.lane found shows.sessions (shows.sound).lanes lt here))
        by_stop NoMemory stopped m = short_does d old new at act result stopped disk (same_kept mid l m.same)
        by_stop DiskFailed stopped m = absurd m.pending

    pub unpending_leaves : closes act (session_at old at.lane) ≡ false → ActLeaves d old new at act result
    unpending_leaves closing_not = by_stop stop stopped (subst Makes was makes)
      where
        by_stop : (stop : Stop) → IsErrAnd result (λ x. x ≡ stop) → Makes (Err stop) → ActLeaves d old new at act result
        by_stop (Refused q) stopped m = refused_leaves d old new at act q result stopped disk (same_kept mid l m.same) (λ closing. false_true (sym closing_not ∙ closing))
        by_stop NoMemory stopped m = short_leaves d old new at act result stopped disk (same_kept mid l m.same) (λ closing. false_true (sym closing_not ∙ closing))
        by_stop DiskFailed stopped m = absurd m.pending

  -- it is put
  module _ (n : NewFile) (r : Result NewFile Stop) (was : r ≡ Ok n) (makes : Makes r) (left : Session) (l : new.sessions.items ≡ set old.sessions.items at.lane left) (done : Result (Unit {0}) DiskError) (puts : PutsFile d old.disk new.disk n.file n.text done) where
    made : Makes (Ok n)
    made = subst Makes was makes

    abbrev pending : IsPending found mid (λ s lane. act_does s lane at.moment act) n.file n.text
    pending = made.pending

    puts_change : change_at old at.lane act ≡ by_writer (session_at old at.lane) changes → change_at old at.lane act ≡ put_change n.file n.text
    puts_change is =
        is ∙ ap (λ x. by_writer x changes) (session_is ∙ pending.old_is) ∙ made.change pending.found pending.old_is ∙ change_is pending.found n.file n.text pending.path

    module _ (e : DiskError) (result : Result Reply Stop) (stopped : IsErrAnd result (λ x. x ≡ stop_of e)) (failed : done ≡ Err e) (named : is_named found ≡ true) (back : left ≡ without_pending mid) where
      kept_so : SameKept old new
      kept_so = same_kept left l (back ∙ back_is found mid _ n.file n.text named pending)

      pub unput_does : ActDoes d old new at act result
      unput_does = failed_does d old new at act done e result stopped failed puts.serves puts.same kept_so

      pub unput_leaves : change_at old at.lane act ≡ by_writer (session_at old at.lane) changes → reads_only act ≡ false → closes act (session_at old at.lane) ≡ false
          → ((s : Store) → Holds d old s → PassesItsTests act s at.lane) → ActLeaves d old new at act result
      unput_leaves is called closing_not passed_its_tests =
          failed_leaves d old new at act done e result stopped failed puts.same puts.unmoved (subst (LeavesChange d old.disk new.disk) (sym (puts_change is)) puts.crash) kept_so called
          (λ short closing. false_true (sym closing_not ∙ closing)) passed_its_tests

    module _ (put : d.honest old.disk → d.content new.disk ≡ with_put n.file n.text (d.content old.disk)) (kept_is : left ≡ with_pending n.file mid) where
      reached : (s : Store) → Holds d old s → (after_it : Store) × (act_does s at.lane at.moment act ≡ Ok (after_it, Done)) × Shows new after_it × IsOnDisk (d.content new.disk) after_it
      reached s h =
          let sound = (h.shows).sound in
          let p = pending in
          let a = p.adds s at.lane sound (at_lane old.sessions.items s at.lane found (h.shows).sessions sound.lanes lt here) in
          let w = p.found in
          let in_store : at.lane < length s.sessions = omega (arith, sound.lanes, lt) in
          let named = file_is a.before w a.new n.file ((w.session).writer).key a.shown refl a.named (p.path ∙ ap (file_path ((w.session).writer).key) a.named) in
          let left_is : left ≡ Writer (record { session = kept (held (w.session).writer p.after); files = insert_stored n.file w.files }) = kept_is ∙ ap (with_pending n.file) p.new_is in
          let shown = left_is ∙ shown_with a.before a.after a.new a.begun w n.file p.after (held (w.session).writer p.after) (kept (held (w.session).writer p.after)) (insert_stored n.file w.files) a.shown a.same named refl a.shows refl refl
          ∙ ap (λ v. Writer (shown_writer v)) a.same in
          let after_it = grown a.before a.new a.begun in (
            with_session s at.lane (model.writer after_it),
            a.step,
            shows_changed old new s at.lane (model.writer after_it) left c l shown
                (locked_writes_on old.locks new.locks s at.lane a.before after_it in_store k a.at refl refl (h.shows).locks)
                (subst (FitsRows (with_session s at.lane (model.writer after_it))) (sym rows_are) (rows_writing s at.lane old.indexes.items in_store (h.shows).indexes a.before after_it a.at refl (λ p has. has)))
                (sound_writer s at.lane after_it lt (is_writer_grown s a.before a.new a.begun (sound.writers at.lane a.before a.at) a.may) (alone_grown s at.lane a.before a.new a.begun sound a.at) sound) h.shows,
            grown_on_disk (d.content old.disk) (d.content new.disk) s at.lane a.before a.new a.begun n.file n.text lt sound a.at (a.may).named (a.may).free named a.text_is (put h.honest) h.files,
          )

      pub put_does : may_answer act Done ≡ true → ActDoes d old new at act (Ok Done)
      put_does answers = writes_does d old new at act Done _ puts.serves done_has_text answers tt (λ safe s h. reached s h)

      pub put_leaves : change_at old at.lane act ≡ by_writer (session_at old at.lane) changes → calls_no_disk act ≡ false → listed_by act (Some Done) at.number (kept_at old at.lane) ≡ old.catalogue.listed
          → is_still act ≡ false → ends_session act ≡ false → ActLeaves d old new at act (Ok Done)
      put_leaves is called listed other goes_on =
          writes_leaves d old new at act Done tt called
          (λ h. put h ∙ after_is n.file n.text (d.content old.disk) ∙ ap (λ x. after x (d.content old.disk)) (sym (puts_change is)))
          (subst (LeavesChange d old.disk new.disk) (sym (puts_change is)) puts.crash)
          (subst (IsFirm d old.disk new.disk) (sym (puts_change is)) (firm_is d old.disk new.disk n.file n.text))
          (c ∙ sym listed) (λ admin. absurd (false_true (sym other ∙ admin)))
          (λ s h. puts_no_chunk (d.content old.disk) (d.content new.disk) ((pending.found).session.writer).key n.file n.text act pending.path (put h.honest))
          (λ ends. absurd (false_true (sym goes_on ∙ ends)))
          (λ _. writes_set old new at.lane left lt l (ap is_writer (kept_is ∙ ap (with_pending n.file) pending.new_is)))
          (rows_same old new.indexes.items at.lane act rows_are) (others_set old new at.lane left l)
