-- What FILES answers, by what the core keeps and what was read.
use Rattle.disk_trait.specs.declared.disk.Disk.{Ghosts}
use Rattle.disk_trait.specs.declared.disk.DiskError.TheVariants as disks
use Rattle.std.proofs.Common.{◌≡◌, ℕ, true, false, IsTrue, List, Option, Some, None, Result, Ok, Err, IfOk, refl, sym, ap, subst, ◌∙◌}
use Rattle.std.specs.Option.{option_map}
use Rattle.disk_trait.specs.Files.{Files as Content}
use Rattle.store_types.specs.declared.refusal.Refusal.{Refusal}
use Rattle.store_types.specs.declared.names.SnapshotKey.{SnapshotKey}
use Rattle.store_types.specs.declared.refusal.Refusal.TheVariants.{BadName, NoSnapshot, Unreadable}
use Rattle.store_types.specs.Chain.Refusing.{◌>>=◌, or_else, if_none}
use Rattle.store_files.specs.Manifest.{Manifest}
use Rattle.wire_commands.specs.declared.rows.FileRow.{FileRow}
use Rattle.wire_commands.specs.declared.command.Command.TheVariants.{Files as FilesOf}
use Rattle.wire_commands.specs.HasText.{ReplyHasText}
use Rattle.wire_commands.specs.declared.reply.Reply.{Reply}
use Rattle.wire_commands.specs.declared.reply.Reply.TheVariants.{Done, Files, Refused}
use Rattle.store_files.specs.Folder.{manifest_path}
use Rattle.store_history.specs.declared.act.Act.TheVariants.{Plain}
use Rattle.store_model.specs.Store.{Store}
use Rattle.store_model.proofs.Done.{ok_same, passed}
use Rattle.store_model.specs.Steps.{outcome}
use Rattle.core_state.specs.declared.kept.Kept.{Kept}
use Rattle.core_state.specs.declared.parts.Parts.{Parts}
use Rattle.core_state.specs.Holds.{Holds}
use Rattle.core_state.specs.Listing.{listing_at}
use Rattle.core_state.specs.Settles.{kind_by, reply_by}
use Rattle.core_state.specs.Stops.{told}
use Rattle.store_stops.specs.Stops.{Gives, IfRefused}
use Rattle.store_stops.specs.declared.stop.Stop.{Stop}
use Rattle.store_stops.specs.declared.stop.Stop.TheVariants as stops
use Rattle.core_state.specs.Unreadables.{Asked, part_read, TellsUnreadable}
use Rattle.store_history.specs.Replies.{answers_files, reply_told}
use Rattle.core_state.specs.Unchanged.{SameKept, is_uncalled}
use Rattle.core_state.proofs.Commanding.{refused_as, refused_does, short_does}
use Rattle.core_state.proofs.Unreadables.{tells_other, tells_failed, tells_read}
use Rattle.core_admin.specs.FilesTold.{AnswersFiles, AnswersOf, Finds, HasBytes, IfTold, TellsFiles, asked_at, asked_files, asked_of, files_told, rows_in, rows_read, to_tell, whole, whole_of}
use Rattle.core_state.specs.Commands.{ActDoes}
use Rattle.core_state.specs.Decides.{Decides}
use Rattle.core_state.specs.declared.entering.Place.{Place}
use Rattle.core_state.specs.Found.{kept_named}
use Rattle.core_state.specs.Heads.{key_in, named_kept}
use Rattle.core_state.specs.Kept.{KeptAt, kept_at}
use Rattle.core_admin.proofs.FilesRead.{files_read, files_refused}
use Rattle.core_state.proofs.FromState.{Stops, stopped}
use Rattle.core_state.proofs.HeadLemmas.{key_in_is, key_in_refuses, refuses_none, refuses_or, refuses_some, refuses_then}
use Rattle.core_admin.proofs.Told.{tells}

-- ---- what is told

abbrev as_rows : Result (List FileRow) Refusal → Result Reply Refusal
as_rows told = told >>= λ rows. Ok (Files rows)

module _ (m : Content) (text : List ℕ) (at : KeptAt) where
  abbrev told_by : Result Kept Refusal → Result Reply Refusal
  told_by r = r >>= λ k. as_rows (rows_read m k)

  told_refused : (r : Refusal) → to_tell text at ≡ Err r → files_told m text at ≡ Err r
  told_refused r is = ap told_by is

  told_rows : (k : Kept) → to_tell text at ≡ Ok k → files_told m text at ≡ as_rows (rows_read m k)
  told_rows k is = ap told_by is

-- ---- what its tests decide

module _ (text : List ℕ) (at : KeptAt) where
  abbrev tell_by : Result SnapshotKey Refusal → Result Kept Refusal
  tell_by r = (r >>= λ key. or_else NoSnapshot (kept_named key at.catalogue)) >>= whole

  tell_is : to_tell text at ≡ tell_by (key_in text at)
  unfolding to_tell named_kept
  tell_is = refl

  -- its text names no snapshot
  pub tell_unnamed : (r : Refusal) → key_in text at ≡ Err r → to_tell text at ≡ Err r
  tell_unnamed r is = tell_is ∙ ap tell_by is

  -- by the snapshot that it names
  pub tell_named : (key : SnapshotKey) (found : Result Kept Refusal) → key_in text at ≡ Ok key → whole_of key at.catalogue ≡ found → to_tell text at ≡ found
  tell_named key found is there = tell_is ∙ ap tell_by is ∙ there

  -- what it names is whole
  pub told_whole : (k : Kept) → to_tell text at ≡ Ok k → (named_kept text at ≡ Ok k) × (k.unreadable ≡ None)
  unfolding to_tell
  told_whole k is =
      let (x, named, e) = passed (named_kept text at) _ k is in
      let (u, undamaged, e1) = passed (if_none Unreadable x.unreadable) _ k e in
      let same : x ≡ k = ok_same x k e1 in
      (named ∙ ap (λ q. Ok q) same, sym (ap (λ (q : Kept). q.unreadable) same) ∙ none (x.unreadable) undamaged)
    where
      none : (o : Option (List ℕ)) → if_none Unreadable o ≡ Ok tt → o ≡ None
      none None e = refl
      none (Some path) e = cc

  -- each of its refusals is one of FILES's
  pub tell_refuses : (P : Refusal → Type 0) → P BadName → P NoSnapshot → ((name : List ℕ) → P (Unreadable name)) → (r : Refusal) → to_tell text at ≡ Err r → P r
  unfolding to_tell named_kept
  tell_refuses P bad missing damaged r e =
      refuses_then P (key_in text at >>= λ key. or_else NoSnapshot (kept_named key at.catalogue)) whole
      (refuses_then P (key_in text at) _ (key_in_refuses P at text bad) (λ key. refuses_or P NoSnapshot (kept_named key at.catalogue) missing))
      (λ k. refuses_then P (if_none Unreadable k.unreadable) _ (refuses_some P Unreadable k.unreadable damaged) (λ u. refuses_none P k)) r e

  pub named_refuses : (P : Refusal → Type 0) → P BadName → P NoSnapshot → (r : Refusal) → named_kept text at ≡ Err r → P r
  unfolding named_kept
  named_refuses P bad missing r e = refuses_then P (key_in text at) _ (key_in_refuses P at text bad) (λ key. refuses_or P NoSnapshot (kept_named key at.catalogue) missing) r e

-- ---- whether the manifest is unreadable

module _ (k : Kept) where
  abbrev path : List ℕ
  path = manifest_path k.key

  abbrev given : List FileRow → Result (List FileRow) Refusal
  given rows = Ok rows

  abbrev rows_of : Option (List ℕ × Manifest) → Result (List FileRow) Refusal
  rows_of o = or_else (Unreadable path) o >>= λ read. given (rows_in read k)

  abbrev asks_of : Option (List ℕ × Manifest) → Result Reply Refusal
  asks_of o = or_else (Unreadable path) o >>= λ read. Ok Done

  readable : (o : Option (List ℕ × Manifest)) (rows : List FileRow) (name : List ℕ) → rows_of o ≡ given rows → asks_of o ≡ Err (Unreadable name) → ⊥
  readable None rows name e u = cc
  readable (Some read) rows name e u = cc

  unread : (o : Option (List ℕ × Manifest)) (r : Refusal) → rows_of o ≡ Err r → asks_of o ≡ Err (Unreadable path)
  unread None r e = refl
  unread (Some read) r e = cc

-- the rows by what was read
pub read_rows : (m : Content) (k : Kept) (bytes : List ℕ) (listed : Manifest) (rows : List FileRow) → listing_at m (manifest_path k.key) ≡ Some (bytes, listed) → rows ≡ rows_in (bytes, listed) k
    → rows_read m k ≡ Ok rows
read_rows m k bytes listed rows there is = ap (rows_of k) there ∙ sym (ap (given k) is)

err_same : (r q : Refusal) → ◌≡◌ {A = Result Kept Refusal} (Err r) (Err q) → r ≡ q
err_same r q e = cc

same_refusal : (r q : Refusal) → Some (Refused r) ≡ Some (Refused q) → r ≡ q
same_refusal r q e = cc

same_asked : (x y : Asked) → Some x ≡ Some y → x ≡ y
same_asked x y e = cc

same_name : (a b : List ℕ) → Unreadable a ≡ Unreadable b → a ≡ b
same_name a b e = cc

same_err : (r q : Refusal) → ◌≡◌ {A = Result Reply Refusal} (Err r) (Err q) → r ≡ q
same_err r q e = cc

rows_apart : (rows : List FileRow) (name : List ℕ) → Some (Files rows) ≡ Some (Refused (Unreadable name)) → ⊥
rows_apart rows name e = cc

bad_apart : (name : List ℕ) → BadName ≡ Unreadable name → ⊥
bad_apart name e = cc

none_apart : (name : List ℕ) → NoSnapshot ≡ Unreadable name → ⊥
none_apart name e = cc

module _ {D : Type 0} (d : Ghosts D) (disk : D) (text : List ℕ) (at : KeptAt) where
  asks_for : (k : Kept) (damage : Option (List ℕ)) → named_kept text at ≡ Ok k → k.unreadable ≡ damage → asked_files text at ≡ Some (asked_of k.key damage)
  asks_for k damage is so = ap asked_at is ∙ ap (λ o. Some (asked_of k.key o)) so

  -- where its tests refuse it
  pub tells_refused : (r : Refusal) → to_tell text at ≡ Err r → TellsUnreadable d disk (asked_files text at) 0 (Some (Refused r))
  unfolding to_tell
  tells_refused r is = by_named (named_kept text at) refl is
    where
      by_damage : (k : Kept) (damage : Option (List ℕ)) → named_kept text at ≡ Ok k → k.unreadable ≡ damage → (if_none Unreadable damage >>= λ _. Ok k) ≡ Err r
          → TellsUnreadable d disk (asked_files text at) 0 (Some (Refused r))
      by_damage k None named so e = cc
      by_damage k (Some path) named so e =
          let same : Unreadable path ≡ r = err_same (Unreadable path) r e in
          subst (λ q. TellsUnreadable d disk (asked_files text at) 0 (Some (Refused q))) same
          (tells_read d disk (asked_files text at) (asked_of k.key (Some path)) (Err (Unreadable path)) (asks_for k (Some path) named so) refl (λ h. refl))

      by_named : (n : Result Kept Refusal) → named_kept text at ≡ n → (n >>= whole) ≡ Err r → TellsUnreadable d disk (asked_files text at) 0 (Some (Refused r))
      by_named (Err cause) named e =
          let is : named_kept text at ≡ Err r = named ∙ ap (λ q. Err q) (err_same cause r e) in
          tells_other d disk (asked_files text at) 0 (Some (Refused r))
          (λ name same. named_refuses text at (λ q. (n : List ℕ) → q ≡ Unreadable n → ⊥) bad_apart none_apart r is name (same_refusal r (Unreadable name) same)) (ap asked_at is)
      by_named (Ok k) named e = by_damage k k.unreadable named refl e

  asks_whole : (k : Kept) → to_tell text at ≡ Ok k → asked_files text at ≡ Some (asked_of k.key None)
  asks_whole k is = let found = told_whole text at k is in asks_for k None found.0 found.1

  -- of a whole one
  asks : (k : Kept) (a : Asked) → to_tell text at ≡ Ok k → asked_files text at ≡ Some a
      → part_read (d.content disk) a ≡ asks_of k (listing_at (d.content disk) (manifest_path k.key))
  asks k a is at = ap (part_read (d.content disk)) (same_asked a (asked_of k.key None) (sym at ∙ asks_whole k is))

  pub tells_rows : (k : Kept) (rows : List FileRow) → to_tell text at ≡ Ok k → (d.honest disk → rows_read (d.content disk) k ≡ Ok rows)
      → TellsUnreadable d disk (asked_files text at) 0 (Some (Files rows))
  tells_rows k rows is read = record {
    named = λ name e. absurd (rows_apart rows name e);
    cause = λ name a e at h. absurd (rows_apart rows name e);
    missing = λ name a zero at h g. absurd (readable k (listing_at (d.content disk) (manifest_path k.key)) rows name (read h) (sym (asks k a is at) ∙ g));
  }

  tells_unread : (k : Kept) (r : Refusal) → to_tell text at ≡ Ok k → r ≡ Unreadable (manifest_path k.key) → (d.honest disk → rows_read (d.content disk) k ≡ Err r)
      → TellsUnreadable d disk (asked_files text at) 0 (Some (Refused r))
  tells_unread k r is path_is read = record {
    named = λ name e. ap (option_map (λ a. a.path)) (asks_whole k is) ∙ ap (λ q. Some q) (same_name (manifest_path k.key) name (sym path_is ∙ same_refusal r (Unreadable name) e));
    cause = λ name a e at h. unread_at a at h ∙ ap (λ q. Err q) (sym path_is ∙ same_refusal r (Unreadable name) e);
    missing = λ name a zero at h g. ap (λ q. Some (Refused q)) (path_is ∙ same_err (Unreadable (manifest_path k.key)) (Unreadable name) (sym (unread_at a at h) ∙ g));
  }
    where
      unread_at : (a : Asked) → asked_files text at ≡ Some a → d.honest disk → part_read (d.content disk) a ≡ Err (Unreadable (manifest_path k.key))
      unread_at a at h = asks k a is at ∙ unread k (listing_at (d.content disk) (manifest_path k.key)) r (read h)

  -- by how the reading stopped
  unread_by : (k : Kept) (stop : Stop) → to_tell text at ≡ Ok k → IfRefused (λ r. r ≡ Unreadable (manifest_path k.key)) stop → (d.honest disk → Gives (λ rows. rows) (Err stop) (rows_read (d.content disk) k))
      → TellsUnreadable d disk (asked_files text at) (kind_by (told (Err stop))) (Some (reply_by (told (Err stop))))
  unread_by k (stops.Refused r) is path_is gives = tells_unread k r is path_is gives
  unread_by k stops.NoMemory is path_is gives = tells_failed d disk (asked_files text at) disks.NoMemory
  unread_by k stops.DiskFailed is path_is gives = tells_failed d disk (asked_files text at) disks.Failed

  pub tells_stopped : (k : Kept) (stop : Stop) (result : Result Reply Stop) → Stops result stop → to_tell text at ≡ Ok k → IfRefused (λ r. r ≡ Unreadable (manifest_path k.key)) stop
      → (d.honest disk → Gives (λ rows. rows) (Err stop) (rows_read (d.content disk) k)) → TellsUnreadable d disk (asked_files text at) (kind_by (told result)) (Some (reply_by (told result)))
  tells_stopped k stop result stops is path_is gives =
      stopped (λ r. TellsUnreadable d disk (asked_files text at) (kind_by (told r)) (Some (reply_by (told r)))) result stop stops (unread_by k stop is path_is gives)

-- ---- what is told as the reading ended

module _ (text : List ℕ) (at : KeptAt) {D : Type 0} (d : Ghosts D) (disk : D) where
  module _ (k : Kept) (is : to_tell text at ≡ Ok k) where
    answers_so : (reply : Reply) → AnswersOf k.key reply → AnswersFiles (to_tell text at) reply
    answers_so reply answers = subst (λ found. AnswersFiles found reply) (sym is) answers

    pub answers_rows : (rows : List FileRow) → (d.honest disk → rows_read (d.content disk) k ≡ Ok rows) → TellsFiles d disk text at (Files rows)
    answers_rows rows gives = record {
      kept = answers_so (Files rows) tt;
      listed = λ h. sym (ap reply_told (told_rows (d.content disk) text at k is ∙ ap as_rows (gives h)));
    }

    answers_by_stop : (stop : Stop) → IfRefused (λ r. r ≡ Unreadable (manifest_path k.key)) stop → (d.honest disk → Gives (λ rows. rows) (Err stop) (rows_read (d.content disk) k))
        → IfOk (told (Err stop)) (TellsFiles d disk text at)
    answers_by_stop (stops.Refused r) path_is gives = record {
      kept = answers_so (Refused r) (subst (λ r. AnswersOf k.key (Refused r)) (sym path_is) refl);
      listed = λ h. sym (ap reply_told (told_rows (d.content disk) text at k is ∙ ap as_rows (gives h)));
    }
    answers_by_stop stops.NoMemory path_is gives = tt
    answers_by_stop stops.DiskFailed path_is gives = tt

    pub answers_stopped : (stop : Stop) (result : Result Reply Stop) → Stops result stop → IfRefused (λ r. r ≡ Unreadable (manifest_path k.key)) stop
        → (d.honest disk → Gives (λ rows. rows) (Err stop) (rows_read (d.content disk) k)) → IfOk (told result) (TellsFiles d disk text at)
    answers_stopped stop result stops path_is gives = stopped (λ r. IfOk (told r) (TellsFiles d disk text at)) result stop stops (answers_by_stop stop path_is gives)

  answers_refused : (r : Refusal) → to_tell text at ≡ Err r → TellsFiles d disk text at (Refused r)
  answers_refused r is = record {
    kept = subst (λ found. AnswersFiles found (Refused r)) (sym is) refl;
    listed = λ h. sym (ap reply_told (told_refused (d.content disk) text at r is));
  }

-- ---- refused by its tests

-- what they decide, where they stop it
abbrev pub Refuses : List ℕ → KeptAt → Stop → Type 0
Refuses text at (stops.Refused r) = (to_tell text at ≡ Err r) × ReplyHasText (Refused r)
Refuses text at stops.NoMemory = Unit {0}
Refuses text at stops.DiskFailed = ⊥

-- by its head
pub head_refuses : (text : List ℕ) {D : Type 0} (parts : Parts D) (lane : ℕ) (stop : Stop) → Decides (λ (key : SnapshotKey). key) (key_in text) parts lane (Err stop) → Refuses text (kept_at parts lane) stop
head_refuses text parts lane (stops.Refused r) says = (tell_unnamed text (kept_at parts lane) r says.0, says.1)
head_refuses text parts lane stops.NoMemory says = tt
head_refuses text parts lane stops.DiskFailed says = absurd says

-- by the snapshot
pub found_refuses : (text : List ℕ) (at : KeptAt) (key : SnapshotKey) (stop : Stop) → key_in text at ≡ Ok key → Finds (whole_of key at.catalogue) (Err stop) → Refuses text at stop
found_refuses text at key (stops.Refused r) is says = (tell_named text at key (Err r) is says.0, says.1)
found_refuses text at key stops.NoMemory is says = tt
found_refuses text at key stops.DiskFailed is says = absurd says

module _ (text : List ℕ) {D : Type 0} (d : Ghosts D) (old new : Parts D) (at : Place) (stop : Stop) (result : Result Reply Stop) (stops_so : Stops result stop) (refuses : Refuses text (kept_at old at.lane) stop) where
  abbrev x : KeptAt
  x = kept_at old at.lane

  answer : (y : Stop) → Refuses text x y → IfOk (told (Err y)) (TellsFiles d old.disk text x)
  answer (stops.Refused r) says = answers_refused text x d old.disk r says.0
  answer stops.NoMemory says = tt
  answer stops.DiskFailed says = absurd says

  pub refused_answers : IfOk (told result) (TellsFiles d old.disk text x)
  refused_answers = stopped (λ r. IfOk (told r) (TellsFiles d old.disk text x)) result stop stops_so (answer stop refuses)

  tell : (y : Stop) → Refuses text x y → TellsUnreadable d old.disk (asked_files text x) (kind_by (told (Err y))) (Some (reply_by (told (Err y))))
  tell (stops.Refused r) says = tells_refused d old.disk text x r says.0
  tell stops.NoMemory says = tells_failed d old.disk (asked_files text x) disks.NoMemory
  tell stops.DiskFailed says = absurd says

  pub refused_tells : TellsUnreadable d old.disk (asked_files text x) (kind_by (told result)) (Some (reply_by (told result)))
  refused_tells = stopped (λ r. TellsUnreadable d old.disk (asked_files text x) (kind_by (told r)) (Some (reply_by (told r)))) result stop stops_so (tell stop refuses)

  does : (y : Stop) → Refuses text x y → Stops result y → new.disk ≡ old.disk → SameKept old new → ActDoes d old new at (Plain (FilesOf text)) result
  does (stops.Refused r) says is same kept =
      refused_does d old new at (Plain (FilesOf text)) r result is same kept says.1 (tell_refuses text x (λ q. IsTrue (answers_files (Refused q))) refl refl (λ name. refl) r says.0)
      (λ s shows. files_refused s at.lane at.moment text x (key_in_is old s at.lane text) shows.catalogue r says.0)
  does stops.NoMemory says is same kept = short_does d old new at (Plain (FilesOf text)) result is same kept
  does stops.DiskFailed says is same kept = absurd says

  pub refused_files : new.disk ≡ old.disk → SameKept old new → ActDoes d old new at (Plain (FilesOf text)) result
  refused_files same kept = does stop refuses stops_so same kept

-- ---- the refusal

-- it is one of the act's
pub refuses_unread : (k : Kept) (stop : Stop) → IfRefused (λ r. r ≡ Unreadable (manifest_path k.key)) stop → IfRefused (λ r. IsTrue (answers_files (Refused r))) stop
refuses_unread k stop is = refused_as (λ r. r ≡ Unreadable (manifest_path k.key)) (λ r. IsTrue (answers_files (Refused r))) stop (λ r e. subst (λ q. IsTrue (answers_files (Refused q))) (sym e) refl) is

-- and comes by a call of the disk
pub called : (P : Type 0) (k : Kept) (stop : Stop) → IfRefused (λ r. r ≡ Unreadable (manifest_path k.key)) stop → IfRefused (λ r. is_uncalled r ≡ true → P) stop
called P k stop is = refused_as (λ r. r ≡ Unreadable (manifest_path k.key)) (λ r. is_uncalled r ≡ true → P) stop (λ r e t. absurd (apart (sym (ap is_uncalled e) ∙ t))) is
  where
    apart : false ≡ true → ⊥
    apart e = cc

-- ---- the act

module _ {D : Type 0} (d : Ghosts D) (old : Parts D) (s : Store) (lane moment : ℕ) (text : List ℕ) (k : Kept) (h : Holds d old s) (is : to_tell text (kept_at old lane) ≡ Ok k) where
  files_step : HasBytes (d.content old.disk) (manifest_path k.key) → outcome s lane moment (FilesOf text) ≡ (rows_read (d.content old.disk) k >>= λ rows. tells s (Files rows))
  files_step are = files_read s lane moment text (kept_at old lane) (key_in_is old s lane text) (h.shows).catalogue (d.content old.disk) k ((h.files).snapshots).each ((h.files).snapshots).files (told_whole text (kept_at old lane) k is).0 are

  pub files_stop : (stop : Stop) → IfTold {A = List FileRow} (Err stop) (HasBytes (d.content old.disk) (manifest_path k.key)) → Gives (λ rows. rows) (Err stop) (rows_read (d.content old.disk) k)
      → IfRefused (λ refusal. outcome s lane moment (FilesOf text) ≡ Err refusal) stop
  files_stop (stops.Refused r) are gives = files_step are ∙ ap (λ (r : Result (List FileRow) Refusal). r >>= λ rows. tells s (Files rows)) gives
  files_stop stops.NoMemory are gives = tt
  files_stop stops.DiskFailed are gives = tt

  pub files_rows : (rows : List FileRow) → HasBytes (d.content old.disk) (manifest_path k.key) → rows_read (d.content old.disk) k ≡ Ok rows → outcome s lane moment (FilesOf text) ≡ Ok (s, Files rows)
  files_rows rows are read = files_step are ∙ ap (λ (r : Result (List FileRow) Refusal). r >>= λ rows. tells s (Files rows)) read
