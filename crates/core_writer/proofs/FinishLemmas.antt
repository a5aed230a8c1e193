-- FINISH is the store's.
use Rattle.disk_trait.specs.declared.disk.Disk.{Ghosts}
use Rattle.std.proofs.Common.{◌≡◌, ◌≢◌, ℕ, ◌<◌, Bool, true, false, not, ◌&&◌, ◌==◌, cond, length, get_or, set, map, List, [], ◌∷◌, ◌++◌, append_assoc, eqb-true, inl, Option, Some, None, Result, Ok, Err, IfErr, IsErrAnd, MatchResult, refl, sym, ap, subst, ◌∙◌, arith}
use Rattle.std.proofs.lemmas.Bool.{eqb-false, and_parts, and_from, false_from_ne_true}
use Rattle.std.proofs.lemmas.List.{length-set}
use Rattle.std.specs.FinMap.{get, remove}
use Rattle.std.specs.List.{All, AllByRecursion}
use Rattle.std.specs.Prelude.{IsOk, is_some, codes}
use Rattle.disk_trait.specs.Files.{Files}
use Rattle.disk_trait.specs.Laws.{placed_same, placed_other, differs}
use Rattle.file_install.specs.Install.{temporary, installed}
use Rattle.store_types.specs.declared.names.SnapshotKey.{SnapshotKey}
use Rattle.store_types.specs.declared.refusal.Refusal.{Refusal}
use Rattle.store_types.specs.declared.refusal.Refusal.TheVariants.{NoFile, NoMemory, OpenIndexes, WrongState, BadManifest, ManifestMismatch}
use Rattle.store_types.specs.Chain.Refusing.{◌>>=◌, unless, or_else, if_none}
use Rattle.store_types.specs.FileNames.{manifest_name, is_dynamic_name, is_fixed_name}
use Rattle.store_types.specs.Names.{key_lt, key_text, same_group, group_of_key}
use Rattle.store_files.specs.Archive.{File, Snapshot, Content, Layout, archive, blob, dynamic, fixed, file_text}
use Rattle.store_files.specs.Manifest.{Manifest, manifest_of as manifest_of_bytes}
use Rattle.store_files.specs.Manifest.Mismatch.{Mismatch}
use Rattle.lock_book.specs.Locks.{Releases}
use Rattle.wire_commands.specs.HasText.{FitsRefusal, ReplyHasText}
use Rattle.wire_commands.specs.declared.command.Command.TheVariants.{Finish}
use Rattle.wire_commands.specs.declared.reply.Reply.TheVariants.{Done, Refused}
use Rattle.store_model.specs.Store as model
use Rattle.store_model.specs.Manifests.{want_manifest, mismatch_refusal, finish_check}
use Rattle.store_model.specs.Store.{Begun, Store, Writer, none, writer, session, Outcome, in_group, insert_snapshot}
use Rattle.store_files.specs.Folder.{file_path}
use Rattle.store_model.specs.WriterSteps.{snapshot_of, finish}
use Rattle.store_model.specs.Steps.{outcome}
use Rattle.store_model.specs.Stands.{IsSnapshot, group_limit, names_content}
use Rattle.store_model.specs.Done.{finished}
use Rattle.store_files.specs.Folder.{chunk_name, manifest_path}
use Rattle.store_model.proofs.Paths.{manifest_plain, chunk_apart, same_path}
use Rattle.store_model.proofs.Insertions.{All-insert, find-insert, length-in_group-insert, rise-insert}
use Rattle.store_model.proofs.FileInsertions.{only_named}
use Rattle.store_model.proofs.StandsLemmas.{Apart, Puts, IsReady, agrees_off, apart_file, different, stands_agree, stands_finished, groups_insert}
use Rattle.store_model.proofs.ListingLemmas.{listing_lists}
use Rattle.backup_session.specs.Finish as checks
use Rattle.backup_session.specs.Session as rows
use Rattle.backup_session.specs.Shown.{IsOpen, Shows, shown}
use Rattle.core_state.specs.declared.kept.Kept.{Kept}
use Rattle.core_state.specs.declared.kept.Listed.{Listed}
use Rattle.core_state.specs.declared.kept.Writing.{Writing}
use Rattle.core_state.specs.declared.kept.Session.{Session}
use Rattle.core_state.specs.declared.kept.Session.TheVariants as sessions
use Rattle.core_state.specs.declared.parts.Parts.{Parts}
use Rattle.core_state.specs.Named.{has_text, is_named}
use Rattle.core_state.specs.Shown.{shown_snapshot, shown_writer, shown_session}
use Rattle.core_state.specs.Holds as plain
use Rattle.core_state.specs.Holds.{IsBegun, IsSound, IsWriter, IsReader, IsOlder, HasUploads, IsOnDisk, Holds}
use Rattle.core_state.proofs.Sessions.{changed, shown_set, no_writer_none, no_reader_none}
use Rattle.core_state.proofs.LockLemmas.{locked_ended}
use Rattle.core_state.proofs.Soundness.{sound_idle}
use Rattle.core_state.proofs.OnDisk.{IsOff, fresh, names_plain, off_other, keys_apart, uploads_off, pieces_there}
use Rattle.core_state.proofs.Commanding.{is_writing, writer_shown}
use Rattle.core_state.proofs.Commanding.{session_shown}
use Rattle.core_state.proofs.Completing.{HasManifest, has_manifest, listed, no_listing, no_manifest}
use Rattle.core_state.proofs.NamedLemmas.{list_all-at, writer_named}
use Rattle.core_state.specs.declared.entering.Place.{Place}
use Rattle.store_stops.specs.declared.stop.Stop.{Stop}
use Rattle.store_stops.specs.declared.stop.Stop.TheVariants as Stopped
use Rattle.store_stops.specs.Outcomes.{IfAnswered}
use Rattle.store_stops.specs.Stops.{IfRefused, answered_of}
use Rattle.std.proofs.lemmas.List.{get_or_default}
use Rattle.core_state.specs.Wanted.{session_at, want_writer}
use Rattle.core_state.specs.Chunks.{AddsChunks}
use Rattle.core_writer.specs.Finished.{TestedBy, manifest_in}
use Rattle.core_writer.specs.Stopping.{StopsBy}
use Rattle.core_writer.proofs.EndingLemmas.{remove_less}
use Rattle.store_history.specs.declared.act.Act.TheVariants as acts
use Rattle.sha2.specs.Sha256.{sha256}
use Rattle.blob_codec.specs.Blob as blobs
use Rattle.store_history.specs.Replies.{refuses_finish}
use Rattle.core_state.specs.declared.indexes.Indexes.{Indexes}
use Rattle.core_state.specs.declared.indexes.Indexes.TheVariants.{Unread}
use Rattle.core_state.specs.Indexed.{FitsRows}
use Rattle.core_state.proofs.Readers.{finished_stays, sessions_finished}
use Rattle.core_state.proofs.Rows.{rows_among, rows_set}
use Rattle.core_state.proofs.Texts.{wrong_state_has_text, no_file_has_text, open_indexes_has_text, bad_manifest_has_text, mismatch_has_text}
use Rattle.core_state.specs.Catalogue.{insert_listed, listed_of, closed}
use Rattle.core_state.specs.Changes as changes
use Rattle.core_state.specs.Changes.{finish_by, finish_put, kept_manifest}

-- ---- the manifest

-- where the manifest of a session stands
manifest_there : (snapshots : List Snapshot) (x : model.Session) (path text : List ℕ) → manifest_in (shown_session snapshots x) ≡ Some (path, text) → (key : SnapshotKey) × (path ≡ manifest_path key)
manifest_there snapshots model.none path text e = cc
manifest_there snapshots (model.writer w) path text e = (w.key, (has_manifest w path text e).is_path)
manifest_there snapshots (model.reader r) path text e = cc

-- ---- the step

abbrev finish_then : Store → ℕ → Result Writer Refusal → Outcome
finish_then s lane r = r >>= λ w. finish_check w >>= λ _. Ok (finished s lane w, Done)

module _ (s : Store) (lane moment : ℕ) where
  step_is : outcome s lane moment Finish ≡ finish_then s lane (model.want_writer (session s lane))
  unfolding outcome finish
  step_is = refl

  pub not_writing : (r : Refusal) → model.want_writer (session s lane) ≡ Err r → outcome s lane moment Finish ≡ Err r
  not_writing r e = step_is ∙ ap (finish_then s lane) e

  writing_is : (w : Writer) → session s lane ≡ writer w → outcome s lane moment Finish ≡ finish_then s lane (Ok w)
  writing_is w at = step_is ∙ ap (λ x. finish_then s lane (model.want_writer x)) at

  pub refused : (w : Writer) (r : Refusal) → session s lane ≡ writer w → finish_check w ≡ Err r → outcome s lane moment Finish ≡ Err r
  refused w r at is = writing_is w at ∙ ap (λ (x : Result Manifest Refusal). x >>= λ _. let o : Outcome = Ok (finished s lane w, Done) in o) is

  pub finishes : (w : Writer) (m : Manifest) → session s lane ≡ writer w → finish_check w ≡ Ok m → outcome s lane moment Finish ≡ Ok (finished s lane w, Done)
  finishes w m at is = writing_is w at ∙ ap (λ (x : Result Manifest Refusal). x >>= λ _. let o : Outcome = Ok (finished s lane w, Done) in o) is

-- ---- what the check makes sure of

pub checked_there : (w : Writer) (m : Manifest) → finish_check w ≡ Ok m → kept_manifest (shown_writer w) ≡ None → ⊥
checked_there w m is absent = no_listing w.key w.files m (no_manifest w absent) (listed w m is)

-- ---- the refusals

size_refuses : (r x : Refusal) (A : Type 0) → refuses_finish x ≡ true → ◌≡◌ {A = Result A Refusal} (Err x) (Err r) → refuses_finish r ≡ true
size_refuses r x A is e = let same : x ≡ r = cc in ap refuses_finish (sym same) ∙ is

pub check_refuses : (w : rows.Writing) (r : Refusal) → checks.finish_check w ≡ Err r → refuses_finish r ≡ true
unfolding checks.finish_check checks.manifest_from
check_refuses w r is = by_open (length w.begun == 0) is
  where
    by_mismatch : (o : Option Mismatch) (n : Manifest) → (if_none mismatch_refusal o >>= λ _. Ok n) ≡ Err r → refuses_finish r ≡ true
    by_mismatch None n e = cc
    by_mismatch (Some x) n e = size_refuses r (mismatch_refusal x) Manifest refl e

    by_manifest : (q : Result Manifest ℕ) → ((elim q [ Ok m ↦ Ok m | Err cause ↦ Err (BadManifest cause) ]) >>= λ n. checks.want_listed n w.key w.files >>= λ _. Ok n) ≡ Err r → refuses_finish r ≡ true
    by_manifest (Ok n) e = by_mismatch _ n e
    by_manifest (Err cause) e = size_refuses r (BadManifest cause) Manifest refl e

    by_data : (o : Option (List ℕ)) → (or_else NoFile o >>= λ bytes. want_manifest bytes >>= λ n. checks.want_listed n w.key w.files >>= λ _. Ok n) ≡ Err r → refuses_finish r ≡ true
    by_data None e = size_refuses r NoFile Manifest refl e
    by_data (Some bytes) e = by_manifest (manifest_of_bytes bytes) e

    by_open : (b : Bool) → (unless (OpenIndexes (length w.begun)) b >>= λ _. or_else NoFile (checks.data_in w.manifest) >>= λ bytes. want_manifest bytes >>= λ n. checks.want_listed n w.key w.files >>= λ _. Ok n) ≡ Err r → refuses_finish r ≡ true
    by_open true e = by_data (checks.data_in w.manifest) e
    by_open false e = size_refuses r (OpenIndexes (length w.begun)) Manifest refl e

pub finish_has_text : (r : Refusal) → refuses_finish r ≡ true → FitsRefusal r → ReplyHasText (Refused r)
finish_has_text (WrongState state) is fits = wrong_state_has_text state
finish_has_text NoFile is fits = no_file_has_text
finish_has_text (OpenIndexes count) is fits = open_indexes_has_text count fits
finish_has_text (BadManifest cause) is fits = bad_manifest_has_text cause fits.0 fits.1
finish_has_text (ManifestMismatch file field) is fits = mismatch_has_text file field fits
finish_has_text _ is fits = cc

-- where the check of what the session keeps stops the command
pub check_stops : {A : Type 0} (w : rows.Writing) (view : A → Manifest) (told : Result A Refusal) (stop : Stop) (result : Result (Unit {0}) Stop) → answered_of told ≡ Err stop
    → IfAnswered told (λ t. MatchResult t (λ m. checks.finish_check w ≡ Ok (view m)) (λ r. checks.finish_check w ≡ Err r)) → IfErr told FitsRefusal
    → IsErrAnd result (λ x. x ≡ stop) → IfErr result (StopsBy refuses_finish)
check_stops w view told stop (Ok u) was gives fits is = absurd is
check_stops w view (Ok m) stop (Err x) was gives fits is = cc
check_stops w view (Err NoMemory) stop (Err x) was gives fits is = let same : Stopped.NoMemory ≡ x = cc in subst (StopsBy refuses_finish) same tt
check_stops w view (Err r) stop (Err x) was gives fits is =
    let same : Stopped.Refused r ≡ x = cc in
    subst (StopsBy refuses_finish) same (let kind = check_refuses w r gives in (kind, finish_has_text r kind fits))

-- and what it then tells of a writer that the session shows
pub check_tells : {A : Type 0} (tested : Result Manifest Refusal) (view : A → Manifest) (told : Result A Refusal) (stop : Stop) (result : Result (Unit {0}) Stop) → answered_of told ≡ Err stop
    → IfAnswered told (λ t. MatchResult t (λ m. tested ≡ Ok (view m)) (λ r. tested ≡ Err r)) → IsErrAnd result (λ x. x ≡ stop) → TestedBy tested result
check_tells tested view told stop (Ok u) was gives is = absurd is
check_tells tested view (Ok m) stop (Err x) was gives is = cc
check_tells tested view (Err NoMemory) stop (Err x) was gives is = let same : Stopped.NoMemory ≡ x = cc in subst (λ y. TestedBy tested (Err y)) same tt
check_tells tested view (Err r) stop (Err x) was gives is = let same : Stopped.Refused r ≡ x = cc in subst (λ y. TestedBy tested (Err y)) same gives

pub shows_found : (s : Store) (w : Writing) (v : Writer) → shown_writer v ≡ w → IsWriter s.snapshots v → Shows (w.session).writer v
shows_found s w v is h = record { same = sym (ap (λ x. (x.session).writer) is); begun = all_open v.pool v.begun h.begun }
  where
    all_open : (pool : List (List ℕ)) (bs : List Begun) → AllByRecursion (IsBegun pool) bs → AllByRecursion IsOpen bs
    all_open pool [] h = tt
    all_open pool (b ∷ bs) h = ((h.0).is_open, all_open pool bs h.1)

-- ---- the store after

is_snapshot : (s : Store) (w : Writer) (m : Manifest) → IsWriter s.snapshots w → finish_check w ≡ Ok m → IsSnapshot (snapshot_of w)
is_snapshot s w m h is = record {
  key = h.key;
  names = h.names;
  kinds = h.kinds;
  contents = h.contents;
  manifest = let c = h.count in listing_lists w.key w.files m (listed w m is) (omega (arith, c));
  count = let c = h.count in omega (arith, c);
}

-- ---- the manifest's temporary name

abbrev staged_name : List ℕ
staged_name = temporary manifest_name

temporary_is : (key : SnapshotKey) → temporary (manifest_path key) ≡ file_path key staged_name
temporary_is key = append_assoc (key_text key ++ codes "/") manifest_name (codes ".tmp")

-- a writer's file has another name
not_staged : (c : Content) → names_content c staged_name ≡ true → ⊥
not_staged (blob bytes) e = false_true e
  where
    false_true : false ≡ true → ⊥
    false_true e = cc
not_staged (archive a) e = by_layout a.layout e
  where
    by_layout : (l : Layout) → elim l [ dynamic ↦ is_dynamic_name staged_name | fixed size chunk_size ↦ is_fixed_name staged_name ] ≡ true → ⊥
    by_layout dynamic e = cc
    by_layout (fixed size chunk_size) e = cc

own_off : (snapshots : List Snapshot) (w : Writer) → IsWriter snapshots w → IsOff w (file_path w.key staged_name)
own_off snapshots w h = λ i d l e.
    let f = get_or w.files i d in
    let same = (same_path w.key w.key f.name staged_name h.key h.key (names_plain snapshots w h i d l) refl e).1 in
    not_staged f.content (subst (λ n. names_content f.content n ≡ true) same (h.kinds i d l))

by_lane : (i j : ℕ) (P : Type 0) → (i ≡ j → P) → (i ≢ j → P) → P
by_lane i j P same other = by_test (i == j) refl
  where
    by_test : (b : Bool) → (i == j) ≡ b → P
    by_test true e = same (eqb-true i j e)
    by_test false e = other (eqb-false i j e)

count_cond : {A : Type 0} (b : Bool) (x : A) (xs : List A) → b ≡ false → length (cond b (x ∷ xs) xs) ≡ length xs
count_cond true x xs e = cc
count_cond false x xs e = refl

module _ (s : Store) (lane : ℕ) (w : Writer) (path text : List ℕ) (listing : Manifest) (lt : lane < 64) (h : IsSound s) (at : session s lane ≡ writer w) (m : HasManifest w path text) (check : finish_check w ≡ Ok listing) where
  -- another lane's writer is of another group
  other_group : (i : ℕ) (v : Writer) → i ≢ lane → session s i ≡ writer v → same_group (group_of_key w.key) (group_of_key v.key) ≡ false
  other_group i v ne is = false_from_ne_true (same_group (group_of_key w.key) (group_of_key v.key)) (λ e. ne (sym (h.apart lane i w v at is e)))

  other_writer : (i : ℕ) (v : Writer) → i ≢ lane → session s i ≡ writer v → IsWriter (insert_snapshot (snapshot_of w) s.snapshots) v
  other_writer i v ne is = let o = h.writers i v is in record {
    key = o.key;
    newer = All-insert (IsOlder v) (snapshot_of w) s.snapshots (λ same. absurd (both_ways (sym same ∙ other_group i v ne is))) o.newer;
    room = subst (λ n. n < group_limit)
        (sym (length-in_group-insert (group_of_key v.key) (snapshot_of w) s.snapshots ∙ count_cond (same_group (group_of_key w.key) (group_of_key v.key)) (snapshot_of w) (in_group (group_of_key v.key) s.snapshots) (other_group i v ne is))) o.room;
    names = o.names;
    kinds = o.kinds;
    contents = o.contents;
    count = o.count;
    pool = o.pool;
    begun = o.begun;
    pooled = o.pooled;
    free = o.free;
    differ = o.differ;
  }
    where
      both_ways : true ≡ false → ⊥
      both_ways e = cc

  whole : IsSnapshot (snapshot_of w)
  whole = is_snapshot s w listing (h.writers lane w at) check

  new : All (λ x. x.key ≢ w.key) s.snapshots
  new = fresh s.snapshots w (h.writers lane w at)

  pub sound_finished : IsSound (finished s lane w)
  sound_finished = let l : lane < length s.sessions = omega (arith, h.lanes, lt) in record {
    lanes = length-set s.sessions lane none ∙ h.lanes;
    order = rise-insert (snapshot_of w) s.snapshots (λ k d lt2. different (get_or s.snapshots k d).key w.key (new k d lt2)) h.order;
    each = All-insert IsSnapshot (snapshot_of w) s.snapshots whole h.each;
    groups = λ group. groups_insert s.snapshots (snapshot_of w) group (h.writers lane w at).room (h.groups group);
    writers = λ i v is. changed s lane none i (writer v) (IsWriter (insert_snapshot (snapshot_of w) s.snapshots) v) l is (λ e n. absurd (no_writer_none v n)) (λ ne old. other_writer i v ne old);
    readers = λ i r is. changed s lane none i (model.reader r) (IsReader (insert_snapshot (snapshot_of w) s.snapshots) r) l is (λ e n. absurd (no_reader_none r n))
        (λ ne old. record { finished = find-insert r.key (snapshot_of w) s.snapshots (h.readers i r old).finished });
    apart = (sound_idle s lane lt h).apart;
  }

  ready : (f : Files) → IsOnDisk f s → All (IsReady f w.key text) w.files
  ready f disk = λ i d l. (
    (disk.writers lane w at).files i d l,
    λ e. ap (λ (x : File). file_text x.content) (only_named manifest_name w.files m.file (h.writers lane w at).names m.found i d l e) ∙ sym m.is_text,
  )

  put_on_disk : (f g : Files) → Puts f g (manifest_path w.key) text → IsOnDisk f s → IsOnDisk g (finished s lane w)
  put_on_disk f g puts disk = let l : lane < length s.sessions = omega (arith, h.lanes, lt) in record {
    snapshots = stands_finished f g s.snapshots (snapshot_of w) text whole new puts disk.snapshots (h.writers lane w at).room (ready f disk) (pieces_there f s.snapshots w (h.writers lane w at) (disk.writers lane w at));
    writers = λ i v is. changed s lane none i (writer v) (HasUploads g v) l is (λ e n. absurd (no_writer_none v n))
        (λ ne old. uploads_off f g v (λ q. q ≡ manifest_path w.key) (λ q off. puts.others q off)
        (λ q e. subst (IsOff v) (sym e) (off_other s.snapshots v w.key manifest_name (h.writers i v old) (h.writers lane w at).key manifest_plain (keys_apart s i lane v w h ne old at)))
        (λ digest q e same_name. chunk_apart digest w.key manifest_name (same_name ∙ e)) (disk.writers i v old));
  }

  -- nothing of the store stands at the manifest's temporary name
  off_temporary : (i : ℕ) (v : Writer) → session s i ≡ writer v → IsOff v (temporary (manifest_path w.key))
  off_temporary i v is = subst (IsOff v) (sym (temporary_is w.key)) (by_lane i lane (IsOff v (file_path w.key staged_name))
      (λ same. subst (λ x. IsOff x (file_path w.key staged_name)) (same_writer (sym at ∙ ap (session s) (sym same) ∙ is)) (own_off s.snapshots w (h.writers lane w at)))
      (λ ne. off_other s.snapshots v w.key staged_name (h.writers i v is) (h.writers lane w at).key refl (keys_apart s i lane v w h ne is at)))
    where
      same_writer : {v : Writer} → writer w ≡ writer v → w ≡ v
      same_writer e = cc

  cleared_on_disk : (f : Files) → IsOnDisk f s → IsOnDisk (remove f (temporary (manifest_path w.key))) s
  cleared_on_disk f disk =
      let q = temporary (manifest_path w.key) in
      let same : (p : List ℕ) → (p ≡ q → ⊥) → get (remove f q) p ≡ get f p = λ p ne. placed_other f q None p ne in
      let apart : Apart s.snapshots q = subst (Apart s.snapshots) (sym (temporary_is w.key)) (apart_file s.snapshots w.key staged_name h.each (h.writers lane w at).key refl (differs _ _ refl) new) in record {
        snapshots = stands_agree f (remove f q) s.snapshots (agrees_off f (remove f q) s.snapshots (λ p. p ≡ q) same (λ p e. subst (Apart s.snapshots) (sym e) apart)) disk.snapshots;
        writers = λ i v is. uploads_off f (remove f q) v (λ p. p ≡ q) same (λ p e. subst (IsOff v) (sym e) (off_temporary i v is)) (λ digest p e there. apart.chunks digest (there ∙ e)) (disk.writers i v is);
      }

  pub finished_on_disk : (f : Files) → IsOnDisk f s → IsOnDisk (installed f (manifest_path w.key) text) (finished s lane w)
  finished_on_disk f disk =
      let q = temporary (manifest_path w.key) in
      let r = remove f q in
      put_on_disk r (installed f (manifest_path w.key) text) (record {
        there = placed_same r (manifest_path w.key) (Some text);
        others = λ p ne. placed_other r (manifest_path w.key) (Some text) p ne;
      }) (cleared_on_disk f disk)

-- ---- the catalogue

abbrev insert_kept : Kept → List Kept → List Kept
insert_kept new [] = new ∷ []
insert_kept new (x ∷ xs) = cond (key_lt new.key x.key) (new ∷ x ∷ xs) (x ∷ insert_kept new xs)

abbrev all_kept : List Listed → List Kept
all_kept xs = map (λ (x : Listed). x.kept) xs

kept_listed : (listed : Listed) (xs : List Listed) → all_kept (insert_listed listed xs) ≡ insert_kept listed.kept (all_kept xs)
kept_listed listed [] = refl
kept_listed listed (x ∷ xs) = by_test (key_lt (listed.kept).key (x.kept).key) (kept_listed listed xs)
  where
    by_test : (b : Bool) → all_kept (insert_listed listed xs) ≡ insert_kept listed.kept (all_kept xs) → all_kept (cond b (listed ∷ x ∷ xs) (x ∷ insert_listed listed xs)) ≡ cond b (listed.kept ∷ x.kept ∷ all_kept xs) (x.kept ∷ insert_kept listed.kept (all_kept xs))
    by_test true e = refl
    by_test false e = ap (λ (l : List Kept). x.kept ∷ l) e

shown_listed : (snapshot : Snapshot) (xs : List Snapshot) → map shown_snapshot (insert_snapshot snapshot xs) ≡ insert_kept (shown_snapshot snapshot) (map shown_snapshot xs)
shown_listed snapshot [] = refl
shown_listed snapshot (x ∷ xs) = by_test (key_lt snapshot.key x.key) (shown_listed snapshot xs)
  where
    by_test : (b : Bool) → map shown_snapshot (insert_snapshot snapshot xs) ≡ insert_kept (shown_snapshot snapshot) (map shown_snapshot xs)
        → map shown_snapshot (cond b (snapshot ∷ x ∷ xs) (x ∷ insert_snapshot snapshot xs)) ≡ cond b (shown_snapshot snapshot ∷ shown_snapshot x ∷ map shown_snapshot xs) (shown_snapshot x ∷ insert_kept (shown_snapshot snapshot) (map shown_snapshot xs))
    by_test true e = refl
    by_test false e = ap (λ (l : List Kept). shown_snapshot x ∷ l) e

-- a named writer's snapshot is in form
pub named_key : (s : Session) (w : Writing) (key : SnapshotKey) → is_named s ≡ true → s ≡ sessions.Writer w → key ≡ ((w.session).writer).key → (has_text key && true) ≡ true
named_key s w key named is same =
    let both = and_parts (has_text ((w.session).writer).key) (not (is_some (w.session).pending)) (sym (ap is_named is) ∙ named) in
    and_from (has_text key) true (ap has_text same ∙ both.0) refl

-- ---- the exits of the act

-- the change of a FINISH, by the session
pub finish_change : (x : Session) (path text : List ℕ) → manifest_in x ≡ Some (path, text) → finish_by x ≡ changes.finishes path text
finish_change sessions.Idle path text e = cc
finish_change (sessions.Writer w) path text e = ap finish_put e
finish_change (sessions.Reader r) path text e = cc

-- no file of the writer is pending
pub settled_by : {D : Type 0} (parts : Parts D) (lane : ℕ) (w : Writing) → lane < 64 → want_writer (session_at parts lane) ≡ Ok w → (w.session).pending ≡ None
settled_by parts lane w lt is =
    let items = parts.sessions.items in
    let within : lane < length items = omega (arith, parts.lanes, parts.sessions.ok.0, lt) in
    let x = session_at parts lane in
    (writer_named w (sym (ap is_named (is_writing x w is)) ∙ list_all-at is_named items lane x parts.named within (sym (get_or_default items lane x sessions.Idle within)))).1

module _ {D : Type 0} (old : Parts D) (s : Store) (at : Place) (w : Writing) (shows : plain.Shows old s) (lt : at.lane < 64) (is : want_writer (session_at old at.lane) ≡ Ok w) where
  shown_by : (v : Writer) × (session s at.lane ≡ writer v) × (shown_writer v ≡ w)
  shown_by = writer_shown old s at.lane w shows lt is

  tested : (r : Result (Unit {0}) Stop) → ((v : Writer) → Shows (w.session).writer v → TestedBy (finish_check v) r) → TestedBy (finish_check shown_by.0) r
  tested r plainly = plainly shown_by.0 (shows_found s w shown_by.0 shown_by.2 ((shows.sound).writers at.lane shown_by.0 shown_by.1))

  pub tests_refuse : (stop : Stop) → ((v : Writer) → Shows (w.session).writer v → TestedBy (finish_check v) (Err stop)) → IfRefused (λ refusal. outcome s at.lane at.moment Finish ≡ Err refusal) stop
  tests_refuse (Stopped.Refused refusal) plainly = refused s at.lane at.moment shown_by.0 refusal shown_by.1 (tested (Err (Stopped.Refused refusal)) plainly)
  tests_refuse Stopped.NoMemory plainly = tt
  tests_refuse Stopped.DiskFailed plainly = tt

  kept_is : manifest_in (session_at old at.lane) ≡ kept_manifest (shown_writer shown_by.0)
  kept_is = ap manifest_in (is_writing (session_at old at.lane) w is) ∙ ap kept_manifest (sym shown_by.2)

  pub tests_there : {P : Type 0} → ((v : Writer) → Shows (w.session).writer v → TestedBy (finish_check v) (Ok tt)) → manifest_in (session_at old at.lane) ≡ None → P
  tests_there plainly absent = let t = tested (Ok tt) plainly in absurd (checked_there shown_by.0 t.0 t.1 (sym kept_is ∙ absent))

  -- where the tests passed the plain store's FINISH is done
  pub tests_done : ((v : Writer) → Shows (w.session).writer v → TestedBy (finish_check v) (Ok tt)) → IsOk (finish s at.lane)
  unfolding outcome
  tests_done plainly =
      let t = tested (Ok tt) plainly in
      let done : finish s at.lane ≡ Ok (finished s at.lane shown_by.0, Done) = finishes s at.lane at.moment shown_by.0 t.0 shown_by.1 t.1 in
      subst IsOk (sym done) refl

-- what the other lanes keep of indexes is of their sessions then too
finished_rows : (s : Store) (lane : ℕ) (w : Writer) (rows : List Indexes) → IsSound s → session s lane ≡ writer w → lane < length s.sessions → lane < length rows → FitsRows s rows
    → FitsRows (finished s lane w) (set rows lane Unread)
finished_rows s lane w rows sound at within there fit =
    let put : Store = record s { snapshots = insert_snapshot (snapshot_of w) s.snapshots } in
    rows_set put lane none rows within (rows_among s put rows refl (λ i key uses y found. finished_stays s lane w sound at key y found) fit) Unread there tt

-- ---- the act

module _ {D : Type 0} (d : Ghosts D) where
  finish_stands : (old new : Parts D) (s : Store) (lane moment number : ℕ) (w : Writer) (path text : List ℕ) (listing : Manifest) → lane < 64 → session s lane ≡ writer w → finish_check w ≡ Ok listing → kept_manifest (shown_writer w) ≡ Some (path, text)
      → (d.honest old.disk → d.content new.disk ≡ installed (d.content old.disk) path text)
      → new.catalogue.listed ≡ closed number (session_at old lane) old.catalogue.listed → new.sessions.items ≡ set old.sessions.items lane sessions.Idle → Releases old.locks new.locks lane → new.indexes.items ≡ set old.indexes.items lane Unread
      → Holds d old s → (after : Store) × (outcome s lane moment Finish ≡ Ok (after, Done)) × plain.Shows new after × IsOnDisk (d.content new.disk) after
  unfolding shown
  finish_stands old new s lane moment number w path text listing lt at check manifest put c l k rows h =
      let sound = (h.shows).sound in
      let m = has_manifest w path text manifest in
      let is : session_at old lane ≡ sessions.Writer (shown_writer w) = session_shown old s lane h.shows lt ∙ ap (shown_session s.snapshots) at in
      let within : lane < length s.sessions = omega (arith, sound.lanes, lt) in
      let locks = locked_ended old.locks new.locks s lane within sound (sound_idle s lane lt sound) k (h.shows).locks in
      let now : d.content new.disk ≡ installed (d.content old.disk) (manifest_path w.key) text = put h.honest ∙ ap (λ q. installed (d.content old.disk) q text) m.is_path in (
        finished s lane w,
        finishes s lane moment w listing at check,
        record {
          catalogue = ap all_kept (c ∙ ap (λ x. closed number x old.catalogue.listed) is) ∙ kept_listed (listed_of number (shown_writer w)) old.catalogue.listed
              ∙ ap (insert_kept (shown_snapshot (snapshot_of w))) (h.shows).catalogue ∙ sym (shown_listed (snapshot_of w) s.snapshots);
          sessions = l ∙ ap (λ k. set k lane sessions.Idle) ((h.shows).sessions ∙ sym (sessions_finished s lane w sound at)) ∙ sym (shown_set (insert_snapshot (snapshot_of w) s.snapshots) s lane none);
          locks = record { groups = locks.groups; shared = locks.shared };
          indexes = subst (FitsRows (finished s lane w)) (sym rows) (finished_rows s lane w old.indexes.items sound at within (omega (arith, old.rows, old.indexes.ok.0, lt)) (h.shows).indexes);
          sound = sound_finished s lane w path text listing lt sound at m check;
        },
        subst (λ f. IsOnDisk f (finished s lane w)) (sym now) (finished_on_disk s lane w path text listing lt sound at m check (d.content old.disk) h.files),
      )

  pub finish_done : (old new : Parts D) (s : Store) (at : Place) (w : Writing) (path text : List ℕ) → Holds d old s → at.lane < 64 → want_writer (session_at old at.lane) ≡ Ok w
      → ((v : Writer) → Shows (w.session).writer v → TestedBy (finish_check v) (Ok tt)) → manifest_in (session_at old at.lane) ≡ Some (path, text)
      → (d.honest old.disk → d.content new.disk ≡ installed (d.content old.disk) path text)
      → new.catalogue.listed ≡ closed at.number (session_at old at.lane) old.catalogue.listed → new.sessions.items ≡ set old.sessions.items at.lane sessions.Idle → Releases old.locks new.locks at.lane → new.indexes.items ≡ set old.indexes.items at.lane Unread
      → (after : Store) × (outcome s at.lane at.moment Finish ≡ Ok (after, Done)) × plain.Shows new after × IsOnDisk (d.content new.disk) after
  finish_done old new s at w path text h lt is plainly kept put c l k rows =
      let f = shown_by old s at w h.shows lt is in
      let t = tested old s at w h.shows lt is (Ok tt) plainly in
      finish_stands old new s at.lane at.moment at.number f.0 path text t.0 lt f.1 t.1 (sym (kept_is old s at w h.shows lt is) ∙ kept) put c l k rows h

  -- the manifest is put under no chunk's name
  pub finish_adds : (old : Parts D) (n : Files) (lane : ℕ) (path text : List ℕ) → lane < 64 → manifest_in (session_at old lane) ≡ Some (path, text)
      → (d.honest old.disk → n ≡ installed (d.content old.disk) path text) → (s : Store) → Holds d old s → AddsChunks (d.content old.disk) n (acts.Plain Finish)
  finish_adds old n lane path text lt kept put s h p there =
      let m = d.content old.disk in
      let at = session_shown old s lane h.shows lt in
      let key = manifest_there s.snapshots (session s lane) path text (ap manifest_in (sym at) ∙ kept) in
      let q = chunk_name (sha256 p) in
      let other : q ≢ path = λ e. chunk_apart (sha256 p) key.0 manifest_name (e ∙ key.1) in
      inl (remove_less m (temporary path) q (blobs.blob p) (sym (placed_other (remove m (temporary path)) path (Some text) q other) ∙ sym (ap (λ f. get f q) (put h.honest)) ∙ there))
