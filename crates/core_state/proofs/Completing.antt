-- What a FINISH that is not refused puts: the manifest that completes the writer's snapshot.
use Rattle.std.proofs.Common.{◌≡◌, ℕ, Bool, true, false, ◌==◌, cond, length, List, [], ◌∷◌, Option, Some, None, Ok, Err, refl, sym, ap, ◌∙◌, arith}
use Rattle.std.proofs.lemmas.Option.{some_pair_parts}
use Rattle.std.proofs.lemmas.Slice.Eq.{bytes_eq-Decides}
use Rattle.std.specs.List.{find}
use Rattle.std.specs.Prelude.{option_map}
use Rattle.std.specs.Str.{bytes_eq}
use Rattle.disk_trait.specs.Files.{Files}
use Rattle.store_types.specs.declared.names.SnapshotKey.{SnapshotKey}
use Rattle.store_types.specs.declared.refusal.Refusal.{Refusal}
use Rattle.store_types.specs.declared.refusal.Refusal.TheVariants.{NoFile, OpenIndexes}
use Rattle.store_types.specs.Chain.Refusing.{◌>>=◌, unless, or_else}
use Rattle.store_types.specs.FileNames.{manifest_name}
use Rattle.store_files.specs.Archive.{File, file_text, file_named}
use Rattle.store_files.specs.Folder.{file_path, manifest_path}
use Rattle.store_files.specs.Manifest.{Manifest}
use Rattle.wire_commands.specs.declared.command.Command.TheVariants.{Finish}
use Rattle.wire_commands.specs.declared.reply.Reply.TheVariants.{Done}
use Rattle.store_model.specs.Manifests.{data_in, manifest_data, want_manifest, want_listed, listing_of, finish_check}
use Rattle.store_model.specs.Stands.{IsSnapshot}
use Rattle.store_model.specs.Store.{Store, Writer, Outcome, writer, session}
use Rattle.store_model.specs.WriterSteps.{snapshot_of, finish}
use Rattle.store_model.specs.Steps.{outcome}
use Rattle.store_model.specs.Done.{finished}
use Rattle.store_model.proofs.Done.{done}
use Rattle.store_model.proofs.FileInsertions.{only_named}
use Rattle.store_model.proofs.ListingLemmas.{listing_lists}
use Rattle.backup_session.specs.Shown.{shown, manifest_text}
use Rattle.snapshot_files.specs.Standing.{Completes}
use Rattle.core_state.specs.declared.kept.Session.{Session}
use Rattle.core_state.specs.Changes.{finishes, finish_by, finish_put, manifest_by, kept_manifest}
use Rattle.core_state.specs.Holds.{IsSound, IsWriter, IsOnDisk}
use Rattle.core_state.specs.Shown.{shown_file, shown_files, shown_writer, shown_session}
use Rattle.core_state.proofs.OnDisk.{fresh, pieces_there}

-- ---- the manifest

find_shown : (key : SnapshotKey) (fs : List File) → find (λ f. bytes_eq f.name manifest_name) (shown_files key fs) ≡ option_map (shown_file key) (file_named manifest_name fs)
find_shown key [] = refl
find_shown key (f ∷ fs) = by_test (bytes_eq f.name manifest_name) (find_shown key fs)
  where
    by_test : (b : Bool) → find (λ f. bytes_eq f.name manifest_name) (shown_files key fs) ≡ option_map (shown_file key) (file_named manifest_name fs)
        → cond b (Some (shown_file key f)) (find (λ f. bytes_eq f.name manifest_name) (shown_files key fs)) ≡ option_map (shown_file key) (cond b (Some f) (file_named manifest_name fs))
    by_test true e = refl
    by_test false e = e

found_name : (fs : List File) (g : File) → file_named manifest_name fs ≡ Some g → g.name ≡ manifest_name
found_name [] g e = cc
found_name (f ∷ fs) g e = by_test (bytes_eq f.name manifest_name) refl (found_name fs g) e
  where
    by_test : (b : Bool) → bytes_eq f.name manifest_name ≡ b → (file_named manifest_name fs ≡ Some g → g.name ≡ manifest_name) → cond b (Some f) (file_named manifest_name fs) ≡ Some g → g.name ≡ manifest_name
    by_test true is go e = ap (λ (x : File). x.name) (sym (same f g e)) ∙ (bytes_eq-Decides f.name manifest_name).0 is
      where
        same : (a b : File) → Some a ≡ Some b → a ≡ b
        same a b e = cc
    by_test false is go e = go e

abbrev manifest_of : SnapshotKey → Option File → Option (List ℕ × List ℕ)
manifest_of key o = manifest_by (option_map (λ f. file_text f.content) o) (option_map (shown_file key) o)

kept_manifest-shown : (w : Writer) → kept_manifest (shown_writer w) ≡ manifest_of w.key (file_named manifest_name w.files)
unfolding shown
kept_manifest-shown w = ap (manifest_by (manifest_text w.files)) (find_shown w.key w.files)

-- the manifest is among the files, with this name on the disk and this text
pub record HasManifest (w : Writer) (path text : List ℕ) : Type 0 where
  pub file : File
  pub found : file_named manifest_name w.files ≡ Some file
  pub is_path : path ≡ manifest_path w.key
  pub is_text : text ≡ file_text file.content

pub has_manifest : (w : Writer) (path text : List ℕ) → kept_manifest (shown_writer w) ≡ Some (path, text) → HasManifest w path text
has_manifest w path text e = by_file (file_named manifest_name w.files) refl (sym (kept_manifest-shown w) ∙ e)
  where
    by_file : (o : Option File) → file_named manifest_name w.files ≡ o → manifest_of w.key o ≡ Some (path, text) → HasManifest w path text
    by_file None is e = cc
    by_file (Some g) is e =
        let both = some_pair_parts (file_path w.key g.name) path (file_text g.content) text e in
        record { file = g; found = is; is_path = sym both.0 ∙ ap (file_path w.key) (found_name w.files g is); is_text = sym both.1 }

pub no_manifest : (w : Writer) → kept_manifest (shown_writer w) ≡ None → file_named manifest_name w.files ≡ None
no_manifest w e = by_file (file_named manifest_name w.files) refl (sym (kept_manifest-shown w) ∙ e)
  where
    by_file : (o : Option File) → file_named manifest_name w.files ≡ o → manifest_of w.key o ≡ None → file_named manifest_name w.files ≡ None
    by_file None is e = is
    by_file (Some g) is e = cc

-- ---- what the check makes sure of

pub listed : (w : Writer) (m : Manifest) → finish_check w ≡ Ok m → listing_of w.key w.files ≡ Ok m
unfolding finish_check
listed w m is = by_test (length w.begun == 0) is
  where
    by_test : (b : Bool) → (unless (OpenIndexes (length w.begun)) b >>= λ _. listing_of w.key w.files) ≡ Ok m → listing_of w.key w.files ≡ Ok m
    by_test true e = e
    by_test false e = cc

-- the manifest is there
pub no_listing : (key : SnapshotKey) (files : List File) (m : Manifest) → file_named manifest_name files ≡ None → listing_of key files ≡ Ok m → ⊥
unfolding listing_of
no_listing key files m absent is = by_data (manifest_data files) (ap data_in absent) is
  where
    by_data : (o : Option (List ℕ)) → o ≡ None → (or_else NoFile o >>= λ bytes. want_manifest bytes >>= λ m. want_listed m key files >>= λ _. Ok m) ≡ Ok m → ⊥
    by_data None e f = cc
    by_data (Some bytes) e f = cc

-- ---- the step

-- it is refused, or the lane's writer passes the check
pub data FinishIs (s : Store) (lane : ℕ) : Type 0 where
  fails : (r : Refusal) → finish s lane ≡ Err r → FinishIs s lane
  gives : (w : Writer) (m : Manifest) → session s lane ≡ writer w → finish_check w ≡ Ok m → finish s lane ≡ Ok (finished s lane w, Done) → FinishIs s lane

pub finish_is : (s : Store) (lane : ℕ) → FinishIs s lane
unfolding outcome
finish_is s lane = by_outcome (finish s lane) refl
  where
    by_outcome : (o : Outcome) → finish s lane ≡ o → FinishIs s lane
    by_outcome (Ok after) e = let d = done s lane 0 Finish after e in gives d.0 d.1 d.2 d.3 (e ∙ ap (λ x. Ok x) d.4)
    by_outcome (Err r) e = fails r e

-- ---- and what it puts

module _ (s : Store) (lane : ℕ) (w : Writer) (m : Manifest) (sound : IsSound s) (at : session s lane ≡ writer w) (check : finish_check w ≡ Ok m) where
  its : IsWriter s.snapshots w
  its = sound.writers lane w at

  whole : IsSnapshot (snapshot_of w)
  whole = record {
    key = its.key;
    names = its.names;
    kinds = its.kinds;
    contents = its.contents;
    manifest = let c = its.count in listing_lists w.key w.files m (listed w m check) (omega (arith, c));
    count = let c = its.count in omega (arith, c);
  }

  pub completes : (read : Files) (path text : List ℕ) → IsOnDisk read s → HasManifest w path text → Completes read s.snapshots (snapshot_of w) path text
  completes read path text disk has = record {
    is = has.is_path;
    fits = whole;
    lacks = fresh s.snapshots w its;
    room = its.room;
    ready = λ i d lt. (
      (disk.writers lane w at).files i d lt,
      λ e. ap (λ (f : File). file_text f.content) (only_named manifest_name w.files has.file its.names has.found i d lt e) ∙ sym has.is_text,
    );
    pieces = pieces_there read s.snapshots w its (disk.writers lane w at);
  }

  pub finish_changes : (x : Session) → x ≡ shown_session s.snapshots (session s lane) → (path : List ℕ) × (text : List ℕ) × HasManifest w path text × (finish_by x ≡ finishes path text)
  finish_changes x is = by_manifest (kept_manifest (shown_writer w)) refl
    where
      change_is : finish_by x ≡ finish_put (kept_manifest (shown_writer w))
      change_is = ap finish_by (is ∙ ap (shown_session s.snapshots) at)

      by_manifest : (o : Option (List ℕ × List ℕ)) → kept_manifest (shown_writer w) ≡ o → (path : List ℕ) × (text : List ℕ) × HasManifest w path text × (finish_by x ≡ finishes path text)
      by_manifest None e = absurd (no_listing w.key w.files m (no_manifest w e) (listed w m check))
      by_manifest (Some p) e = (p.0, p.1, has_manifest w p.0 p.1 e, change_is ∙ ap finish_put e)
