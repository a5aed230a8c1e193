-- What is left of a disk as a writer's files are removed.
use Rattle.disk_trait.specs.declared.disk.Disk.{Ghosts}
use Rattle.std.proofs.Common.{◌≡◌, ◌≢◌, ◌↔◌, ℕ, zero, suc, ◌<◌, Bool, true, false, cond, length, get_or, List, [], ◌∷◌, None, Some, refl, sym, ap, subst, ◌∙◌, arith}
use Rattle.std.proofs.lemmas.List.Elements.{All-head, All-tail}
use Rattle.std.proofs.lemmas.Slice.Eq.{bytes_eq-Decides}
use Rattle.std.specs.FinMap.{get, remove}
use Rattle.std.specs.List.{All, Contains, cons_option}
use Rattle.std.specs.Str.{bytes_eq}
use Rattle.store_types.specs.FileNames.{manifest_name}
use Rattle.disk_trait.specs.Files.{Files}
use Rattle.disk_trait.specs.Laws.{placed_same, placed_other, by_name}
use Rattle.core_state.specs.declared.kept.StoredFile.{StoredFile}
use Rattle.core_state.specs.declared.parts.Parts.{Parts}
use Rattle.store_types.specs.declared.names.SnapshotKey.{SnapshotKey}
use Rattle.store_files.specs.Archive.{File}
use Rattle.store_model.specs.Store as model
use Rattle.store_model.specs.Store.{Store, Writer, none, writer, session, with_session}
use Rattle.store_files.specs.Folder.{file_path}
use Rattle.store_model.proofs.StandsLemmas.{Apart, agrees_off, stands_agree}
use Rattle.snapshot_files.specs.Forgotten.{without}
use Rattle.snapshot_files.proofs.Losing.{without_others}
use Rattle.core_state.specs.Changes.{put_paths}
use Rattle.core_state.specs.Shown.{shown_file, shown_files, shown_session}
use Rattle.core_state.specs.Holds.{IsSound, Shows, IsOnDisk, HasUploads, Holds}
use Rattle.core_state.proofs.Sessions.{changed, no_writer_none}
use Rattle.core_state.proofs.Soundness.{disk_idle}
use Rattle.core_state.proofs.OnDisk.{IsOff, apart_upload, names_plain, keys_apart, off_other, uploads_off}
use Rattle.core_state.proofs.Commanding.{session_shown}
use Rattle.core_state.specs.Wanted.{session_at}
use Rattle.core_writer.specs.Ended.{files_in}

-- ---- where the files stand

paths_by : (b : Bool) (path : List ℕ) (rest : List (List ℕ)) → b ≡ false → cons_option (cond b None (Some path)) rest ≡ path ∷ rest
paths_by true path rest e = cc
paths_by false path rest e = refl

no_path : (b : Bool) (path : List ℕ) (rest : List (List ℕ)) → b ≡ true → cons_option (cond b None (Some path)) rest ≡ rest
no_path true path rest e = refl
no_path false path rest e = cc

paths_put : (f : StoredFile) (fs : List StoredFile) → bytes_eq f.name manifest_name ≡ false → put_paths (f ∷ fs) ≡ f.path ∷ put_paths fs
paths_put f fs e = paths_by (bytes_eq f.name manifest_name) f.path (put_paths fs) e

paths_manifest : (f : StoredFile) (fs : List StoredFile) → bytes_eq f.name manifest_name ≡ true → put_paths (f ∷ fs) ≡ put_paths fs
paths_manifest f fs e = no_path (bytes_eq f.name manifest_name) f.path (put_paths fs) e

-- what was there before is there, or there is less
pub remove_less : (m : Files) (name q bytes : List ℕ) → get (remove m name) q ≡ Some bytes → get m q ≡ Some bytes
remove_less m name q bytes e =
    by_name q name (get m q ≡ Some bytes)
    (λ is. absurd (none_some bytes (sym (ap (get (remove m name)) is ∙ placed_same m name None) ∙ e)))
    (λ ne. sym (placed_other m name None q ne) ∙ e)
  where
    none_some : (b : List ℕ) → None ≡ Some b → ⊥
    none_some b e = cc

pub without_less : (paths : List (List ℕ)) (m : Files) (q bytes : List ℕ) → get (without paths m) q ≡ Some bytes → get m q ≡ Some bytes
without_less [] m q bytes e = e
without_less (p ∷ paths) m q bytes e = remove_less m p q bytes (without_less paths (remove m p) q bytes e)

-- ---- the disk as a writer's files are removed

not_true : (b : Bool) (P : Type 0) → b ≡ false → (P → b ≡ true) → P → ⊥
not_true true P e h p = cc
not_true false P e h p = let is = h p in cc

-- a name that was removed is one of the files'
pub removed_one : (P : List ℕ → Type 0) (key : SnapshotKey) (fs : List File) (q : List ℕ) → Contains (put_paths (shown_files key fs)) q → All (λ f. f.name ≢ manifest_name → P (file_path key f.name)) fs → P q
removed_one P key [] q (k, lt, is) each = absurd (omega (arith, lt))
removed_one P key (f ∷ fs) q has each =
    by_test (bytes_eq f.name manifest_name) refl
    (λ later. removed_one P key fs q later (All-tail (λ (g : File). g.name ≢ manifest_name → P (file_path key g.name)) f fs each))
  where
    either : (Contains (put_paths (shown_files key fs)) q → P q) → (bytes_eq f.name manifest_name ≡ false) → Contains (file_path key f.name ∷ put_paths (shown_files key fs)) q → P q
    either go e (zero, lt, is) =
        subst P is (All-head (λ (g : File). g.name ≢ manifest_name → P (file_path key g.name)) f fs each (not_true (bytes_eq f.name manifest_name) (f.name ≡ manifest_name) e (bytes_eq-Decides f.name manifest_name).1))
    either go e (suc k, lt, is) = go (k, omega (arith, lt), is)

    by_test : (b : Bool) → bytes_eq f.name manifest_name ≡ b → (Contains (put_paths (shown_files key fs)) q → P q) → P q
    by_test true e go = go (subst (λ p. Contains p q) (paths_manifest (shown_file key f) (shown_files key fs) e) has)
    by_test false e go = either go e (subst (λ p. Contains p q) (paths_put (shown_file key f) (shown_files key fs) e) has)

module _ (m n : Files) (s : Store) (lane : ℕ) (v : Writer) (lt : lane < 64) (h : IsSound s) (at : session s lane ≡ writer v)
    (removed : n ≡ without (put_paths (shown_files v.key v.files)) m) (disk : IsOnDisk m s) where
  abbrev IsGone : List ℕ → Type 0
  IsGone q = Contains (put_paths (shown_files v.key v.files)) q

  same : (q : List ℕ) → (IsGone q → ⊥) → get n q ≡ get m q
  same q kept = ap (λ f. get f q) removed ∙ without_others (put_paths (shown_files v.key v.files)) m q kept

  apart : (q : List ℕ) → IsGone q → Apart s.snapshots q
  apart q gone =
      removed_one (Apart s.snapshots) v.key v.files q gone
      (λ i d l other. apart_upload s v (get_or v.files i d).name h (h.writers lane v at) (names_plain s.snapshots v (h.writers lane v at) i d l) other)

  off : (i : ℕ) (w : Writer) → i ≢ lane → session s i ≡ writer w → (q : List ℕ) → IsGone q → IsOff w q
  off i w ne is q gone =
      removed_one (IsOff w) v.key v.files q gone
      (λ k d l other. off_other s.snapshots w v.key (get_or v.files k d).name (h.writers i w is) (h.writers lane v at).key (names_plain s.snapshots v (h.writers lane v at) k d l) (keys_apart s i lane w v h ne is at))

  pub removed_on_disk : IsOnDisk n (with_session s lane none)
  removed_on_disk = let l : lane < length s.sessions = omega (arith, h.lanes, lt) in record {
    snapshots = stands_agree m n s.snapshots (agrees_off m n s.snapshots IsGone same apart) disk.snapshots;
    writers = λ i w is. changed s lane none i (writer w) (HasUploads n w) l is (λ e found. absurd (no_writer_none w found))
        (λ ne old. uploads_off m n w IsGone same (off i w ne old) (λ digest q gone. (apart q gone).chunks digest) (disk.writers i w old));
  }

-- by what the session is
ended_on_disk : (m n : Files) (s : Store) (lane : ℕ) (x : model.Session) → lane < 64 → IsSound s → session s lane ≡ x → n ≡ without (put_paths (files_in (shown_session s.snapshots x))) m → IsOnDisk m s → IsOnDisk n (with_session s lane none)
ended_on_disk m n s lane model.none lt h at removed disk =
    subst (λ f. IsOnDisk f (with_session s lane none)) (sym removed) (disk_idle m s lane (omega (arith, h.lanes, lt)) disk)
ended_on_disk m n s lane (model.writer v) lt h at removed disk = removed_on_disk m n s lane v lt h at removed disk
ended_on_disk m n s lane (model.reader r) lt h at removed disk =
    subst (λ f. IsOnDisk f (with_session s lane none)) (sym removed) (disk_idle m s lane (omega (arith, h.lanes, lt)) disk)

module _ {D : Type 0} (d : Ghosts D) where
  pub has_ended : (old new : Parts D) (s : Store) (lane : ℕ) → lane < 64 → (d.honest old.disk ↔ d.honest new.disk)
      → (d.honest old.disk → d.content new.disk ≡ without (put_paths (files_in (session_at old lane))) (d.content old.disk))
      → Shows new (with_session s lane none) → Holds d old s → Holds d new (with_session s lane none)
  has_ended old new s lane lt kept removed shows h =
      let sound = (h.shows).sound in
      let is = session_shown old s lane h.shows lt in
      record {
        honest = kept.0 h.honest;
        shows = shows;
        files = ended_on_disk (d.content old.disk) (d.content new.disk) s lane (session s lane) lt sound refl
            (removed h.honest ∙ ap (λ x. without (put_paths (files_in x)) (d.content old.disk)) is) h.files;
      }
