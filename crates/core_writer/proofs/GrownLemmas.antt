-- A file of a writer more leaves what the store has: BLOB's, or that of an archive that is closed.
use Rattle.std.proofs.Common.{◌≡◌, ◌≢◌, ◌⊎◌, inl, inr, ⊎_elim, ℕ, ◌+◌, ◌-◌, ◌<◌, Bool, true, false, ◌||◌, ◌&&◌, cond, drop, length, get_or, nat_lt, List, [], ◌∷◌, ◌++◌, Some, refl, sym, ap, subst, ◌∙◌, arith}
use Rattle.std.specs.Prelude.{codes, ◌==◌}
use Rattle.std.proofs.Common.{append_assoc}
use Rattle.std.proofs.Math.Seq.{drop-append_seam}
use Rattle.std.proofs.lemmas.Bool.{and_parts, and_from, ltb-true, or_parts}
use Rattle.std.proofs.lemmas.List.{drop-drop, length-append}
use Rattle.std.proofs.lemmas.List.Elements.{All-nil, All-cons}
use Rattle.std.proofs.lemmas.Slice.Eq.{bytes_eq-Decides}
use Rattle.std.specs.FinMap.{get}
use Rattle.std.specs.List.{All, Contains, list_any}
use Rattle.std.specs.Str.{bytes_eq}
use Rattle.disk_trait.specs.Files.{Files}
use Rattle.file_install.specs.Install.{temporary, installed}
use Rattle.file_install.proofs.InstallLaws.{installed_name, installed_other}
use Rattle.store_types.specs.declared.names.SnapshotKey.{SnapshotKey}
use Rattle.store_types.specs.FileNames.{manifest_name, is_blob_name, is_dynamic_name, is_fixed_name, blob_ending, dynamic_ending, fixed_ending}
use Rattle.store_types.specs.Names.{name_lt}
use Rattle.store_types.proofs.KeyTexts.{no_slash}
use Rattle.store_files.specs.Archive.{Layout, dynamic, fixed, Content, archive, blob, File, file_text, pieces_of}
use Rattle.store_model.specs.Store.{Begun, Store, Writer, writer, session, with_session, insert_file}
use Rattle.store_files.specs.Folder.{file_path}
use Rattle.store_model.specs.Stands.{names_content, FitsContent}
use Rattle.store_model.proofs.Paths.{same_path, chunk_apart, content_plain}
use Rattle.store_model.proofs.FileInsertions.{All-insert_file, length-insert_file, is_free, names_rise-insert}
use Rattle.store_model.proofs.StandsLemmas.{Apart, agrees_off, stands_agree}
use Rattle.core_state.specs.declared.kept.StoredFile.{StoredFile}
use Rattle.core_state.specs.Shown.{shown_file, shown_files}
use Rattle.core_state.specs.Holds.{has_named, IsSound, IsWriter, IsPut, HasUploads, IsOnDisk}
use Rattle.core_state.proofs.Sessions.{changed, writers_same}
use Rattle.core_state.proofs.Soundness.{IsAlone, disk_writer}
use Rattle.core_state.proofs.OnDisk.{IsOff, names_plain, apart_upload, keys_apart, off_other, uploads_off}
use Rattle.core_writer.specs.Pending.{MayAdd, grown}
use Rattle.core_writer.specs.Uploaded.{insert_stored, with_put}

-- ---- what is kept of the writer

pub shown_insert : (key : SnapshotKey) (new : File) (fs : List File) → shown_files key (insert_file new fs) ≡ insert_stored (shown_file key new) (shown_files key fs)
shown_insert key new [] = refl
shown_insert key new (f ∷ fs) = by_test (name_lt new.name f.name) (shown_insert key new fs)
  where
    by_test : (b : Bool) → shown_files key (insert_file new fs) ≡ insert_stored (shown_file key new) (shown_files key fs)
        → shown_files key (cond b (new ∷ f ∷ fs) (f ∷ insert_file new fs)) ≡ cond b (shown_file key new ∷ shown_file key f ∷ shown_files key fs) (shown_file key f ∷ insert_stored (shown_file key new) (shown_files key fs))
    by_test true e = refl
    by_test false e = ap (λ (l : List StoredFile). shown_file key f ∷ l) e

-- ---- soundness

pub is_writer_grown : (s : Store) (w : Writer) (new : File) (begun : List Begun) → IsWriter s.snapshots w → MayAdd w new begun → IsWriter s.snapshots (grown w new begun)
is_writer_grown s w new begun h may = let c = may.count in record {
  key = h.key;
  newer = h.newer;
  room = h.room;
  names = names_rise-insert new w.files may.free h.names;
  kinds = All-insert_file (λ f. names_content f.content f.name ≡ true) new w.files may.named h.kinds;
  contents = All-insert_file (λ f. FitsContent f.content) new w.files may.fits h.contents;
  count = omega (arith, length-insert_file new w.files, c);
  pool = h.pool;
  begun = may.begun_are;
  pooled = All-insert_file (λ f. All (Contains w.pool) (pieces_of f.content)) new w.files may.pieces h.pooled;
  free = may.free_open;
  differ = may.differ;
}

pub alone_grown : (s : Store) (lane : ℕ) (w : Writer) (new : File) (begun : List Begun) → IsSound s → session s lane ≡ writer w → IsAlone s lane (grown w new begun)
alone_grown s lane w new begun h at = λ i v ne old same. ne (h.apart i lane v w old at same)

-- ---- names

pub has_named-insert : (q : List ℕ) (new : File) (fs : List File) → bytes_eq new.name q ≡ false → has_named q fs ≡ false → has_named q (insert_file new fs) ≡ false
has_named-insert q new [] e h = ap (λ b. b || false) e
has_named-insert q new (f ∷ fs) e h =
    by_test (name_lt new.name f.name) (has_named-insert q new fs e (or_parts (bytes_eq f.name q) (has_named q fs) h).1)
  where
    by_test : (b : Bool) → has_named q (insert_file new fs) ≡ false → has_named q (cond b (new ∷ f ∷ fs) (f ∷ insert_file new fs)) ≡ false
    by_test true go = ap (λ b. b || has_named q (f ∷ fs)) e ∙ h
    by_test false go = ap (λ b. b || has_named q (insert_file new fs)) (or_parts (bytes_eq f.name q) (has_named q fs) h).0 ∙ go

pub unlike : (a b : List ℕ) → bytes_eq b a ≡ false → bytes_eq a b ≡ false
unlike a b e = by_test (bytes_eq a b) refl
  where
    both_ways : true ≡ false → ⊥
    both_ways e = cc

    by_test : (t : Bool) → bytes_eq a b ≡ t → t ≡ false
    by_test true same = absurd (both_ways (sym ((bytes_eq-Decides b a).1 (sym ((bytes_eq-Decides a b).0 same))) ∙ e))
    by_test false same = refl

pub none_named : (name : List ℕ) (bs : List Begun) → list_any (λ b. bytes_eq b.name name) bs ≡ false → All (λ b. bytes_eq b.name name ≡ false) bs
none_named name [] h = All-nil (λ b. bytes_eq b.name name ≡ false)
none_named name (b ∷ bs) h =
    let both = or_parts (bytes_eq b.name name) (list_any (λ c. bytes_eq c.name name) bs) h in
    All-cons (λ c. bytes_eq c.name name ≡ false) b bs both.0 (none_named name bs both.1)

-- ---- the disk

free_apart : (name : List ℕ) (fs : List File) → is_free name fs → All (λ f. f.name ≢ name) fs
free_apart name [] free = All-nil (λ f. f.name ≢ name)
free_apart name (f ∷ fs) free =
    let both = or_parts (bytes_eq f.name name) (list_any (λ g. bytes_eq g.name name) fs) free in
    All-cons (λ g. g.name ≢ name) f fs (λ e. absurd (both_ways (sym ((bytes_eq-Decides f.name name).1 e) ∙ both.0))) (free_apart name fs both.1)
  where
    both_ways : true ≡ false → ⊥
    both_ways e = cc

-- the manifest is not put
manifest_kept : (m : Files) (w : Writer) (new : File) (begun : List Begun) → new.name ≡ manifest_name → HasUploads m w → HasUploads m (grown w new begun)
manifest_kept m w new begun is h = record {
  files = All-insert_file (IsPut m w) new w.files (λ other. absurd (other is)) h.files;
  pool = h.pool;
}

-- ---- temporary names

plain_behind : (xs ys : List ℕ) → no_slash xs ≡ true → no_slash ys ≡ true → no_slash (xs ++ ys) ≡ true
plain_behind [] ys h k = k
plain_behind (x ∷ xs) ys h k = let both = and_parts _ (no_slash xs) h in and_from _ (no_slash (xs ++ ys)) both.0 (plain_behind xs ys both.1 k)

-- a temporary name is that of another file in the same folder
temporary_in : (key : SnapshotKey) (name : List ℕ) → temporary (file_path key name) ≡ file_path key (name ++ codes ".tmp")
temporary_in key name = simp append_assoc refl

-- which ends in another letter than the files of snapshots
staged_ending : (ending name : List ℕ) (a : Bool) → (a && (bytes_eq ending (drop (length (name ++ codes ".tmp") - 5) (name ++ codes ".tmp")) && nat_lt 5 (length (name ++ codes ".tmp")))) ≡ true → drop 4 ending ≡ drop 3 (codes ".tmp")
staged_ending ending name a h =
    let s = name ++ codes ".tmp" in
    let both = and_parts (bytes_eq ending (drop (length s - 5) s)) (nat_lt 5 (length s)) (and_parts a _ h).1 in
    let long : 5 < length s = ltb-true 5 (length s) both.1 in
    let size : length s ≡ length name + 4 = length-append name (codes ".tmp") in
    let here : length s - 5 + 4 ≡ length name + 3 = omega (arith, long, size) in
    ap (drop 4) ((bytes_eq-Decides ending (drop (length s - 5) s)).0 both.0) ∙ drop-drop 4 (length s - 5) s ∙ ap (λ n. drop n s) here
    ∙ sym (drop-drop 3 (length name) s) ∙ ap (drop 3) (drop-append_seam name (codes ".tmp"))

false_true : false ≡ true → ⊥
false_true e = cc

last_letter : (ending : List ℕ) → (get_or (drop 4 ending) 0 0 == 112) ≡ false → drop 4 ending ≡ drop 3 (codes ".tmp") → ⊥
last_letter ending other e = false_true (sym other ∙ ap (λ l. get_or l 0 0 == 112) e)

staged_name : (c : Content) (name : List ℕ) → names_content c (name ++ codes ".tmp") ≡ true → ⊥
staged_name (blob bytes) name h = last_letter blob_ending refl (staged_ending blob_ending name _ h)
staged_name (archive a) name h = by_layout a.layout h
  where
    by_layout : (layout : Layout) → (elim layout [ dynamic ↦ is_dynamic_name (name ++ codes ".tmp") | fixed size chunk_size ↦ is_fixed_name (name ++ codes ".tmp") ]) ≡ true → ⊥
    by_layout dynamic h = last_letter dynamic_ending refl (staged_ending dynamic_ending name _ h)
    by_layout (fixed size cut) h = last_letter fixed_ending refl (staged_ending fixed_ending name _ h)

staged_other : (name : List ℕ) → name ++ codes ".tmp" ≢ manifest_name
staged_other name e = staged_name (blob []) name (ap is_blob_name e)

-- ---- the file is installed

module _ (m : Files) (s : Store) (lane : ℕ) (w : Writer) (new : File) (begun : List Begun) (text : List ℕ) (lt : lane < 64) (h : IsSound s) (at : session s lane ≡ writer w) (named : names_content new.content new.name ≡ true)
    (free : is_free new.name w.files) (other : new.name ≢ manifest_name) (text_is : text ≡ file_text new.content) (disk : IsOnDisk m s) where
  abbrev path : List ℕ
  path = file_path w.key new.name

  abbrev staged : List ℕ
  staged = new.name ++ codes ".tmp"

  abbrev n : Files
  n = installed m path text

  staged_at : temporary path ≡ file_path w.key staged
  staged_at = temporary_in w.key new.name

  plain : no_slash new.name ≡ true
  plain = content_plain new.content new.name named

  staged_plain : no_slash staged ≡ true
  staged_plain = plain_behind new.name (codes ".tmp") plain refl

  abbrev IsHere : List ℕ → Type 0
  IsHere q = (q ≡ path) ⊎ (q ≡ temporary path)

  same : (q : List ℕ) → (IsHere q → ⊥) → get n q ≡ get m q
  same q off = installed_other m path text q (λ e. off (inl e)) (λ e. off (inr e))

  is_writer : IsWriter s.snapshots w
  is_writer = h.writers lane w at

  own_files : All (IsPut n w) w.files
  own_files = λ i d l not_manifest.
      let f = get_or w.files i d in
      let f_plain = names_plain s.snapshots w is_writer i d l in
      installed_other m path text (file_path w.key f.name)
      (λ e. free_apart new.name w.files free i d l (same_path w.key w.key f.name new.name is_writer.key is_writer.key f_plain plain e).1)
      (λ e. staged_name f.content new.name
      (ap (names_content f.content) (sym (same_path w.key w.key f.name staged is_writer.key is_writer.key f_plain staged_plain (e ∙ staged_at)).1) ∙ is_writer.kinds i d l))
      ∙ (disk.writers lane w at).files i d l not_manifest

  own : HasUploads n (grown w new begun)
  own = record {
    files = All-insert_file (IsPut n w) new w.files (λ _. installed_name m path text ∙ ap (λ t. Some t) text_is) own_files;
    pool = λ i d l. installed_other m path text _ (chunk_apart _ w.key new.name) (λ e. chunk_apart _ w.key staged (e ∙ staged_at)) ∙ (disk.writers lane w at).pool i d l;
  }

  put_on_disk : IsOnDisk n (with_session s lane (writer (grown w new begun)))
  put_on_disk = let l : lane < length s.sessions = omega (arith, h.lanes, lt) in record {
    snapshots = stands_agree m n s.snapshots
        (agrees_off m n s.snapshots IsHere same
        (λ q here. ⊎_elim (λ e. subst (Apart s.snapshots) (sym e) (apart_upload s w new.name h is_writer plain other))
        (λ e. subst (Apart s.snapshots) (sym (e ∙ staged_at)) (apart_upload s w staged h is_writer staged_plain (staged_other new.name))) here)) disk.snapshots;
    writers = λ i v is. changed s lane (writer (grown w new begun)) i (writer v) (HasUploads n v) l is
        (λ e found. subst (HasUploads n) (writers_same (grown w new begun) v found) own)
        (λ ne old. uploads_off m n v IsHere same
        (λ q here. ⊎_elim (λ e. subst (IsOff v) (sym e) (off_other s.snapshots v w.key new.name (h.writers i v old) is_writer.key plain (keys_apart s i lane v w h ne old at)))
        (λ e. subst (IsOff v) (sym (e ∙ staged_at)) (off_other s.snapshots v w.key staged (h.writers i v old) is_writer.key staged_plain (keys_apart s i lane v w h ne old at))) here)
        (λ digest q here same_name. ⊎_elim (λ e. chunk_apart digest w.key new.name (same_name ∙ e)) (λ e. chunk_apart digest w.key staged (same_name ∙ e ∙ staged_at)) here) (disk.writers i v old));
  }

-- by whether it is the manifest
pub grown_on_disk : (m n : Files) (s : Store) (lane : ℕ) (w : Writer) (new : File) (begun : List Begun) (file : StoredFile) (text : List ℕ) → lane < 64 → IsSound s → session s lane ≡ writer w
    → names_content new.content new.name ≡ true → is_free new.name w.files → file ≡ shown_file w.key new → text ≡ file_text new.content
    → n ≡ with_put file text m → IsOnDisk m s → IsOnDisk n (with_session s lane (writer (grown w new begun)))
grown_on_disk m n s lane w new begun file text lt h at named free is text_is now disk =
    by_test (bytes_eq new.name manifest_name) refl (now ∙ ap (λ f. with_put f text m) is)
  where
    both_ways : true ≡ false → ⊥
    both_ways e = cc

    by_test : (b : Bool) → bytes_eq new.name manifest_name ≡ b → n ≡ cond b m (installed m (file_path w.key new.name) text) → IsOnDisk n (with_session s lane (writer (grown w new begun)))
    by_test true e now =
        subst (λ f. IsOnDisk f (with_session s lane (writer (grown w new begun)))) (sym now)
        (disk_writer m s lane (grown w new begun) (omega (arith, h.lanes, lt)) (manifest_kept m w new begun ((bytes_eq-Decides new.name manifest_name).0 e) (disk.writers lane w at)) disk)
    by_test false e now =
        subst (λ f. IsOnDisk f (with_session s lane (writer (grown w new begun)))) (sym now)
        (put_on_disk m s lane w new begun text lt h at named free (λ same. both_ways (sym ((bytes_eq-Decides new.name manifest_name).1 same) ∙ e)) text_is disk)
