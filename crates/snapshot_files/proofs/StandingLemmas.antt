-- A disk stands for the same list, with a snapshot more or without one, as files are put and removed.
use Rattle.std.proofs.Common.{◌≡◌, ◌≢◌, ◌⊎◌, inl, inr, ℕ, zero, suc, true, get_or, map, length, drop, List, [], ◌∷◌, ◌++◌, None, Some, Result, Ok, Err, refl, sym, ap, subst, ◌∙◌, arith, append_assoc, length-append}
use Rattle.std.specs.Prelude.{codes, IsTrue, IsOk, OnOk}
use Rattle.std.specs.List.{All, Contains}
use Rattle.std.proofs.lemmas.Bool.{and_parts, and_from}
use Rattle.std.proofs.lemmas.List.Elements.{All-cons, All-weaker}
use Rattle.std.specs.FinMap.{get, remove}
use Rattle.std.proofs.Math.Seq.{drop-append_seam}
use Rattle.disk_trait.specs.declared.disk.Disk.{Ghosts}
use Rattle.disk_trait.specs.Disk.{Steps, Now, After, Same}
use Rattle.disk_trait.specs.Runs.{leaves_as, now_leaves}
use Rattle.disk_trait.specs.Files.{Files, SameBut}
use Rattle.disk_trait.specs.Laws.{placed_same, placed_other}
use Rattle.file_install.specs.Install.{temporary, installed, Installs, InstallsFirm}
use Rattle.store_types.specs.declared.names.SnapshotKey.{SnapshotKey}
use Rattle.store_types.specs.FileNames.{is_file_name, is_dynamic_name, is_fixed_name, manifest_name}
use Rattle.store_types.specs.Names.{IsKey}
use Rattle.store_types.proofs.KeyTexts.{no_slash, id_no_slash}
use Rattle.store_types.proofs.NameLemmas.{file_name_id}
use Rattle.store_files.specs.Archive.{Layout, dynamic, fixed, Content, archive, blob, File, Snapshot}
use Rattle.store_files.specs.Folder.{file_path, manifest_path, chunk_name}
use Rattle.store_model.specs.Store.{insert_snapshot, without_snapshot}
use Rattle.store_model.specs.Stands.{StandsFor, IsSnapshot, HoldsPieces, names_content}
use Rattle.store_model.proofs.Paths.{same_path, manifest_plain, chunk_apart}
use Rattle.store_model.proofs.StandsLemmas.{Apart, apart_file, agrees_off, stands_agree, stands_finished, file_plain, pieces_agree}
use Rattle.snapshot_files.specs.Forgotten.{MayLose, Forgets, ForgetsFirm, without}
use Rattle.snapshot_files.specs.Standing.{Moves, IsOfNew, IsReady, Completes}
use Rattle.snapshot_files.proofs.Losing.{without_these, without_others}
use Rattle.snapshot_files.proofs.Leaving.{Takes, ArePlain, stands_without}

-- ---- names

pub name_plain : (name : List ℕ) → is_file_name name ≡ true → no_slash name ≡ true
name_plain name is = id_no_slash name (file_name_id name is)

plain_behind : (xs ys : List ℕ) → no_slash xs ≡ true → no_slash ys ≡ true → no_slash (xs ++ ys) ≡ true
plain_behind [] ys h k = k
plain_behind (x ∷ xs) ys h k = let both = and_parts _ (no_slash xs) h in and_from _ (no_slash (xs ++ ys)) both.0 (plain_behind xs ys both.1 k)

-- a temporary name is that of another file in the same folder
temporary_in : (key : SnapshotKey) (name : List ℕ) → temporary (file_path key name) ≡ file_path key (name ++ codes ".tmp")
temporary_in key name = simp append_assoc refl

-- it ends in another letter
not_manifest : (name : List ℕ) → name ++ codes ".tmp" ≢ manifest_name
not_manifest name e =
    let len : length name ≡ 11 = omega (arith, ap length e, length-append name (codes ".tmp")) in
    let seam : drop 11 (name ++ codes ".tmp") ≡ codes ".tmp" = subst (λ n. drop n (name ++ codes ".tmp") ≡ codes ".tmp") len (drop-append_seam name (codes ".tmp")) in
    let last : codes ".tmp" ≡ drop 11 manifest_name = sym seam ∙ ap (drop 11) e in
    cc

temporary_apart : (snapshots : List Snapshot) (key : SnapshotKey) (name : List ℕ) → All IsSnapshot snapshots → IsKey key → no_slash name ≡ true → All (λ x. x.key ≢ key) snapshots
    → Apart snapshots (temporary (file_path key name))
temporary_apart snapshots key name each is plain lacks =
    subst (Apart snapshots) (sym (temporary_in key name))
    (apart_file snapshots key (name ++ codes ".tmp") each is (plain_behind name (codes ".tmp") plain refl) (not_manifest name) lacks)

-- ---- a file that doesn't matter

-- without what stands at a name that doesn't matter
stands_but : (snapshots : List Snapshot) (name : List ℕ) (b c : Files) → Apart snapshots name → SameBut name b c → StandsFor b snapshots → StandsFor c snapshots
stands_but snapshots name b c apart same s =
    stands_agree b c snapshots (agrees_off b c snapshots (λ q. q ≡ name) (λ q other. same q other) (λ q e. subst (Apart snapshots) (sym e) apart)) s

stands_installed : (snapshots : List Snapshot) (path bytes : List ℕ) (b : Files) → Apart snapshots path → Apart snapshots (temporary path) → StandsFor b snapshots → StandsFor (installed b path bytes) snapshots
stands_installed snapshots path bytes b apart staged s =
    stands_but snapshots path (remove b (temporary path)) (installed b path bytes) apart (placed_other (remove b (temporary path)) path (Some bytes))
    (stands_but snapshots (temporary path) b (remove b (temporary path)) staged (placed_other b (temporary path) None) s)

module _ (snapshots : List Snapshot) (key : SnapshotKey) (name path : List ℕ) (new : IsOfNew snapshots key name path) where
  plain : no_slash name ≡ true
  plain = name_plain name new.grammar.1

  its_path : All IsSnapshot snapshots → Apart snapshots path
  its_path each = subst (Apart snapshots) (sym new.is) (apart_file snapshots key name each new.grammar.0 plain new.other new.lacks)

  its_temporary : All IsSnapshot snapshots → Apart snapshots (temporary path)
  its_temporary each = subst (λ (p : List ℕ). Apart snapshots (temporary p)) (sym new.is) (temporary_apart snapshots key name each new.grammar.0 plain new.lacks)

  pub stands_put : (bytes : List ℕ) (b : Files) → StandsFor b snapshots → StandsFor (installed b path bytes) snapshots
  stands_put bytes b s = stands_installed snapshots path bytes b (its_path s.each) (its_temporary s.each) s

  pub stands_putting : (read : Files) (bytes : List ℕ) (b c : Files) → Installs read path bytes b c → StandsFor b snapshots → StandsFor c snapshots
  stands_putting read bytes b c (inl same) s = stands_but snapshots (temporary path) b c (its_temporary s.each) same s
  stands_putting read bytes b c (inr is) s = subst (λ (m : Files). StandsFor m snapshots) (sym is.1) (stands_put bytes b s)

-- ---- a snapshot more

no_content : (c : Content) → names_content c (manifest_name ++ codes ".tmp") ≡ true → ⊥
no_content (blob bytes) e = cc
no_content (archive a) e = by_layout a.layout e
  where
    by_layout : (layout : Layout) → (elim layout [ dynamic ↦ is_dynamic_name (manifest_name ++ codes ".tmp") | fixed size chunk_size ↦ is_fixed_name (manifest_name ++ codes ".tmp") ]) ≡ true → ⊥
    by_layout dynamic e = cc
    by_layout (fixed size chunk_size) e = cc

module _ (read : Files) (snapshots : List Snapshot) (x : Snapshot) (path text : List ℕ) (full : Completes read snapshots x path text) where
  abbrev staged : List ℕ
  staged = temporary (manifest_path x.key)

  staged_apart : All IsSnapshot snapshots → Apart snapshots staged
  staged_apart each = temporary_apart snapshots x.key manifest_name each ((full.fits).key) manifest_plain full.lacks

  -- no file of the snapshot's
  file_staged : (f : File) → IsTrue (names_content f.content f.name) → no_slash f.name ≡ true → file_path x.key f.name ≢ staged
  file_staged f named plain e =
      let name : f.name ≡ manifest_name ++ codes ".tmp" =
      (same_path x.key x.key f.name (manifest_name ++ codes ".tmp") (full.fits).key (full.fits).key plain refl (e ∙ temporary_in x.key manifest_name)).1 in
      no_content f.content (subst (λ (n : List ℕ). names_content f.content n ≡ true) name named)

  ready_still : (b : Files) → b ≡ read → All (IsReady (remove b staged) x.key text) x.files
  ready_still b is = λ i d lt.
      let f = get_or x.files i d in
      let was = full.ready i d lt in (
        λ ne. placed_other b staged None (file_path x.key f.name) (file_staged f ((full.fits).kinds i d lt) (file_plain x full.fits i d lt))
            ∙ ap (λ (m : Files). get m (file_path x.key f.name)) is ∙ was.0 ne,
        was.1,
      )

  pieces_still : (b : Files) → b ≡ read → HoldsPieces (remove b staged) x
  pieces_still b is =
      pieces_agree b (remove b staged)
      (λ digest. placed_other b staged None (chunk_name digest) (λ e. chunk_apart digest x.key (manifest_name ++ codes ".tmp") (e ∙ temporary_in x.key manifest_name)))
      x (subst (λ (m : Files). HoldsPieces m x) (sym is) full.pieces)

  at_key : (b : Files) → b ≡ read → StandsFor b snapshots → StandsFor (installed b (manifest_path x.key) text) (insert_snapshot x snapshots)
  at_key b is s =
      let before = remove b staged in
      stands_finished before (installed b (manifest_path x.key) text) snapshots x text full.fits full.lacks
      (record {
        there = placed_same before (manifest_path x.key) (Some text);
        others = placed_other before (manifest_path x.key) (Some text);
      })
      (stands_but snapshots staged b before (staged_apart s.each) (placed_other b staged None) s)
      full.room (ready_still b is) (pieces_still b is)

  pub stands_completed : (b : Files) → b ≡ read → StandsFor b snapshots → StandsFor (installed b path text) (insert_snapshot x snapshots)
  stands_completed b is s = subst (λ (p : List ℕ). StandsFor (installed b p text) (insert_snapshot x snapshots)) (sym full.is) (at_key b is s)

  pub stands_completing : (b c : Files) → Installs read path text b c → StandsFor b snapshots → StandsFor c snapshots ⊎ StandsFor c (insert_snapshot x snapshots)
  stands_completing b c (inl same) s =
      inl (stands_but snapshots (temporary path) b c (subst (λ (p : List ℕ). Apart snapshots (temporary p)) (sym full.is) (staged_apart s.each)) same s)
  stands_completing b c (inr is) s = inr (subst (λ (m : Files). StandsFor m (insert_snapshot x snapshots)) (sym is.1) (stands_completed b is.0 s))

-- ---- a snapshot less

module _ (snapshots : List Snapshot) (key : SnapshotKey) (names : List (List ℕ)) (is : IsKey key) (are : All (λ name. IsTrue (is_file_name name)) names) where
  abbrev paths : List (List ℕ)
  paths = manifest_path key ∷ map (file_path key) names

  all_plain : ArePlain (manifest_name ∷ names)
  all_plain = All-cons (λ name. no_slash name ≡ true) manifest_name names manifest_plain (All-weaker (λ name. IsTrue (is_file_name name)) (λ name. no_slash name ≡ true) (λ name h. name_plain name h) names are)

  at_name : (ns : List (List ℕ)) (q : List ℕ) → Contains (map (file_path key) ns) q → (name : List ℕ) × Contains ns name × (file_path key name ≡ q)
  at_name [] q (k, lt, e) = absurd (omega (arith, lt))
  at_name (n ∷ ns) q (zero, lt, e) = (n, (0, omega arith, refl), e)
  at_name (n ∷ ns) q (suc k, lt, e) = let found = at_name ns q (k, omega (arith, lt), e) in
      (found.0, (suc (found.1).0, omega (arith, (found.1).1), (found.1).2), found.2)

  takes_of : (b c : Files) → get c (manifest_path key) ≡ None → MayLose paths b c → Takes b c key (manifest_name ∷ names)
  takes_of b c gone lose = record { manifest = gone; others = λ q none. told q none (lose q) }
    where
      told : (q : List ℕ) → ((name : List ℕ) → Contains (manifest_name ∷ names) name → file_path key name ≢ q) → (get c q ≡ get b q) ⊎ ((get c q ≡ None) × Contains paths q) → get c q ≡ get b q
      told q none (inl same) = same
      told q none (inr lost) = let found = at_name (manifest_name ∷ names) q lost.1 in absurd (none found.0 found.1 found.2)

  stands_taken : (b c : Files) → get c (manifest_path key) ≡ None → MayLose paths b c → StandsFor b snapshots → StandsFor c (without_snapshot key snapshots)
  stands_taken b c gone lose s = stands_without b c key (manifest_name ∷ names) snapshots is all_plain (takes_of b c gone lose) s

  pub stands_forgetting : (b c : Files) → Forgets (manifest_path key) (map (file_path key) names) b c → StandsFor b snapshots → StandsFor c snapshots ⊎ StandsFor c (without_snapshot key snapshots)
  stands_forgetting b c (inl same) s = inl (subst (λ (m : Files). StandsFor m snapshots) (sym same) s)
  stands_forgetting b c (inr lost) s = inr (stands_taken b c lost.0 lost.1 s)

  pub stands_forgotten : (read b c : Files) → ForgetsFirm read (manifest_path key) (map (file_path key) names) b c → StandsFor b snapshots → StandsFor c (without_snapshot key snapshots)
  stands_forgotten read b c lost s = stands_taken b c lost.1 lost.2 s

  pub stands_removed : (b c : Files) → c ≡ without paths b → StandsFor b snapshots → StandsFor c (without_snapshot key snapshots)
  stands_removed b c e s =
      stands_without b c key (manifest_name ∷ names) snapshots is all_plain
      (record {
        manifest = ap (λ (m : Files). get m (manifest_path key)) e ∙ without_these paths b (manifest_path key) (0, omega arith, refl);
        others = λ q none.
            ap (λ (m : Files). get m q) e
            ∙ without_others paths b q (λ has. let found = at_name (manifest_name ∷ names) q has in none found.0 found.1 found.2);
      }) s

-- ---- calls

on_ok : {A E : Type 0} (r : Result A E) (P : Type 0) → OnOk r P → IsOk r → P
on_ok (Ok x) P h ok = h
on_ok (Err e) P h ok = cc

module _ {D : Type 0} (d : Ghosts D) (old new : D) {A E : Type 0} (r : Result A E) (snapshots : List Snapshot) where
  pub moves_put : (key : SnapshotKey) (name path bytes : List ℕ) → IsOfNew snapshots key name path → Steps d.calls d.images old new (Installs (d.content old) path bytes)
      → (d.honest old → OnOk r (d.content new ≡ installed (d.content old) path bytes)) → Moves d old new (IsOk r) snapshots snapshots
  moves_put key name path bytes of crash content = record {
    images = λ all. leaves_as crash (λ c x. inl (stands_putting snapshots key name path of (d.content old) bytes x.0 c x.2 (all x.0 x.1)));
    content = λ ok h s. subst (λ (m : Files). StandsFor m snapshots) (sym (on_ok r _ (content h) ok)) (stands_put snapshots key name path of bytes (d.content old) s);
    firm = λ ok all c i. let x = now_leaves crash c i in stands_putting snapshots key name path of (d.content old) bytes x.0 c x.2 (all x.0 x.1);
  }

  pub moves_finished : (x : Snapshot) (path text : List ℕ) → Completes (d.content old) snapshots x path text → Steps d.calls d.images old new (Installs (d.content old) path text)
      → (d.honest old → OnOk r (d.content new ≡ installed (d.content old) path text)) → OnOk r (Now d.calls d.images new (After d.calls d.images old (InstallsFirm (d.content old) path text)))
      → Moves d old new (IsOk r) snapshots (insert_snapshot x snapshots)
  moves_finished x path text full crash content firm = record {
    images = λ all. leaves_as crash (λ c y. stands_completing (d.content old) snapshots x path text full y.0 c y.2 (all y.0 y.1));
    content = λ ok h s. subst (λ (m : Files). StandsFor m (insert_snapshot x snapshots)) (sym (on_ok r _ (content h) ok)) (stands_completed (d.content old) snapshots x path text full (d.content old) refl s);
    firm = λ ok all c i. let y = on_ok r _ firm ok c i in
        subst (λ (m : Files). StandsFor m (insert_snapshot x snapshots)) (sym y.2.1) (stands_completed (d.content old) snapshots x path text full y.0 y.2.0 (all y.0 y.1));
  }

  pub moves_forgotten : (key : SnapshotKey) (names : List (List ℕ)) (manifest : List ℕ) (paths : List (List ℕ)) → IsKey key → All (λ name. IsTrue (is_file_name name)) names
      → manifest ≡ manifest_path key → paths ≡ map (file_path key) names
      → Steps d.calls d.images old new (Forgets manifest paths)
      → (d.honest old → OnOk r (d.content new ≡ without (manifest ∷ paths) (d.content old)))
      → OnOk r (Now d.calls d.images new (After d.calls d.images old (ForgetsFirm (d.content old) manifest paths)))
      → Moves d old new (IsOk r) snapshots (without_snapshot key snapshots)
  moves_forgotten key names manifest paths is are first others crash content firm = record {
    images = λ all. leaves_as crash (λ c x. stands_forgetting snapshots key names is are x.0 c (subst (λ (p : List ℕ). Forgets p (map (file_path key) names) x.0 c) first (subst (λ (ps : List (List ℕ)). Forgets manifest ps x.0 c) others x.2)) (all x.0 x.1));
    content = λ ok h s. stands_removed snapshots key names is are (d.content old) (d.content new)
        (on_ok r _ (content h) ok ∙ ap (λ (p : List ℕ). without (p ∷ paths) (d.content old)) first ∙ ap (λ (ps : List (List ℕ)). without (manifest_path key ∷ ps) (d.content old)) others) s;
    firm = λ ok all c i. let x = on_ok r _ firm ok c i in
        stands_forgotten snapshots key names is are (d.content old) x.0 c
        (subst (λ (p : List ℕ). ForgetsFirm (d.content old) p (map (file_path key) names) x.0 c) first (subst (λ (ps : List (List ℕ)). ForgetsFirm (d.content old) manifest ps x.0 c) others x.2)) (all x.0 x.1);
  }

  -- nothing was done
  pub moves_none : (second : List Snapshot) → (IsOk r → ⊥) → Steps d.calls d.images old new Same → Moves d old new (IsOk r) snapshots second
  moves_none second never crash = record {
    images = λ all. leaves_as crash (λ c x. inl (subst (λ (m : Files). StandsFor m snapshots) (sym x.2) (all x.0 x.1)));
    content = λ ok. absurd (never ok);
    firm = λ ok. absurd (never ok);
  }
