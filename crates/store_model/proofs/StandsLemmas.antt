-- What changes of a map leave it standing for a list.
use Rattle.std.proofs.Common.{◌≡◌, ◌≢◌, ◌↔◌, ⊎_elim, ℕ, suc, ◌<◌, ◌≤◌, Bool, true, false, cond, length, get_or, map, List, ◌∷◌, Option, Some, refl, sym, ap, subst, ◌∙◌, arith}
use Rattle.std.proofs.lemmas.List.Elements.{All-weaker}
use Rattle.std.proofs.lemmas.Slice.Eq.{bytes_eq-Decides}
use Rattle.std.specs.FinMap.{get}
use Rattle.std.specs.List.{All, Contains}
use Rattle.std.specs.Option.{IsSome}
use Rattle.std.specs.Str.{bytes_eq}
use Rattle.sha2.specs.Sha256.{sha256}
use Rattle.store_types.specs.declared.names.SnapshotKey.{SnapshotKey}
use Rattle.store_types.specs.declared.names.GroupKey.{GroupKey}
use Rattle.store_types.specs.FileNames.{manifest_name}
use Rattle.store_types.specs.Names.{IsKey, same_key, same_group, group_of_key}
use Rattle.store_types.proofs.KeyTexts.{no_slash}
use Rattle.store_types.proofs.OrderLaws.{same_keys, same_groups}
use Rattle.store_files.specs.Archive.{File, Snapshot, file_text}
use Rattle.store_model.specs.Store.{in_group, insert_snapshot}
use Rattle.store_files.specs.Folder.{file_path}
use Rattle.store_model.specs.Stands.{StandsFor, IsSnapshot, HoldsFiles, HoldsPieces, pieces_in, group_limit}
use Rattle.store_files.specs.Folder.{Files, HasWholeChunks, manifest_path, chunk_name}
use Rattle.store_model.proofs.Paths.{same_path, content_plain, manifest_plain, chunk_apart}
use Rattle.store_model.proofs.Insertions.{All-insert, Contains-new, Contains-kept, Contains-insert_cases, length-in_group-insert, rise-insert}

-- ---- maps that agree where it matters

abbrev AgreesAt : Files → Files → SnapshotKey → File → Type 0
AgreesAt m n key f = get n (file_path key f.name) ≡ get m (file_path key f.name)

-- at each name that matters for the list, n has what m has
pub record Agrees (m n : Files) (snapshots : List Snapshot) : Type 0 where
  pub manifests : (key : SnapshotKey) → IsKey key → get n (manifest_path key) ≡ get m (manifest_path key)
  pub files : All (λ x. All (AgreesAt m n x.key) x.files) snapshots
  pub chunks : (digest : List ℕ) → get n (chunk_name digest) ≡ get m (chunk_name digest)

pub pieces_agree : (m n : Files) → ((digest : List ℕ) → get n (chunk_name digest) ≡ get m (chunk_name digest)) → (x : Snapshot) → HoldsPieces m x → HoldsPieces n x
pieces_agree m n same x h = λ i d lt. same (sha256 (get_or (pieces_in x) i d)) ∙ h i d lt

pub chunks_agree : (m n : Files) → ((digest : List ℕ) → get n (chunk_name digest) ≡ get m (chunk_name digest)) → HasWholeChunks m → HasWholeChunks n
chunks_agree m n same h = λ digest bytes is at. h digest bytes is (sym (same digest) ∙ at)

pub files_agree : (m n : Files) (x : Snapshot) → All (AgreesAt m n x.key) x.files → HoldsFiles m x → HoldsFiles n x
files_agree m n x same h = λ i d lt. same i d lt ∙ h i d lt

pub stands_agree : (m n : Files) (snapshots : List Snapshot) → Agrees m n snapshots → StandsFor m snapshots → StandsFor n snapshots
stands_agree m n snapshots same s = record {
  order = s.order;
  each = s.each;
  groups = s.groups;
  manifests = λ key is. subst (λ (o : Option (List ℕ)). IsSome o ↔ Contains (map (λ (x : Snapshot). x.key) snapshots) key) (sym (same.manifests key is)) (s.manifests key is);
  files = λ k d lt. files_agree m n (get_or snapshots k d) (same.files k d lt) (s.files k d lt);
  pieces = λ k d lt. pieces_agree m n same.chunks (get_or snapshots k d) (s.pieces k d lt);
  chunks = chunks_agree m n same.chunks s.chunks;
}

-- ---- names that don't matter

-- a name that doesn't matter for the list
pub record Apart (snapshots : List Snapshot) (q : List ℕ) : Type 0 where
  pub manifests : (key : SnapshotKey) → IsKey key → manifest_path key ≢ q
  pub files : All (λ x. All (λ f. file_path x.key f.name ≢ q) x.files) snapshots
  pub chunks : (digest : List ℕ) → chunk_name digest ≢ q

-- where only such names have changed
pub agrees_off : (m n : Files) (snapshots : List Snapshot) (Changed : List ℕ → Type 0) → ((q : List ℕ) → (Changed q → ⊥) → get n q ≡ get m q) → ((q : List ℕ) → Changed q → Apart snapshots q) → Agrees m n snapshots
agrees_off m n snapshots Changed same apart = record {
  manifests = λ key is. same (manifest_path key) (λ c. (apart (manifest_path key) c).manifests key is refl);
  files = λ k d lt. λ i e lt2.
      same (file_path (get_or snapshots k d).key (get_or (get_or snapshots k d).files i e).name)
      (λ c. (apart (file_path (get_or snapshots k d).key (get_or (get_or snapshots k d).files i e).name) c).files k d lt i e lt2 refl);
  chunks = λ digest. same (chunk_name digest) (λ c. (apart (chunk_name digest) c).chunks digest refl);
}

-- a snapshot's file names have no slash
pub file_plain : (x : Snapshot) → IsSnapshot x → All (λ f. no_slash f.name ≡ true) x.files
file_plain x h = λ i d lt. content_plain (get_or x.files i d).content (get_or x.files i d).name (h.kinds i d lt)

-- a file, other than the manifest, of a snapshot that isn't in the list
pub apart_file : (snapshots : List Snapshot) (key : SnapshotKey) (name : List ℕ) → All IsSnapshot snapshots → IsKey key → no_slash name ≡ true → name ≢ manifest_name → All (λ x. x.key ≢ key) snapshots → Apart snapshots (file_path key name)
apart_file snapshots key name each is plain other new = record {
  manifests = λ k is_key e. other (sym (same_path k key manifest_name name is_key is manifest_plain plain e).1);
  files = λ k d lt. λ i f lt2 e.
      let x = get_or snapshots k d in
      new k d lt (same_path x.key key (get_or x.files i f).name name (each k d lt).key is (file_plain x (each k d lt) i f lt2) plain e).0;
  chunks = λ digest. chunk_apart digest key name;
}

-- ---- a snapshot that is finished

-- what is put at a name, and what is elsewhere
pub record Puts (m n : Files) (q bytes : List ℕ) : Type 0 where
  pub there : get n q ≡ Some bytes
  pub others : (p : List ℕ) → p ≢ q → get n p ≡ get m p

-- a finished snapshot's files before its manifest is put
abbrev pub IsReady : Files → SnapshotKey → List ℕ → File → Type 0
IsReady m key manifest f = ((f.name ≢ manifest_name) → get m (file_path key f.name) ≡ Some (file_text f.content)) × ((f.name ≡ manifest_name) → file_text f.content ≡ manifest)

by_name : (q name : List ℕ) (P : Type 0) → (q ≡ name → P) → (q ≢ name → P) → P
by_name q name P same other = by_test (bytes_eq q name) refl
  where
    by_test : (b : Bool) → bytes_eq q name ≡ b → P
    by_test true e = same ((bytes_eq-Decides q name).0 e)
    by_test false e = other (λ is. absurd (not_both (sym ((bytes_eq-Decides q name).1 is) ∙ e)))
      where
        not_both : true ≡ false → ⊥
        not_both e = cc

by_key : (a b : SnapshotKey) (P : Type 0) → (a ≡ b → P) → (a ≢ b → P) → P
by_key a b P same other = by_test (same_key a b) refl
  where
    by_test : (t : Bool) → same_key a b ≡ t → P
    by_test true e = same ((same_keys a b).0 e)
    by_test false e = other (λ is. absurd (not_both (sym ((same_keys a b).1 is) ∙ e)))
      where
        not_both : true ≡ false → ⊥
        not_both e = cc

pub different : (a b : SnapshotKey) → a ≢ b → same_key a b ≡ false
different a b ne = by_test (same_key a b) refl
  where
    by_test : (t : Bool) → same_key a b ≡ t → same_key a b ≡ false
    by_test true e = absurd (ne ((same_keys a b).0 e))
    by_test false e = e

-- a group has room for one more
pub groups_insert : (snapshots : List Snapshot) (x : Snapshot) (group : GroupKey) → length (in_group (group_of_key x.key) snapshots) < group_limit → length (in_group group snapshots) ≤ group_limit → length (in_group group (insert_snapshot x snapshots)) ≤ group_limit
groups_insert snapshots x group room had =
    let count = length-in_group-insert group x snapshots in
    rw count (by_test (same_group (group_of_key x.key) group) refl)
  where
    by_test : (t : Bool) → same_group (group_of_key x.key) group ≡ t → length (cond t (x ∷ in_group group snapshots) (in_group group snapshots)) ≤ group_limit
    by_test true e = subst (λ g. suc (length (in_group g snapshots)) ≤ group_limit) ((same_groups (group_of_key x.key) group).0 e) (omega (arith, room))
    by_test false e = had

module _ (m n : Files) (snapshots : List Snapshot) (x : Snapshot) (text : List ℕ) (is : IsSnapshot x) (new : All (λ y. y.key ≢ x.key) snapshots) (puts : Puts m n (manifest_path x.key) text) (s : StandsFor m snapshots) where
  new_files : All (IsReady m x.key text) x.files → HoldsFiles n x
  new_files ready = λ i d lt.
      let f = get_or x.files i d in
      by_name f.name manifest_name (get n (file_path x.key f.name) ≡ Some (file_text f.content))
      (λ e. ap (λ name. get n (file_path x.key name)) e ∙ puts.there ∙ ap (λ t. Some t) (sym ((ready i d lt).1 e)))
      (λ ne. puts.others (file_path x.key f.name) (λ e. ne (same_path x.key x.key f.name manifest_name is.key is.key (file_plain x is i d lt) manifest_plain e).1) ∙ (ready i d lt).0 ne)

  old_files : All (HoldsFiles n) snapshots
  old_files = λ k d lt. λ i e lt2.
      let y = get_or snapshots k d in
      puts.others (file_path y.key (get_or y.files i e).name)
      (λ same. new k d lt (same_path y.key x.key (get_or y.files i e).name manifest_name (s.each k d lt).key is.key (file_plain y (s.each k d lt) i e lt2) manifest_plain same).0)
      ∙ s.files k d lt i e lt2

  same_chunks : (digest : List ℕ) → get n (chunk_name digest) ≡ get m (chunk_name digest)
  same_chunks digest = puts.others (chunk_name digest) (chunk_apart digest x.key manifest_name)

  abbrev keys_of : List Snapshot → List SnapshotKey
  keys_of xs = map (λ (y : Snapshot). y.key) xs

  manifests_are : (key : SnapshotKey) → IsKey key → IsSome (get n (manifest_path key)) ↔ Contains (keys_of (insert_snapshot x snapshots)) key
  manifests_are key is_key = by_key key x.key (IsSome (get n (manifest_path key)) ↔ Contains (keys_of (insert_snapshot x snapshots)) key)
      (λ e. (
        λ _. subst (λ k. Contains (keys_of (insert_snapshot x snapshots)) k) (sym e) (Contains-new x snapshots),
        λ _. subst (λ (o : Option (List ℕ)). IsSome o) (sym (ap (λ k. get n (manifest_path k)) e ∙ puts.there)) refl,
      ))
      (λ ne.
      let same = puts.others (manifest_path key) (λ e. ne (same_path key x.key manifest_name manifest_name is_key is.key manifest_plain manifest_plain e).0) in (
        λ there. Contains-kept x snapshots key ((s.manifests key is_key).0 (subst (λ (o : Option (List ℕ)). IsSome o) same there)),
        λ has. subst (λ (o : Option (List ℕ)). IsSome o) (sym same) ((s.manifests key is_key).1 (⊎_elim (λ (e : x.key ≡ key). absurd (ne (sym e))) (λ (c : Contains (keys_of snapshots) key). c) (Contains-insert_cases x snapshots key has))),
      ))

  pub stands_finished : length (in_group (group_of_key x.key) snapshots) < group_limit → All (IsReady m x.key text) x.files → HoldsPieces m x → StandsFor n (insert_snapshot x snapshots)
  stands_finished room ready pieces = record {
    order = rise-insert x snapshots (λ k d lt. different (get_or snapshots k d).key x.key (new k d lt)) s.order;
    each = All-insert IsSnapshot x snapshots is s.each;
    groups = λ group. groups_insert snapshots x group room (s.groups group);
    manifests = manifests_are;
    files = All-insert (HoldsFiles n) x snapshots (new_files ready) old_files;
    pieces = All-insert (HoldsPieces n) x snapshots (pieces_agree m n same_chunks x pieces) (All-weaker (HoldsPieces m) (HoldsPieces n) (pieces_agree m n same_chunks) snapshots s.pieces);
    chunks = chunks_agree m n same_chunks s.chunks;
  }
