-- A map from which a snapshot's files are taken out stands for the list without the snapshot.
use Rattle.std.proofs.Common.{◌≡◌, ◌≢◌, ◌↔◌, ⊎_elim, ℕ, Bool, true, false, not, cond, get_or, map, List, [], ◌∷◌, Option, Some, None, refl, sym, ap, subst, ◌∙◌}
use Rattle.std.proofs.lemmas.List.Elements.{All-contains, All-map}
use Rattle.std.specs.FinMap.{get}
use Rattle.std.specs.List.{All, Contains}
use Rattle.std.specs.Option.{IsSome}
use Rattle.store_types.specs.declared.names.SnapshotKey.{SnapshotKey}
use Rattle.store_types.specs.FileNames.{manifest_name}
use Rattle.store_types.specs.Names.{IsKey, same_key}
use Rattle.store_types.proofs.KeyTexts.{no_slash}
use Rattle.store_types.proofs.OrderLaws.{same_keys}
use Rattle.store_files.specs.Archive.{Snapshot}
use Rattle.store_model.specs.Store.{without_snapshot}
use Rattle.store_files.specs.Folder.{file_path}
use Rattle.store_model.specs.Stands.{StandsFor, IsSnapshot, HoldsFiles, HoldsPieces}
use Rattle.store_files.specs.Folder.{Files, manifest_path, chunk_name}
use Rattle.store_model.proofs.Paths.{same_path, manifest_plain, chunk_apart}
use Rattle.store_model.proofs.Insertions.{Contains-here, Contains-later, Contains-cases}
use Rattle.store_model.proofs.StandsLemmas.{file_plain, pieces_agree, chunks_agree}
use Rattle.snapshot_files.proofs.Removals.{rise-without, groups-without, All-without, others}

-- ---- keys

abbrev keys_of : List Snapshot → List SnapshotKey
keys_of xs = map (λ (x : Snapshot). x.key) xs

still_there : (key k : SnapshotKey) (xs : List Snapshot) → k ≢ key → Contains (keys_of xs) k → Contains (keys_of (without_snapshot key xs)) k
still_there key k [] ne c = c
still_there key k (x ∷ xs) ne c =
    ⊎_elim (λ (e : x.key ≡ k). here (same_key x.key key) refl e) (λ (later : Contains (keys_of xs) k). behind (same_key x.key key) (still_there key k xs ne later)) (Contains-cases x.key (keys_of xs) k c)
  where
    here : (b : Bool) → same_key x.key key ≡ b → x.key ≡ k → Contains (keys_of (cond (not b) (x ∷ without_snapshot key xs) (without_snapshot key xs))) k
    here true is e = absurd (ne (sym e ∙ (same_keys x.key key).0 is))
    here false is e = subst (Contains (x.key ∷ keys_of (without_snapshot key xs))) e (Contains-here x.key (keys_of (without_snapshot key xs)))

    behind : (b : Bool) → Contains (keys_of (without_snapshot key xs)) k → Contains (keys_of (cond (not b) (x ∷ without_snapshot key xs) (without_snapshot key xs))) k
    behind true later = later
    behind false later = Contains-later x.key (keys_of (without_snapshot key xs)) k later

there_before : (key k : SnapshotKey) (xs : List Snapshot) → Contains (keys_of (without_snapshot key xs)) k → Contains (keys_of xs) k
there_before key k [] c = c
there_before key k (x ∷ xs) c = by_test (same_key x.key key) (there_before key k xs) c
  where
    by_test : (b : Bool) → (Contains (keys_of (without_snapshot key xs)) k → Contains (keys_of xs) k) → Contains (keys_of (cond (not b) (x ∷ without_snapshot key xs) (without_snapshot key xs))) k → Contains (x.key ∷ keys_of xs) k
    by_test true go c = Contains-later x.key (keys_of xs) k (go c)
    by_test false go c =
        ⊎_elim
        (λ (e : x.key ≡ k). subst (Contains (x.key ∷ keys_of xs)) e (Contains-here x.key (keys_of xs)))
        (λ (later : Contains (keys_of (without_snapshot key xs)) k). Contains-later x.key (keys_of xs) k (go later))
        (Contains-cases x.key (keys_of (without_snapshot key xs)) k c)

not_there : (key : SnapshotKey) (xs : List Snapshot) → Contains (keys_of (without_snapshot key xs)) key → ⊥
not_there key xs c = All-contains (λ k. k ≢ key) (keys_of (without_snapshot key xs)) key (All-map (λ k. k ≢ key) (λ (x : Snapshot). x.key) (without_snapshot key xs) (others key xs)) c refl

by_key : (a b : SnapshotKey) (P : Type 0) → (a ≡ b → P) → (a ≢ b → P) → P
by_key a b P same other = by_test (same_key a b) refl
  where
    by_test : (t : Bool) → same_key a b ≡ t → P
    by_test true e = same ((same_keys a b).0 e)
    by_test false e = other (λ is. absurd (not_both (sym ((same_keys a b).1 is) ∙ e)))
      where
        not_both : true ≡ false → ⊥
        not_both e = cc

no_some : (o : Option (List ℕ)) → o ≡ None → IsSome o → ⊥
no_some None e some = cc
no_some (Some x) e some = cc

-- ---- files

-- The snapshot's manifest is gone, and at names that are none of its files' all stays.
pub record Takes (m n : Files) (key : SnapshotKey) (names : List (List ℕ)) : Type 0 where
  pub manifest : get n (manifest_path key) ≡ None
  pub others : (q : List ℕ) → ((name : List ℕ) → Contains names name → file_path key name ≢ q) → get n q ≡ get m q

abbrev pub ArePlain : List (List ℕ) → Type 0
ArePlain names = All (λ name. no_slash name ≡ true) names

module _ (m n : Files) (key : SnapshotKey) (names : List (List ℕ)) (snapshots : List Snapshot) (is : IsKey key) (plain : ArePlain names) (takes : Takes m n key names) (s : StandsFor m snapshots) where
  plain_name : (name : List ℕ) → Contains names name → no_slash name ≡ true
  plain_name name has = All-contains (λ name. no_slash name ≡ true) names name plain has

  -- a file of another snapshot
  other_file : (k : SnapshotKey) (name : List ℕ) → IsKey k → no_slash name ≡ true → k ≢ key → get n (file_path k name) ≡ get m (file_path k name)
  other_file k name is_k plain_k ne = takes.others (file_path k name) (λ other has e. ne (sym (same_path key k other name is is_k (plain_name other has) plain_k e).0))

  same_chunks : (digest : List ℕ) → get n (chunk_name digest) ≡ get m (chunk_name digest)
  same_chunks digest = takes.others (chunk_name digest) (λ name has e. chunk_apart digest key name (sym e))

  manifests_are : (k : SnapshotKey) → IsKey k → IsSome (get n (manifest_path k)) ↔ Contains (keys_of (without_snapshot key snapshots)) k
  manifests_are k is_k = by_key k key (IsSome (get n (manifest_path k)) ↔ Contains (keys_of (without_snapshot key snapshots)) k)
      (λ e. (
        λ some. absurd (no_some (get n (manifest_path k)) (ap (λ x. get n (manifest_path x)) e ∙ takes.manifest) some),
        λ c. absurd (not_there key snapshots (subst (Contains (keys_of (without_snapshot key snapshots))) e c)),
      ))
      (λ ne.
      let same = other_file k manifest_name is_k manifest_plain ne in (
        λ some. still_there key k snapshots ne ((s.manifests k is_k).0 (subst (λ (o : Option (List ℕ)). IsSome o) same some)),
        λ c. subst (λ (o : Option (List ℕ)). IsSome o) (sym same) ((s.manifests k is_k).1 (there_before key k snapshots c)),
      ))

  files_still : (x : Snapshot) → IsSnapshot x → x.key ≢ key → HoldsFiles m x → HoldsFiles n x
  files_still x is_x ne held = λ i d lt. other_file x.key (get_or x.files i d).name is_x.key (file_plain x is_x i d lt) ne ∙ held i d lt

  pub stands_without : StandsFor n (without_snapshot key snapshots)
  stands_without =
      let each : All IsSnapshot (without_snapshot key snapshots) = All-without IsSnapshot key snapshots s.each in
      let held : All (HoldsFiles m) (without_snapshot key snapshots) = All-without (HoldsFiles m) key snapshots s.files in
      let pieces : All (HoldsPieces m) (without_snapshot key snapshots) = All-without (HoldsPieces m) key snapshots s.pieces in
      record {
        order = rise-without key snapshots s.order;
        each = each;
        groups = λ group. groups-without key group Rattle.store_model.specs.Stands.group_limit snapshots (s.groups group);
        manifests = manifests_are;
        files = λ i d lt. files_still (get_or (without_snapshot key snapshots) i d) (each i d lt) (others key snapshots i d lt) (held i d lt);
        pieces = λ i d lt. pieces_agree m n same_chunks (get_or (without_snapshot key snapshots) i d) (pieces i d lt);
        chunks = chunks_agree m n same_chunks s.chunks;
      }
