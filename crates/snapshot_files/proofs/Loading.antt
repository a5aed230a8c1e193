-- What stands for a list of snapshots is loaded as that list.
use Rattle.std.proofs.Common.{◌≡◌, ⊎_elim, ℕ, Bool, true, false, not, ◌&&◌, get_or, length, map, nat_le, List, [], ◌∷◌, Option, Some, None, IsSome, refl, sym, ap, subst, ◌∙◌}
use Rattle.std.specs.Cmp.{IsTotalOrder, on_total}
use Rattle.std.specs.FinMap.{get, entries, entries_sorted}
use Rattle.std.specs.List.{All, AllPairs, Contains, cons_option, filter, filter_map}
use Rattle.std.specs.Option.{is_some}
use Rattle.std.specs.Str.{bytes_eq}
use Rattle.std.specs.declared.cmp.Ordering.{Ordering}
use Rattle.std.proofs.lemmas.Bool.{cond_both, le-leb}
use Rattle.std.proofs.lemmas.List.Elements.{All-nil, All-cons, All-head, All-tail, All-weaker, All-contains, All-contains_itself, filter_passes}
use Rattle.std.proofs.lemmas.List.Kept.{AllPairs-cons, AllPairs-filter}
use Rattle.std.proofs.lemmas.Slice.Eq.{bytes_eq-Decides}
use Rattle.store_types.specs.declared.names.SnapshotKey.{SnapshotKey}
use Rattle.store_types.specs.Chain.Reading.{◌>>=◌, only_if}
use Rattle.store_types.specs.FileNames.{manifest_name}
use Rattle.store_types.specs.KeyOrder.{key_cmp_total}
use Rattle.store_types.specs.Names.{IsKey, key_cmp, key_lt, same_key}
use Rattle.store_types.proofs.OrderLaws.{same_keys}
use Rattle.store_files.specs.Archive.{File, Snapshot, file_text, pieces_of}
use Rattle.store_files.specs.Folder.{Files, file_path, manifest_path}
use Rattle.store_files.specs.Manifest.{Manifest}
use Rattle.store_model.specs.Load.{Entries, files_in, key_of_manifest, read_manifest, snapshot_in, entry_snapshot, in_order, snapshots_in, load}
use Rattle.store_model.specs.Manifests.{listed_names}
use Rattle.store_model.specs.Stands.{StandsFor, IsSnapshot, HoldsFiles, HoldsPieces, keys_rise}
use Rattle.store_model.specs.Store.{insert_snapshot}
use Rattle.store_model.proofs.Finding.{some_same}
use Rattle.store_model.proofs.Insertions.{All-insert, Contains-here, Contains-later, Contains-cases, rise-insert}
use Rattle.snapshot_files.proofs.Contents.{IsThere, all_inside, bytes_there, content_read}
use Rattle.snapshot_files.proofs.FileLists.{IsRead, files_read}
use Rattle.snapshot_files.proofs.Listing.{Differ, names_of, entries_differ, not_true, pairs_head, pairs_nil, pairs_tail}
use Rattle.snapshot_files.proofs.Manifests.{HasListing, has_listing}
use Rattle.snapshot_files.proofs.Mapped.{map_contains, contains_given, given_contains, entry_there, entry_read}
use Rattle.snapshot_files.proofs.Named.{key_named, named_key}
use Rattle.snapshot_files.proofs.Rising.{rises, one_list}

-- ---- one snapshot

abbrev snapshot_of : SnapshotKey → List File → Snapshot
snapshot_of key files = record { key = key; files = files }

abbrev from_files : SnapshotKey → Option (List File) → Option Snapshot
from_files key o = o >>= (λ files. Some (snapshot_of key files))

abbrev from_few : Entries → SnapshotKey → Manifest → Bool → Option Snapshot
from_few m key listed b = only_if b >>= (λ _. from_files key (files_in m key (manifest_name ∷ listed_names listed)))

abbrev from_listed : Entries → SnapshotKey → Option Manifest → Option Snapshot
from_listed m key o = o >>= (λ listed. from_few m key listed (nat_le (length listed.files) 63))

abbrev from_key : Entries → List ℕ → Option SnapshotKey → Option Snapshot
from_key m bytes o = o >>= (λ key. snapshot_in m key bytes)

false_true : false ≡ true → ⊥
false_true e = cc

-- the manifest's own name is not among the others
own_apart : (names : List (List ℕ)) → AllPairs Differ names → AllPairs Differ (manifest_name ∷ filter (λ name. not (bytes_eq name manifest_name)) names)
own_apart names once =
    let others = filter (λ name. not (bytes_eq name manifest_name)) names in
    AllPairs-cons Differ manifest_name others
    (All-weaker (λ name. not (bytes_eq name manifest_name) ≡ true) (Differ manifest_name)
    (λ name passes same. false_true (sym (ap not ((bytes_eq-Decides name manifest_name).1 (sym same))) ∙ passes)) others
    (filter_passes (λ name. not (bytes_eq name manifest_name)) names))
    (AllPairs-filter Differ (λ name. not (bytes_eq name manifest_name)) names once)

module _ (m : Files) (x : Snapshot) (is : IsSnapshot x) (held : HoldsFiles m x) (pieces : HoldsPieces m x) where
  all_read : All (IsRead m x.key) x.files
  all_read = λ i d lt.
      let f = get_or x.files i d in (
        bytes_there m (file_path x.key f.name) (file_text f.content) (held i d lt),
        content_read m f.name f.content (is.kinds i d lt) (is.contents i d lt) (all_inside (IsThere m) (λ (g : File). pieces_of g.content) x.files pieces i d lt),
      )

  snapshot_read : (h : HasListing m x) → snapshot_in (entries m) x.key h.bytes ≡ Some x
  unfolding snapshot_in
  snapshot_read h =
      ap (from_listed (entries m) x.key) h.read
      ∙ ap (from_few (entries m) x.key h.listed) (le-leb (length (h.listed).files) 63 h.few)
      ∙ ap (from_files x.key) (files_read m x.key x.files (manifest_name ∷ listed_names h.listed) is.names all_read h.members (own_apart (map (λ f. f.name) (h.listed).files) h.once))

  -- by its manifest's entry
  entry_gives : (h : HasListing m x) → entry_snapshot (entries m) (manifest_path x.key, h.bytes) ≡ Some x
  unfolding entry_snapshot
  entry_gives h = ap (from_key (entries m) h.bytes) (named_key x.key is.key) ∙ snapshot_read h

-- ---- what an entry gives

key_from_files : (key : SnapshotKey) (o : Option (List File)) (y : Snapshot) → from_files key o ≡ Some y → y.key ≡ key
key_from_files key None y e = cc
key_from_files key (Some files) y e = sym (ap (λ (z : Snapshot). z.key) (some_same (snapshot_of key files) y e))

key_from_few : (m : Entries) (key : SnapshotKey) (listed : Manifest) (b : Bool) (y : Snapshot) → from_few m key listed b ≡ Some y → y.key ≡ key
key_from_few m key listed true y e = key_from_files key (files_in m key (manifest_name ∷ listed_names listed)) y e
key_from_few m key listed false y e = cc

key_from_listed : (m : Entries) (key : SnapshotKey) (o : Option Manifest) (y : Snapshot) → from_listed m key o ≡ Some y → y.key ≡ key
key_from_listed m key None y e = cc
key_from_listed m key (Some listed) y e = key_from_few m key listed (nat_le (length listed.files) 63) y e

its_key : (m : Entries) (key : SnapshotKey) (bytes : List ℕ) (y : Snapshot) → snapshot_in m key bytes ≡ Some y → y.key ≡ key
unfolding snapshot_in
its_key m key bytes y e = key_from_listed m key (read_manifest bytes) y e

-- it has the name of the snapshot's manifest
record IsOf (m : Entries) (path bytes : List ℕ) (y : Snapshot) : Type 0 where
  pub path_is : path ≡ manifest_path y.key
  pub key : IsKey y.key
  pub read : snapshot_in m y.key bytes ≡ Some y

is_of : (m : Entries) (path bytes : List ℕ) (y : Snapshot) → entry_snapshot m (path, bytes) ≡ Some y → IsOf m path bytes y
unfolding entry_snapshot
is_of m path bytes y is = by_key (key_of_manifest path) refl is
  where
    by_key : (o : Option SnapshotKey) → key_of_manifest path ≡ o → from_key m bytes o ≡ Some y → IsOf m path bytes y
    by_key None at is = cc
    by_key (Some k) at is =
        let named = key_named path k at in
        let same : y.key ≡ k = its_key m k bytes y is in
        record {
          path_is = named.0 ∙ ap manifest_path (sym same);
          key = subst IsKey (sym same) named.1;
          read = subst (λ q. snapshot_in m q bytes ≡ Some y) (sym same) is;
        }

-- ---- different entries give different snapshots

abbrev Apart : Snapshot → Snapshot → Type 0
Apart x y = same_key y.key x.key ≡ false

module _ (m : Entries) where
  abbrev given_by : Entries → List Snapshot
  given_by es = filter_map (entry_snapshot m) es

  apart_from : (x : Snapshot) (path : List ℕ) → path ≡ manifest_path x.key → (es : Entries) → All (Differ path) (names_of es) → All (Apart x) (given_by es)
  apart_from x path is [] h = All-nil (Apart x)
  apart_from x path is (e ∷ es) h = by_case (entry_snapshot m e) refl (apart_from x path is es (All-tail (Differ path) e.0 (names_of es) h))
    where
      by_case : (o : Option Snapshot) → entry_snapshot m e ≡ o → All (Apart x) (given_by es) → All (Apart x) (cons_option o (given_by es))
      by_case None at rest = rest
      by_case (Some y) at rest =
          All-cons (Apart x) y (given_by es)
          (not_true (same_key y.key x.key)
          (λ same. All-head (Differ path) e.0 (names_of es) h (is ∙ ap manifest_path (sym ((same_keys y.key x.key).0 same)) ∙ sym (is_of m e.0 e.1 y at).path_is)))
          rest

  all_apart : (es : Entries) → AllPairs Differ (names_of es) → AllPairs Apart (given_by es)
  all_apart [] h = pairs_nil Apart
  all_apart (e ∷ es) h = by_case (entry_snapshot m e) refl (all_apart es (pairs_tail Differ e.0 (names_of es) h))
    where
      by_case : (o : Option Snapshot) → entry_snapshot m e ≡ o → AllPairs Apart (given_by es) → AllPairs Apart (cons_option o (given_by es))
      by_case None at rest = rest
      by_case (Some x) at rest =
          AllPairs-cons Apart x (given_by es) (apart_from x e.0 (is_of m e.0 e.1 x at).path_is es (pairs_head Differ e.0 (names_of es) h)) rest

-- ---- in order

snapshot_new : (x : Snapshot) (xs : List Snapshot) → Contains (insert_snapshot x xs) x
snapshot_new x [] = Contains-here x []
snapshot_new x (y ∷ ys) =
    cond_both (key_lt x.key y.key) (x ∷ y ∷ ys) (y ∷ insert_snapshot x ys) (λ l. Contains l x)
    (λ _. Contains-here x (y ∷ ys))
    (λ _. Contains-later y (insert_snapshot x ys) x (snapshot_new x ys))

snapshot_kept : (x : Snapshot) (xs : List Snapshot) (z : Snapshot) → Contains xs z → Contains (insert_snapshot x xs) z
snapshot_kept x [] z h = Contains-later x [] z h
snapshot_kept x (y ∷ ys) z h =
    cond_both (key_lt x.key y.key) (x ∷ y ∷ ys) (y ∷ insert_snapshot x ys) (λ l. Contains l z)
    (λ _. Contains-later x (y ∷ ys) z h)
    (λ _. ⊎_elim
    (λ (e : y ≡ z). subst (Contains (y ∷ insert_snapshot x ys)) e (Contains-here y (insert_snapshot x ys)))
    (λ (c : Contains ys z). Contains-later y (insert_snapshot x ys) z (snapshot_kept x ys z c))
    (Contains-cases y ys z h))

each_in_order : (P : Snapshot → Type 0) (xs : List Snapshot) → All P xs → All P (in_order xs)
unfolding in_order
each_in_order P [] h = All-nil P
each_in_order P (x ∷ xs) h = All-insert P x (in_order xs) (All-head P x xs h) (each_in_order P xs (All-tail P x xs h))

to_order : (xs : List Snapshot) (y : Snapshot) → Contains xs y → Contains (in_order xs) y
unfolding in_order
to_order [] y h = h
to_order (x ∷ xs) y h =
    ⊎_elim
    (λ (e : x ≡ y). subst (Contains (insert_snapshot x (in_order xs))) e (snapshot_new x (in_order xs)))
    (λ (c : Contains xs y). snapshot_kept x (in_order xs) y (to_order xs y c))
    (Contains-cases x xs y h)

from_order : (xs : List Snapshot) (y : Snapshot) → Contains (in_order xs) y → Contains xs y
from_order xs y h = All-contains (Contains xs) (in_order xs) y (each_in_order (Contains xs) xs (All-contains_itself xs)) h

rise_in_order : (xs : List Snapshot) → AllPairs Apart xs → keys_rise (in_order xs) ≡ true
unfolding in_order
rise_in_order [] h = refl
rise_in_order (x ∷ xs) h = rise-insert x (in_order xs) (each_in_order (Apart x) xs (pairs_head Apart x xs h)) (rise_in_order xs (pairs_tail Apart x xs h))

abbrev key_order : Snapshot → Snapshot → Ordering
key_order x y = key_cmp x.key y.key

key_order_total : IsTotalOrder key_order
key_order_total = on_total (λ (x : Snapshot). x.key) key_cmp_total

snapshots_rise : (xs : List Snapshot) → keys_rise xs ≡ rises key_order xs
snapshots_rise [] = refl
snapshots_rise (x ∷ []) = refl
snapshots_rise (x ∷ y ∷ xs) = ap (λ b. key_lt x.key y.key && b) (snapshots_rise (y ∷ xs))

-- ---- all of them

module _ (m : Files) (snapshots : List Snapshot) (s : StandsFor m snapshots) where
  abbrev found : List Snapshot
  found = given_by (entries m) (entries m)

  listing : (x : Snapshot) → Contains snapshots x → HasListing m x
  listing x c = has_listing m x (All-contains IsSnapshot snapshots x s.each c) (All-contains (HoldsFiles m) snapshots x s.files c)

  -- each that stands is found
  is_found : (x : Snapshot) → Contains snapshots x → Contains found x
  is_found x c =
      let h = listing x c in
      contains_given (entry_snapshot (entries m)) (entries m) (manifest_path x.key, h.bytes) x
      (entry_gives m x (All-contains IsSnapshot snapshots x s.each c) (All-contains (HoldsFiles m) snapshots x s.files c) (All-contains (HoldsPieces m) snapshots x s.pieces c) h)
      (entry_there m (manifest_path x.key) h.bytes h.there)

  -- what has a standing one's key is that one
  same_snapshot : (x y : Snapshot) (path bytes : List ℕ) → Contains snapshots x → x.key ≡ y.key → IsOf (entries m) path bytes y → get m path ≡ Some bytes → x ≡ y
  same_snapshot x y path bytes c key of at =
      let h = listing x c in
      let text : h.bytes ≡ bytes = some_same h.bytes bytes (sym h.there ∙ ap (λ k. get m (manifest_path k)) key ∙ ap (get m) (sym of.path_is) ∙ at) in
      let reads = snapshot_read m x (All-contains IsSnapshot snapshots x s.each c) (All-contains (HoldsFiles m) snapshots x s.files c) (All-contains (HoldsPieces m) snapshots x s.pieces c) h in
      some_same x y (sym reads ∙ ap (λ k. snapshot_in (entries m) k h.bytes) key ∙ ap (snapshot_in (entries m) y.key) text ∙ of.read)

  -- and no other
  stands : (y : Snapshot) → Contains found y → Contains snapshots y
  stands y c =
      let e = given_contains (entry_snapshot (entries m)) (entries m) y c in
      let path = (e.from).0 in
      let bytes = (e.from).1 in
      let of : IsOf (entries m) path bytes y = is_of (entries m) path bytes y e.gives in
      let at : get m path ≡ Some bytes = entry_read m path bytes e.among in
      let there : IsSome (get m (manifest_path y.key)) = ap is_some (ap (get m) (sym of.path_is) ∙ at) in
      let known = map_contains (λ (x : Snapshot). x.key) snapshots y.key ((s.manifests y.key of.key).0 there) in
      subst (Contains snapshots) (same_snapshot known.from y path bytes known.among known.gives of at) known.among

  pub loaded : load m ≡ snapshots
  unfolding load snapshots_in
  loaded =
      one_list key_order key_order_total (in_order found) snapshots
      (sym (snapshots_rise (in_order found)) ∙ rise_in_order found (all_apart (entries m) (entries m) (entries_differ (entries m) (entries_sorted m))))
      (sym (snapshots_rise snapshots) ∙ s.order)
      (λ y c. stands y (from_order found y c))
      (λ x c. to_order found x (is_found x c))
