-- No snapshot is damaged in files that stand for a list.
use Rattle.std.proofs.Common.{◌≡◌, ℕ, Bool, true, false, length, List, [], ◌∷◌, nat_le, Option, Some, None, IsSome, is_some, refl, sym, ap, subst, ◌∙◌}
use Rattle.std.specs.Prelude.{is_none}
use Rattle.std.specs.FinMap.{get, entries}
use Rattle.std.specs.List.{All, Contains, filter_map, list_any}
use Rattle.std.proofs.lemmas.List.Elements.{All-nil, All-head, All-tail, All-contains, All-contains_itself}
use Rattle.store_types.specs.declared.names.SnapshotKey.{SnapshotKey}
use Rattle.store_types.specs.Chain.Reading.{◌>>=◌, only_if}
use Rattle.store_types.specs.FileNames.{manifest_name}
use Rattle.store_files.specs.Archive.{File, Snapshot}
use Rattle.store_files.specs.Folder.{Files, manifest_path}
use Rattle.store_files.specs.Manifest.{Manifest}
use Rattle.store_model.specs.Load.{Entries, files_in, key_of_manifest, read_manifest, snapshot_in, entry_snapshot, in_order, snapshots_in, load}
use Rattle.store_model.specs.Manifests.{listed_names}
use Rattle.store_model.specs.Stands.{StandsFor}
use Rattle.store_model.proofs.Finding.{some_same}
use Rattle.store_model.proofs.Insertions.{All-insert, Contains-here, Contains-later}
use Rattle.snapshot_files.proofs.Loading.{loaded}
use Rattle.snapshot_files.proofs.Mapped.{IsGiven, entry_read, given_contains, map_contains}
use Rattle.snapshot_files.proofs.Named.{key_named}
use Rattle.plain_snapshots.specs.Loading.{has_damaged, is_damaged}
use Rattle.pbs_server.proofs.Tests.{both_false}

none_any : {A : Type 0} (p : A → Bool) (xs : List A) → ((x : A) → Contains xs x → p x ≡ false) → list_any p xs ≡ false
none_any p [] each = refl
none_any p (x ∷ xs) each = both_false (p x) (list_any p xs) (each x (Contains-here x xs)) (none_any p xs (λ y there. each y (Contains-later x xs y there)))

-- ---- what an entry gives

abbrev from_files : SnapshotKey → Option (List File) → Option Snapshot
from_files key o = o >>= (λ files. Some (record { key = key; files = files }))

abbrev from_few : Entries → SnapshotKey → Manifest → Bool → Option Snapshot
from_few m key listed b = only_if b >>= (λ _. from_files key (files_in m key (manifest_name ∷ listed_names listed)))

abbrev from_listed : Entries → SnapshotKey → Option Manifest → Option Snapshot
from_listed m key o = o >>= (λ listed. from_few m key listed (nat_le (length listed.files) 63))

abbrev from_key : Entries → List ℕ → Option SnapshotKey → Option Snapshot
from_key m bytes o = o >>= (λ key. snapshot_in m key bytes)

key_from_files : (key : SnapshotKey) (o : Option (List File)) (y : Snapshot) → from_files key o ≡ Some y → y.key ≡ key
key_from_files key None y e = cc
key_from_files key (Some files) y e = sym (ap (λ (z : Snapshot). z.key) (some_same (record { key = key; files = files }) y e))

key_from_few : (m : Entries) (key : SnapshotKey) (listed : Manifest) (b : Bool) (y : Snapshot) → from_few m key listed b ≡ Some y → y.key ≡ key
key_from_few m key listed true y e = key_from_files key (files_in m key (manifest_name ∷ listed_names listed)) y e
key_from_few m key listed false y e = cc

key_from_listed : (m : Entries) (key : SnapshotKey) (o : Option Manifest) (y : Snapshot) → from_listed m key o ≡ Some y → y.key ≡ key
key_from_listed m key None y e = cc
key_from_listed m key (Some listed) y e = key_from_few m key listed (nat_le (length listed.files) 63) y e

its_key : (m : Entries) (key : SnapshotKey) (bytes : List ℕ) (y : Snapshot) → snapshot_in m key bytes ≡ Some y → y.key ≡ key
unfolding snapshot_in
its_key m key bytes y e = key_from_listed m key (read_manifest bytes) y e

-- the manifest of a snapshot that is given is read as it
record IsOf (m : Files) (y : Snapshot) : Type 0 where
  path : List ℕ
  bytes : List ℕ
  among : Contains (entries m) (path, bytes)
  path_is : path ≡ manifest_path y.key
  read : snapshot_in (entries m) y.key bytes ≡ Some y

is_of : (m : Files) (path bytes : List ℕ) (y : Snapshot) → Contains (entries m) (path, bytes) → entry_snapshot (entries m) (path, bytes) ≡ Some y → IsOf m y
unfolding entry_snapshot
is_of m path bytes y among is = by_key (key_of_manifest path) refl is
  where
    by_key : (o : Option SnapshotKey) → key_of_manifest path ≡ o → from_key (entries m) bytes o ≡ Some y → IsOf m y
    by_key None at is = cc
    by_key (Some k) at is =
        let same : y.key ≡ k = its_key (entries m) k bytes y is in
        record {
          path = path;
          bytes = bytes;
          among = among;
          path_is = (key_named path k at).0 ∙ ap manifest_path (sym same);
          read = subst (λ q. snapshot_in (entries m) q bytes ≡ Some y) (sym same) is;
        }

each_in_order : (P : Snapshot → Type 0) (xs : List Snapshot) → All P xs → All P (in_order xs)
unfolding in_order
each_in_order P [] h = All-nil P
each_in_order P (x ∷ xs) h = All-insert P x (in_order xs) (All-head P x xs h) (each_in_order P xs (All-tail P x xs h))

loaded_of : (m : Files) (y : Snapshot) → Contains (load m) y → IsOf m y
unfolding load snapshots_in
loaded_of m y there =
    let found = filter_map (entry_snapshot (entries m)) (entries m) in
    let given : IsGiven (entry_snapshot (entries m)) (entries m) (Some y) =
    given_contains (entry_snapshot (entries m)) (entries m) y (All-contains (Contains found) (in_order found) y (each_in_order (Contains found) found (All-contains_itself found)) there) in
    is_of m (given.from).0 (given.from).1 y given.among given.gives

-- ---- a list that a map stands for

module _ (m : Files) (snapshots : List Snapshot) (s : StandsFor m snapshots) where
  -- a manifest's snapshot is the list's
  read_whole : (path bytes : List ℕ) (key : SnapshotKey) → Contains (entries m) (path, bytes) → key_of_manifest path ≡ Some key → is_none (snapshot_in (entries m) key bytes) ≡ false
  read_whole path bytes key among at =
      let named = key_named path key at in
      let here : get m path ≡ Some bytes = entry_read m path bytes among in
      let there : IsSome (get m (manifest_path key)) = ap is_some (ap (get m) (sym named.0) ∙ here) in
      let known = map_contains (λ (x : Snapshot). x.key) snapshots key ((s.manifests key named.1).0 there) in
      let of = loaded_of m known.from (subst (λ xs. Contains xs known.from) (sym (loaded m snapshots s)) known.among) in
      let same : bytes ≡ of.bytes =
      some_same bytes of.bytes (sym here ∙ ap (get m) (named.0 ∙ ap manifest_path (sym known.gives) ∙ sym of.path_is) ∙ entry_read m of.path of.bytes of.among) in
      ap is_none (ap (λ k. snapshot_in (entries m) k bytes) (sym known.gives) ∙ ap (snapshot_in (entries m) (known.from).key) same ∙ of.read)

  pub undamaged : has_damaged m ≡ false
  undamaged = none_any (is_damaged (entries m)) (entries m) (λ e among. by_key e.0 e.1 among (key_of_manifest e.0) refl)
    where
      by_key : (path bytes : List ℕ) → Contains (entries m) (path, bytes) → (o : Option SnapshotKey) → key_of_manifest path ≡ o
          → elim o [ None ↦ false | Some key ↦ is_none (snapshot_in (entries m) key bytes) ] ≡ false
      by_key path bytes among None at = refl
      by_key path bytes among (Some key) at = read_whole path bytes key among at
