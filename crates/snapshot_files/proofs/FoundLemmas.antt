-- What is found of one snapshot.
use Rattle.std.proofs.Common.{◌≡◌, ◌<◌, ℕ, List, length, drop, Option, Some, None, option_map, Result, Ok, Err, refl, sym, ap, ◌∙◌, arith, length-drop}
use Rattle.std.specs.FinMap.{get}
use Rattle.disk_trait.specs.Files.{Files}
use Rattle.blob_codec.specs.Blob.{data_of, blob_limit}
use Rattle.blob_codec.proofs.Reading.{HasParts-from_data_of}
use Rattle.store_types.specs.declared.refusal.BadBlob.{BadBlob}
use Rattle.store_types.specs.declared.names.SnapshotKey.{SnapshotKey}
use Rattle.store_types.specs.Chain.Reading.{◌>>=◌}
use Rattle.store_files.specs.Manifest as listing
use Rattle.store_files.specs.Manifest.{manifest_of}
use Rattle.store_model.specs.Load.{read_manifest, key_of_manifest}
use Rattle.snapshot_files.specs.Scanned.{FoundSnapshot, unreadable_by, found_with, found_named}

chain : {A B C : Type 0} (o : Option A) (k : A) (p : Option B) (b : B) (r : A → B → C) (x : C) → o ≡ Some k → p ≡ Some b → r k b ≡ x → Some x ≡ (o >>= (λ a. p >>= (λ c. Some (r a c))))
chain {A} {B} {C} o k p b r x e f is =
    sym (ap (λ (q : Option A). q >>= (λ a. p >>= (λ c. Some (r a c)))) e ∙ ap (λ (q : Option B). q >>= (λ c. Some (r k c))) f ∙ ap (λ (y : C). Some y) is)

same_found : (files : Files) (key : SnapshotKey) (r m : Option listing.Manifest) (u : Option (List ℕ)) → m ≡ r → u ≡ unreadable_by files key m
    → found_with files key r ≡ record { key = key; manifest = m; unreadable = u }
same_found files key r m u is e =
    ap (found_with files key) (sym is) ∙ ap (λ (x : Option (List ℕ)). let f : FoundSnapshot = record { key = key; manifest = m; unreadable = x } in f) (sym e)

-- what the manifest says is what a file there does
listed_there : (o : Option (List ℕ)) (m : Option listing.Manifest) → option_map read_manifest o ≡ Some m → (bytes : List ℕ) × (o ≡ Some bytes) × (m ≡ read_manifest bytes)
listed_there None m is = cc
listed_there (Some bytes) m is = (bytes, refl, cc)

nothing_there : (o : Option (List ℕ)) → option_map read_manifest o ≡ None → o ≡ None
nothing_there None is = refl
nothing_there (Some bytes) is = cc

pub found_is : (files : Files) (name : List ℕ) (key : SnapshotKey) (m : Option listing.Manifest) (u : Option (List ℕ))
    → key_of_manifest name ≡ Some key → option_map read_manifest (get files name) ≡ Some m → u ≡ unreadable_by files key m
    → Some (record { key = key; manifest = m; unreadable = u }) ≡ found_named files name
unfolding found_named
found_is files name key m u k listed e =
    let there = listed_there (get files name) m listed in
    chain (key_of_manifest name) key (get files name) there.0 (λ a c. found_with files a (read_manifest c)) (record { key = key; manifest = m; unreadable = u }) k there.1
    (same_found files key (read_manifest there.0) m u there.2 e)

pub found_none : (files : Files) (name : List ℕ) (key : SnapshotKey) → key_of_manifest name ≡ Some key → option_map read_manifest (get files name) ≡ None
    → None ≡ found_named files name
unfolding found_named
found_none files name key k none =
    sym (ap (λ (q : Option SnapshotKey). q >>= (λ a. get files name >>= (λ c. Some (found_with files a (read_manifest c))))) k
    ∙ ap (λ (q : Option (List ℕ)). q >>= (λ c. Some (found_with files key (read_manifest c)))) (nothing_there (get files name) none))

-- ---- a file that is longer than a blob

too_long : (bytes : List ℕ) → blob_limit < length bytes → read_manifest bytes ≡ None
too_long bytes long = by_case (data_of bytes) refl
  where
    by_case : (r : Result (List ℕ) BadBlob) → data_of bytes ≡ r → read_manifest bytes ≡ None
    by_case (Ok p) is =
        let parts = HasParts-from_data_of bytes p is in
        let rest = ap length parts.rest in
        absurd (omega (arith, parts.fits, rest, length-drop 4 (drop 8 bytes), length-drop 8 bytes, long))
    by_case (Err cause) is = ap (λ r. elim r [ Err cause ↦ None | Ok contents ↦ elim (manifest_of contents) [ Ok x ↦ Some x | Err cause ↦ None ] ]) is

-- says nothing
pub long_lists_none : (files : Files) (name : List ℕ) (size : ℕ) → Some size ≡ option_map (λ t. length t) (get files name) → blob_limit < size
    → Some None ≡ option_map read_manifest (get files name)
long_lists_none files name size is long = by_case (get files name) is
  where
    by_case : (o : Option (List ℕ)) → Some size ≡ option_map (λ t. length t) o → Some None ≡ option_map read_manifest o
    by_case None is = cc
    by_case (Some bytes) is =
        let same : size ≡ length bytes = cc in
        ap Some (sym (too_long bytes (omega (arith, same, long))))
