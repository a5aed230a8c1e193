-- What the names of manifests tell.
use Rattle.std.proofs.Common.{◌≡◌, ℕ, ◌-◌, List, ◌++◌, Bool, true, false, Option, Some, None, length, take, refl, sym, ap, subst, ◌∙◌, arith, append_assoc, length-append}
use Rattle.std.specs.Prelude.{codes, IsSome}
use Rattle.std.specs.Str.{bytes_eq}
use Rattle.std.specs.FinMap.{get}
use Rattle.std.proofs.Math.Seq.{take-append_seam}
use Rattle.std.proofs.lemmas.Slice.Eq.{bytes_eq-Decides}
use Rattle.disk_trait.specs.Files.{Files}
use Rattle.store_types.specs.declared.names.SnapshotKey.{SnapshotKey}
use Rattle.store_types.specs.FileNames.{manifest_name}
use Rattle.store_types.specs.Names.{IsKey, key_of, key_text}
use Rattle.store_types.specs.Chain.Reading.{◌>>=◌, only_if}
use Rattle.store_types.proofs.KeyLaws.{keys, key_one}
use Rattle.store_files.specs.Folder.{manifest_path}
use Rattle.store_model.specs.Load.{read_manifest, key_of_manifest, manifest_ending}
use Rattle.snapshot_files.specs.Scanned.{FoundSnapshot, found_with, found_at, found_named}

some_same : {A : Type 0} (x y : A) → Some x ≡ Some y → x ≡ y
some_same x y e = cc

tested : (name : List ℕ) (k key : SnapshotKey) (b : Bool) → bytes_eq name (manifest_path k) ≡ b → (only_if b >>= (λ _. Some k)) ≡ Some key → (name ≡ manifest_path k) × (k ≡ key)
tested name k key true e is = ((bytes_eq-Decides name (manifest_path k)).0 e, some_same k key is)
tested name k key false e is = cc

-- a manifest's name is that of its snapshot
pub key_named : (name : List ℕ) (key : SnapshotKey) → key_of_manifest name ≡ Some key → (name ≡ manifest_path key) × IsKey key
key_named name key is = by_key (key_of (take (length name - length manifest_ending) name)) refl is
  where
    by_key : (o : Option SnapshotKey) → key_of (take (length name - length manifest_ending) name) ≡ o
        → (o >>= (λ k. only_if (bytes_eq name (manifest_path k)) >>= (λ _. Some k))) ≡ Some key → (name ≡ manifest_path key) × IsKey key
    by_key None e is = cc
    by_key (Some k) e is =
        let parts = tested name k key (bytes_eq name (manifest_path k)) refl is in
        (parts.0 ∙ ap manifest_path parts.1, subst IsKey parts.1 (key_one (take (length name - length manifest_ending) name) k e).0)

in_front : (key : SnapshotKey) → take (length (manifest_path key) - length manifest_ending) (manifest_path key) ≡ key_text key
in_front key =
    let is : manifest_path key ≡ key_text key ++ manifest_ending = append_assoc (key_text key) (codes "/") manifest_name in
    let whole = length-append (key_text key) manifest_ending in
    let len : length (key_text key ++ manifest_ending) - length manifest_ending ≡ length (key_text key) = omega (arith, whole) in
    ap (λ (p : List ℕ). take (length p - length manifest_ending) p) is ∙ ap (λ n. take n (key_text key ++ manifest_ending)) len
    ∙ take-append_seam (key_text key) manifest_ending

-- and each snapshot's manifest has its name
pub named_key : (key : SnapshotKey) → IsKey key → key_of_manifest (manifest_path key) ≡ Some key
named_key key is =
    ap (λ (o : Option SnapshotKey). o >>= (λ k. only_if (bytes_eq (manifest_path key) (manifest_path k)) >>= (λ _. Some k))) (ap key_of (in_front key) ∙ keys key is)
    ∙ ap (λ b. only_if b >>= (λ _. Some key)) ((bytes_eq-Decides (manifest_path key) (manifest_path key)).1 refl)

-- ---- what is found

module _ (files : Files) where
  -- what is found at a name
  abbrev of_bytes : SnapshotKey → Option (List ℕ) → Option FoundSnapshot
  of_bytes key o = o >>= (λ bytes. Some (found_with files key (read_manifest bytes)))

  its_key : (key : SnapshotKey) (o : Option (List ℕ)) (x : FoundSnapshot) → of_bytes key o ≡ Some x → x.key ≡ key
  its_key key None x is = cc
  its_key key (Some bytes) x is = sym (ap (λ (y : FoundSnapshot). y.key) (some_same (found_with files key (read_manifest bytes)) x is))

  pub key_at : (key : SnapshotKey) (x : FoundSnapshot) → found_at files key ≡ Some x → x.key ≡ key
  unfolding found_at
  key_at key x is = its_key key (get files (manifest_path key)) x is

  pub at_named : (key : SnapshotKey) → IsKey key → found_named files (manifest_path key) ≡ found_at files key
  unfolding found_at found_named
  at_named key is = ap (λ (o : Option SnapshotKey). o >>= (λ k. of_bytes k (get files (manifest_path key)))) (named_key key is)

  by_key : (name : List ℕ) (x : FoundSnapshot) (o : Option SnapshotKey) → key_of_manifest name ≡ o → (o >>= (λ k. of_bytes k (get files name))) ≡ Some x
      → (name ≡ manifest_path x.key) × IsKey x.key × (found_at files x.key ≡ Some x)
  unfolding found_named
  by_key name x None e is = cc
  by_key name x (Some k) e is =
      let named = key_named name k e in
      let at : found_at files k ≡ Some x =
      sym (at_named k named.1) ∙ ap (found_named files) (sym named.0) ∙ ap (λ (o : Option SnapshotKey). o >>= (λ k. of_bytes k (get files name))) e ∙ is in
      subst (λ q. (name ≡ manifest_path q) × IsKey q × (found_at files q ≡ Some x)) (sym (key_at k x at)) (named.0, named.1, at)

  -- what has this name
  pub named_is : (name : List ℕ) (x : FoundSnapshot) → found_named files name ≡ Some x → (name ≡ manifest_path x.key) × IsKey x.key × (found_at files x.key ≡ Some x)
  unfolding found_named
  named_is name x is = by_key name x (key_of_manifest name) refl is

  there : (key : SnapshotKey) (o : Option (List ℕ)) (x : FoundSnapshot) → of_bytes key o ≡ Some x → IsSome o
  there key None x is = cc
  there key (Some bytes) x is = refl

  -- its manifest is there
  pub at_there : (key : SnapshotKey) (x : FoundSnapshot) → found_at files key ≡ Some x → IsSome (get files (manifest_path key))
  unfolding found_at
  at_there key x is = there key (get files (manifest_path key)) x is

  from_bytes : (key : SnapshotKey) (o : Option (List ℕ)) → IsSome o → (x : FoundSnapshot) × (of_bytes key o ≡ Some x) × (x.key ≡ key)
  from_bytes key None h = cc
  from_bytes key (Some bytes) h = (found_with files key (read_manifest bytes), refl, refl)

  -- where its manifest is there, it is found
  pub at_name : (key : SnapshotKey) → IsKey key → IsSome (get files (manifest_path key)) → (x : FoundSnapshot) × (found_named files (manifest_path key) ≡ Some x) × (x.key ≡ key)
  unfolding found_at
  at_name key is h =
      let f = from_bytes key (get files (manifest_path key)) h in
      (f.0, at_named key is ∙ f.1, f.2)
