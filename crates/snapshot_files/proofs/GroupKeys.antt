-- The names in a group's folder give each of its snapshots once.
use Rattle.std.proofs.Common.{◌≡◌, ℕ, zero, suc, List, [], ◌∷◌, ◌++◌, Bool, true, false, ◌||◌, Option, Some, None, eqb, append_assoc, refl, sym, ap, subst, ◌∙◌, arith, eq-eqb}
use Rattle.std.specs.Cmp.{IsEquivalence, IsStrictWeakOrder}
use Rattle.std.specs.FinMap.{get, keys, contains_key-keys}
use Rattle.std.specs.List.{All, AllPairs, Contains, cons_option, filter_map, starts_with}
use Rattle.std.specs.List.Sorted.{IsPermutation, IsSortedBy}
use Rattle.std.specs.Ordering.{eq_by_cmp}
use Rattle.std.specs.Prelude.{codes, IsSome}
use Rattle.std.proofs.lemmas.Bool.{and_from}
use Rattle.std.proofs.lemmas.List.Elements.{All-nil, All-cons, All-head, All-tail, All-weaker, All-contains, All-contains_itself, All-filter}
use Rattle.std.proofs.lemmas.List.Kept.{AllPairs-cons, AllPairs-filter}
use Rattle.std.proofs.lemmas.List.Sorted.{All-permutation, Contains-permutation, ranks_by, sorted_far}
use Rattle.std.proofs.lemmas.Map.Keys.{IsDistinct-IsPermutation, IsDistinct-from_apart, apart_from_distinct}
use Rattle.std.proofs.lemmas.Map.Views.{any-filter_same}
use Rattle.disk_trait.specs.Files.{Files}
use Rattle.store_types.specs.declared.names.GroupKey.{GroupKey}
use Rattle.store_types.specs.declared.names.SnapshotKey.{SnapshotKey}
use Rattle.store_types.specs.FileNames.{manifest_name}
use Rattle.store_types.specs.KeyOrder.{key_cmp_total, same_key_equiv}
use Rattle.store_types.specs.Names.{IsKey, text_cmp, group_of_key, key_cmp, key_lt, key_text, same_key}
use Rattle.store_types.specs.Times.{time_text}
use Rattle.store_types.proofs.OrderLaws.{same_groups, same_keys}
use Rattle.store_files.specs.Folder.{manifest_path}
use Rattle.store_model.specs.Load.{key_of_manifest}
use Rattle.store_model.proofs.Insertions.{Contains-here, Contains-later, lt_back}
use Rattle.snapshot_files.specs.Grouped.{AreOrdered, GroupKeys, IsOfGroup, group_folder, is_in, key_among, keys_ascend, of_group}
use Rattle.snapshot_files.specs.Scanned.{names_under}
use Rattle.snapshot_files.proofs.Listing.{Differ, has_name, same_text, has_any, names_differ, not_true, pairs_nil, pairs_tail, pairs_head}
use Rattle.snapshot_files.proofs.Named.{key_named, named_key}

-- ---- the key that a name gives

some_same : {A : Type 0} (x y : A) → Some x ≡ Some y → x ≡ y
some_same x y e = cc

-- it is of the group, and the name is its manifest's
pub key_from : (group : GroupKey) (name : List ℕ) (key : SnapshotKey) → key_among group name ≡ Some key → (name ≡ manifest_path key) × IsOfGroup group key
key_from group name key is = by_key (key_of_manifest name) refl is
  where
    by_test : (k : SnapshotKey) (b : Bool) → is_in group k ≡ b → (name ≡ manifest_path k) × IsKey k → elim b [ true ↦ Some k | false ↦ None ] ≡ Some key
        → (name ≡ manifest_path key) × IsOfGroup group key
    by_test k true t named e = subst (λ q. (name ≡ manifest_path q) × IsOfGroup group q) (some_same k key e) (named.0, (named.1, t))
    by_test k false t named e = cc

    by_key : (o : Option SnapshotKey) → key_of_manifest name ≡ o → of_group group o ≡ Some key → (name ≡ manifest_path key) × IsOfGroup group key
    by_key None e is = cc
    by_key (Some k) e is = by_test k (is_in group k) refl (key_named name k e) is

-- and each of the group has one
key_to : (group : GroupKey) (key : SnapshotKey) → IsOfGroup group key → key_among group (manifest_path key) ≡ Some key
key_to group key is =
    let named : key_of_manifest (manifest_path key) ≡ Some key = named_key key is.0 in
    ap (of_group group) named ∙ ap (λ b. elim b [ true ↦ Some key | false ↦ None ]) is.1

-- what these names give is of the group
pub each_named : (group : GroupKey) (names : List (List ℕ)) → All (IsOfGroup group) (filter_map (key_among group) names)
each_named group [] = All-nil (IsOfGroup group)
each_named group (n ∷ ns) = by_case (key_among group n) refl (each_named group ns)
  where
    by_case : (o : Option SnapshotKey) → key_among group n ≡ o → All (IsOfGroup group) (filter_map (key_among group) ns) → All (IsOfGroup group) (cons_option o (filter_map (key_among group) ns))
    by_case None e h = h
    by_case (Some k) e h = All-cons (IsOfGroup group) k (filter_map (key_among group) ns) (key_from group n k e).1 h

-- ---- the folder

begins : (p rest : List ℕ) → starts_with eqb (p ++ rest) p ≡ true
begins [] rest = refl
begins (c ∷ p) rest = and_from (eqb c c) (starts_with eqb (p ++ rest) p) (eq-eqb c c refl) (begins p rest)

path_is : (key : SnapshotKey) → manifest_path key ≡ group_folder (group_of_key key) ++ (time_text key.time ++ codes "/" ++ manifest_name)
unfolding key_text
path_is key = simp append_assoc refl

in_folder : (group : GroupKey) (key : SnapshotKey) → is_in group key ≡ true → starts_with eqb (manifest_path key) (group_folder group) ≡ true
in_folder group key is =
    let same : group_of_key key ≡ group = (same_groups (group_of_key key) group).0 is in
    let rest = time_text key.time ++ codes "/" ++ manifest_name in
    ap (λ p. starts_with eqb p (group_folder group)) (path_is key ∙ ap (λ g. group_folder g ++ rest) same) ∙ begins (group_folder group) rest

-- ---- no two are one snapshot

abbrev Apart : SnapshotKey → SnapshotKey → Type 0
Apart x y = same_key y x ≡ false

apart_from : (group : GroupKey) (n : List ℕ) (x : SnapshotKey) → n ≡ manifest_path x → (ns : List (List ℕ)) → All (Differ n) ns → All (Apart x) (filter_map (key_among group) ns)
apart_from group n x is [] h = All-nil (Apart x)
apart_from group n x is (m ∷ ns) h = by_case (key_among group m) refl (apart_from group n x is ns (All-tail (Differ n) m ns h))
  where
    by_case : (o : Option SnapshotKey) → key_among group m ≡ o → All (Apart x) (filter_map (key_among group) ns) → All (Apart x) (cons_option o (filter_map (key_among group) ns))
    by_case None e r = r
    by_case (Some y) e r =
        All-cons (Apart x) y (filter_map (key_among group) ns)
        (not_true (same_key y x) (λ same. All-head (Differ n) m ns h (is ∙ ap manifest_path (sym ((same_keys y x).0 same)) ∙ sym (key_from group m y e).0)))
        r

all_apart : (group : GroupKey) (names : List (List ℕ)) → AllPairs Differ names → AllPairs Apart (filter_map (key_among group) names)
all_apart group [] h = pairs_nil Apart
all_apart group (n ∷ ns) h = by_case (key_among group n) refl (all_apart group ns (pairs_tail Differ n ns h))
  where
    by_case : (o : Option SnapshotKey) → key_among group n ≡ o → AllPairs Apart (filter_map (key_among group) ns) → AllPairs Apart (cons_option o (filter_map (key_among group) ns))
    by_case None e r = r
    by_case (Some x) e r = AllPairs-cons Apart x (filter_map (key_among group) ns) (apart_from group n x (key_from group n x e).0 ns (pairs_head Differ n ns h)) r

flips : (x y : SnapshotKey) → same_key y x ≡ same_key x y
flips x y = by_order same_key_equiv
  where
    by_order : IsEquivalence same_key → same_key y x ≡ same_key x y
    by_order e = e.symm y x

still_apart : (xs ys : List SnapshotKey) → IsPermutation xs ys → AllPairs Apart xs → AllPairs Apart ys
still_apart xs ys same differ i j d lt within =
    let test : SnapshotKey → SnapshotKey → Bool = λ x y. same_key y x in
    apart_from_distinct test ys i j d (IsDistinct-IsPermutation test flips xs ys same (IsDistinct-from_apart test xs differ)) lt within

-- ---- in order

by_keys : IsStrictWeakOrder key_lt
by_keys = ranks_by key_cmp_total (λ (x : SnapshotKey). x)

abbrev NotAfter : SnapshotKey → SnapshotKey → Type 0
NotAfter x y = key_lt y x ≡ false

none_after : (ys : List SnapshotKey) → IsSortedBy key_lt ys → AllPairs NotAfter ys
none_after ys up i j d lt within = sorted_far key_lt by_keys ys up i j d (omega (arith, lt)) within

ascend : (ys : List SnapshotKey) → AllPairs NotAfter ys → AllPairs Apart ys → keys_ascend ys ≡ true
ascend [] up differ = refl
ascend (x ∷ []) up differ = refl
ascend (x ∷ y ∷ ys) up differ =
    let not_after : key_lt y x ≡ false = up zero (suc zero) x (omega arith) (omega arith) in
    let other : same_key x y ≡ false = flips y x ∙ differ zero (suc zero) x (omega arith) (omega arith) in
    and_from (key_lt x y) (keys_ascend (y ∷ ys)) (lt_back key_cmp key_cmp_total y x not_after other)
    (ascend (y ∷ ys) (pairs_tail NotAfter x (y ∷ ys) up) (pairs_tail Apart x (y ∷ ys) differ))

-- ---- all of them

module _ (files : Files) (group : GroupKey) where
  abbrev Stands : SnapshotKey → Type 0
  Stands key = IsOfGroup group key × IsSome (get files (manifest_path key))

  abbrev IsThere : List ℕ → Type 0
  IsThere name = IsSome (get files name)

  -- each name of a map has something
  all_there : All IsThere (keys files)
  all_there = All-weaker (Contains (keys files)) IsThere (λ n has. contains_key-keys files n ∙ has_any n (keys files) has) (keys files) (All-contains_itself (keys files))

  each_stands : (names : List (List ℕ)) → All IsThere names → All Stands (filter_map (key_among group) names)
  each_stands [] h = All-nil Stands
  each_stands (n ∷ ns) h = by_case (key_among group n) refl (each_stands ns (All-tail IsThere n ns h))
    where
      by_case : (o : Option SnapshotKey) → key_among group n ≡ o → All Stands (filter_map (key_among group) ns) → All Stands (cons_option o (filter_map (key_among group) ns))
      by_case None e r = r
      by_case (Some k) e r =
          let from = key_from group n k e in
          All-cons Stands k (filter_map (key_among group) ns) (from.1, subst IsThere from.0 (All-head IsThere n ns h)) r

  later : (o : Option SnapshotKey) (xs : List SnapshotKey) (key : SnapshotKey) → Contains xs key → Contains (cons_option o xs) key
  later None xs key has = has
  later (Some x) xs key has = Contains-later x xs key has

  is_found : (key : SnapshotKey) → key_among group (manifest_path key) ≡ Some key → (names : List (List ℕ)) → has_name (manifest_path key) names ≡ true
      → Contains (filter_map (key_among group) names) key
  is_found key is [] h = cc
  is_found key is (n ∷ ns) h = by_case (eq_by_cmp text_cmp (manifest_path key) n) refl (is_found key is ns) h
    where
      by_case : (t : Bool) → eq_by_cmp text_cmp (manifest_path key) n ≡ t → (has_name (manifest_path key) ns ≡ true → Contains (filter_map (key_among group) ns) key)
          → (t || has_name (manifest_path key) ns) ≡ true → Contains (cons_option (key_among group n) (filter_map (key_among group) ns)) key
      by_case true e found h =
          subst (λ o. Contains (cons_option o (filter_map (key_among group) ns)) key) (sym (ap (key_among group) (sym (same_text (manifest_path key) n e)) ∙ is)) (Contains-here key (filter_map (key_among group) ns))
      by_case false e found h = later (key_among group n) (filter_map (key_among group) ns) key (found h)

  its_name : (key : SnapshotKey) → is_in group key ≡ true → IsSome (get files (manifest_path key)) → has_name (manifest_path key) (names_under (group_folder group) files) ≡ true
  its_name key is there =
      let starts = in_folder group key is in
      any-filter_same (eq_by_cmp text_cmp (manifest_path key)) (λ n. starts_with eqb n (group_folder group)) true
      (λ n e. ap (λ m. starts_with eqb m (group_folder group)) (sym (same_text (manifest_path key) n e)) ∙ starts) (keys files)
      ∙ (sym (contains_key-keys files (manifest_path key)) ∙ there)

  -- what the folder's names give, in order
  pub lists_group : (sorted : List SnapshotKey) → AreOrdered (filter_map (key_among group) (names_under (group_folder group) files)) sorted → GroupKeys files group sorted
  lists_group sorted is =
      let names = names_under (group_folder group) files in
      let found = filter_map (key_among group) names in
      let in_it : List ℕ → Bool = λ n. starts_with eqb n (group_folder group) in
      let there : All IsThere names = All-filter in_it IsThere (keys files) all_there in
      let each : All Stands sorted = All-permutation Stands found sorted is.same (each_stands names there) in
      let all : AllPairs Differ (keys files) = names_differ files in
      let differ : AllPairs Differ names = AllPairs-filter Differ in_it (keys files) all in
      record {
        rising = ascend sorted (none_after sorted is.rising) (still_apart found sorted is.same (all_apart group names differ));
        each = All-weaker Stands IsKey (λ key at. (at.0).0) sorted each;
        exactly = λ key is_key. (
          λ has. let at = All-contains Stands sorted key each has in ((at.0).1, at.1),
          λ h. Contains-permutation found sorted key is.same (is_found key (key_to group key (is_key, h.0)) names (its_name key h.0 h.1)),
        );
      }
