-- A catalogue in order: what stands behind a key, and what is of a group.
use Rattle.std.proofs.Common.{◌≡◌, ◌<◌, ◌≤◌, ◌∙◌, ℕ, zero, suc, Bool, true, false, not, cond, length, take, drop, filter, get_or, List, [], ◌∷◌, Option, Some, None, refl, sym, ap, subst, arith}
use Rattle.std.specs.Cmp.{IsStrictWeakOrder}
use Rattle.std.specs.List.{All, find, list_all, position_or_len}
use Rattle.std.specs.List.Sorted.{IsPartitionPoint, IsPartitionedBy}
use Rattle.std.specs.Ordering.{is_eq, is_lt, ordering_then}
use Rattle.std.specs.Prelude.{AllPairs, nat_lt, option_map, slice_get}
use Rattle.std.proofs.lemmas.Bool.{ltb-false, ltb-true}
use Rattle.std.specs.declared.cmp.Ordering.{Ordering}
use Rattle.std.specs.declared.cmp.Ordering.TheVariants.{Less, Equal, Greater}
use Rattle.std.proofs.lemmas.Cmp.{tied_back}
use Rattle.std.proofs.lemmas.List.Elements.{All-cons, All-head, All-tail, All-nil, filter_passes}
use Rattle.std.proofs.lemmas.List.Kept.{AllPairs-cons, AllPairs-filter}
use Rattle.std.proofs.lemmas.List.MinMax.{ranks_by}
use Rattle.std.proofs.lemmas.List.Sums.{position_or_len_is}
use Rattle.store_types.specs.KeyOrder.{group_cmp_total, key_cmp_total}
use Rattle.store_types.specs.Names.{group_cmp, group_of_key, key_cmp, key_lt, same_group, same_key}
use Rattle.store_types.specs.declared.names.GroupKey.{GroupKey}
use Rattle.store_types.specs.declared.names.SnapshotKey.{SnapshotKey}
use Rattle.store_model.proofs.Insertions.{lt_back}
use Rattle.core_state.specs.declared.kept.Listed.{Listed}
use Rattle.core_state.specs.Catalogue.{insert_listed, without_listed}
use Rattle.core_state.specs.Catalogued.{IsListing, NotBehind}
use Rattle.core_state.specs.Found.{is_behind, is_in, kept_named}
use Rattle.core_state.specs.Named.{is_named_snapshot}
use Rattle.core_state.proofs.CatalogueLemmas.{list_all-filter, list_all-insert}
use Rattle.core_state.proofs.Numbering.{all_insert}
use Rattle.core_state.proofs.Partitions.{filter_within, prefix, suffix}

pub keys : IsStrictWeakOrder key_lt
keys = ranks_by key_cmp_total (λ (k : SnapshotKey). k)

abbrev group_lt : GroupKey → GroupKey → Bool
group_lt g h = is_lt (group_cmp g h)

groups : IsStrictWeakOrder group_lt
groups = ranks_by group_cmp_total (λ (g : GroupKey). g)

true_false : true ≡ false → ⊥
true_false e = cc

fails : (b : Bool) → not b ≡ true → b ≡ false
fails true e = cc
fails false e = refl

holds : (b : Bool) → not b ≡ false → b ≡ true
holds true e = refl
holds false e = cc

passes : (b : Bool) → b ≡ false → not b ≡ true
passes b e = ap not e

equal_is : (o : Ordering) → is_eq o ≡ true → o ≡ Equal
equal_is Less e = cc
equal_is Equal e = refl
equal_is Greater e = cc

-- ---- one more, and one less

pub heads : (x : Listed) (xs : List Listed) → AllPairs NotBehind (x ∷ xs) → All (NotBehind x) xs
heads x xs pairs k d within = pairs zero (suc k) d (omega arith) (omega (arith, within))

pub tails : (x : Listed) (xs : List Listed) → AllPairs NotBehind (x ∷ xs) → AllPairs NotBehind xs
tails x xs pairs i j d lt within = pairs (suc i) (suc j) d (omega (arith, lt)) (omega (arith, within))

-- what stands behind a greater one is greater
pub all_above : (new x : Listed) (xs : List Listed) → key_lt (new.kept).key (x.kept).key ≡ true → All (NotBehind x) xs → All (NotBehind new) xs
all_above new x xs lt all k d within =
    keys.chain ((get_or xs k d).kept).key (x.kept).key (new.kept).key (all k d within) (keys.one_way (new.kept).key (x.kept).key lt)

pub order-insert : (new : Listed) (xs : List Listed) → AllPairs NotBehind xs → AllPairs NotBehind (insert_listed new xs)
order-insert new [] up = AllPairs-cons NotBehind new [] (All-nil (NotBehind new)) up
order-insert new (x ∷ xs) up = by_test (key_lt (new.kept).key (x.kept).key) refl (order-insert new xs (tails x xs up))
  where
    by_test : (b : Bool) → key_lt (new.kept).key (x.kept).key ≡ b → AllPairs NotBehind (insert_listed new xs) → AllPairs NotBehind (cond b (new ∷ x ∷ xs) (x ∷ insert_listed new xs))
    by_test true lt later =
        AllPairs-cons NotBehind new (x ∷ xs) (All-cons (NotBehind new) x xs (keys.one_way (new.kept).key (x.kept).key lt) (all_above new x xs lt (heads x xs up))) up
    by_test false lt later = AllPairs-cons NotBehind x (insert_listed new xs) (all_insert (NotBehind x) new xs lt (heads x xs up)) later

pub order-without : (key : SnapshotKey) (xs : List Listed) → AllPairs NotBehind xs → AllPairs NotBehind (without_listed key xs)
order-without key xs up = AllPairs-filter NotBehind (λ (x : Listed). not (same_key (x.kept).key key)) xs up

pub insert_listing : (new : Listed) (xs : List Listed) → is_named_snapshot new ≡ true → IsListing xs → IsListing (insert_listed new xs)
insert_listing new xs is h = record { named = list_all-insert new xs is h.named; order = order-insert new xs h.order }

pub without_listing : (key : SnapshotKey) (xs : List Listed) → IsListing xs → IsListing (without_listed key xs)
without_listing key xs h = record {
  named = list_all-filter is_named_snapshot (λ (x : Listed). not (same_key (x.kept).key key)) xs h.named;
  order = order-without key xs h.order;
}

-- ---- behind a key

-- those that do not stand behind it come first
pub keys_divide : (key : SnapshotKey) (xs : List Listed) → AllPairs NotBehind xs → IsPartitionedBy (λ (x : Listed). not (key_lt key (x.kept).key)) xs
keys_divide key xs up i j d le within is = by_place (nat_lt i j) refl
  where
    by_place : (b : Bool) → nat_lt i j ≡ b → not (key_lt key ((get_or xs i d).kept).key) ≡ true
    by_place true lt =
        passes (key_lt key ((get_or xs i d).kept).key)
        (keys.chain key ((get_or xs j d).kept).key ((get_or xs i d).kept).key (fails (key_lt key ((get_or xs j d).kept).key) is) (up i j d (ltb-true i j lt) within))
    by_place false ge =
        let same : i ≡ j = omega (arith, le, ltb-false i j ge) in
        ap (λ n. not (key_lt key ((get_or xs n d).kept).key)) same ∙ is

pub behind_is : (key : SnapshotKey) (xs : List Listed) (i : ℕ)
    → IsPartitionPoint (λ x. not (key_lt key (x.kept).key) ≡ true) (λ x. not (key_lt key (x.kept).key) ≡ false) xs i
    → filter (λ x. key_lt key (x.kept).key) xs ≡ drop i xs
behind_is key xs i point =
    suffix (λ (x : Listed). key_lt key (x.kept).key) xs i (λ k d lo hi. fails (key_lt key ((get_or xs k d).kept).key) (point.0 k d lo hi))
    (λ k d lo hi. holds (key_lt key ((get_or xs k d).kept).key) (point.1 k d lo hi))

-- where the first greater one stands, or the end
pub place_at : (key : SnapshotKey) (xs : List Listed) (i : ℕ) → i ≤ length xs
    → IsPartitionPoint (λ x. not (key_lt key (x.kept).key) ≡ true) (λ x. not (key_lt key (x.kept).key) ≡ false) xs i
    → i ≡ position_or_len (λ x. key_lt key (x.kept).key) xs
place_at key [] i within point = omega (arith, within)
place_at key (x ∷ xs) i within point =
    sym (position_or_len_is (λ (y : Listed). key_lt key (y.kept).key) (x ∷ xs) i x within
    (λ k below. fails (key_lt key ((get_or (x ∷ xs) k x).kept).key) (point.0 k x (omega arith) below))
    (λ below. holds (key_lt key ((get_or (x ∷ xs) i x).kept).key) (point.1 i x (omega arith) below)))

-- ---- with a key

abbrev pub with_key : SnapshotKey → Listed → Bool
with_key key x = same_key (x.kept).key key

abbrev pub below : SnapshotKey → Listed → Bool
below key x = key_lt (x.kept).key key

-- those that are less come first
pub below_divides : (key : SnapshotKey) (xs : List Listed) → AllPairs NotBehind xs → IsPartitionedBy (below key) xs
below_divides key xs up i j d le within is = by_place (nat_lt i j) refl
  where
    by_place : (b : Bool) → nat_lt i j ≡ b → below key (get_or xs i d) ≡ true
    by_place true lt = by_test (below key (get_or xs i d)) refl
      where
        by_test : (b : Bool) → below key (get_or xs i d) ≡ b → below key (get_or xs i d) ≡ true
        by_test true e = e
        by_test false e =
            absurd (true_false (sym is ∙ keys.chain ((get_or xs j d).kept).key ((get_or xs i d).kept).key key (up i j d (ltb-true i j lt) within) e))
    by_place false ge = let same : i ≡ j = omega (arith, le, ltb-false i j ge) in ap (λ n. below key (get_or xs n d)) same ∙ is

less_differs : (o : Ordering) → is_lt o ≡ true → is_eq o ≡ false
less_differs Less e = refl
less_differs Equal e = cc
less_differs Greater e = cc

-- none behind one that is greater has it
none_behind : (key : SnapshotKey) (x : Listed) (xs : List Listed) → key_lt key (x.kept).key ≡ true → All (NotBehind x) xs → find (with_key key) xs ≡ None
none_behind key x [] lt all = refl
none_behind key x (y ∷ ys) lt all = by_test (with_key key y) refl (none_behind key x ys lt (All-tail (NotBehind x) y ys all))
  where
    by_test : (b : Bool) → with_key key y ≡ b → find (with_key key) ys ≡ None → cond b (Some y) (find (with_key key) ys) ≡ None
    by_test true e go =
        let tied = tied_back key_cmp_total (y.kept).key key (equal_is (key_cmp (y.kept).key key) e) in
        absurd (true_false (sym lt ∙ keys.chain key (y.kept).key (x.kept).key (ap is_lt tied) (All-head (NotBehind x) y ys all)))
    by_test false e go = go

-- the snapshot at this place, if it has the key
abbrev pub if_with : SnapshotKey → Option Listed → Option Listed
if_with key None = None
if_with key (Some x) = cond (with_key key x) (Some x) None

-- it stands where the first one stands that is not less
pub named_at : (key : SnapshotKey) (xs : List Listed) (i : ℕ) → AllPairs NotBehind xs → i ≤ length xs
    → IsPartitionPoint (λ x. below key x ≡ true) (λ x. below key x ≡ false) xs i → find (with_key key) xs ≡ if_with key (slice_get xs i)
named_at key [] i up within point = refl
named_at key (x ∷ xs) zero up within point = by_test (with_key key x) refl
  where
    by_test : (b : Bool) → with_key key x ≡ b → cond b (Some x) (find (with_key key) xs) ≡ cond b (Some x) None
    by_test true e = refl
    by_test false e =
        none_behind key x xs (lt_back key_cmp key_cmp_total (x.kept).key key (point.1 zero x (omega arith) (omega arith)) (differs e)) (heads x xs up)
      where
        differs : with_key key x ≡ false → is_eq (key_cmp key (x.kept).key) ≡ false
        differs e = by_back (is_eq (key_cmp key (x.kept).key)) refl
          where
            by_back : (b : Bool) → is_eq (key_cmp key (x.kept).key) ≡ b → is_eq (key_cmp key (x.kept).key) ≡ false
            by_back true f = absurd (true_false (sym (ap is_eq (tied_back key_cmp_total key (x.kept).key (equal_is (key_cmp key (x.kept).key) f))) ∙ e))
            by_back false f = f
named_at key (x ∷ xs) (suc i) up within point =
    let less : below key x ≡ true = point.0 zero x (omega arith) (omega arith) in
    ap (λ b. cond b (Some x) (find (with_key key) xs)) (less_differs (key_cmp (x.kept).key key) less)
    ∙ named_at key xs i (tails x xs up) (omega (arith, within))
    (λ k d lo hi. point.0 (suc k) d (omega arith) (omega (arith, hi)), λ k d lo hi. point.1 (suc k) d (omega (arith, lo)) (omega (arith, hi)))

pub kept_there : (key : SnapshotKey) (xs : List Listed) (o : Option Listed) (x : Listed) → find (with_key key) xs ≡ if_with key o → o ≡ Some x → with_key key x ≡ true → Some x.kept ≡ kept_named key xs
kept_there key xs o x found is has =
    ap (λ b. option_map (λ (y : Listed). y.kept) (cond b (Some x) None)) (sym has) ∙ ap (λ p. option_map (λ (y : Listed). y.kept) (if_with key p)) (sym is)
    ∙ ap (option_map (λ (y : Listed). y.kept)) (sym found)

pub kept_another : (key : SnapshotKey) (xs : List Listed) (o : Option Listed) (x : Listed) → find (with_key key) xs ≡ if_with key o → o ≡ Some x → with_key key x ≡ false → None ≡ kept_named key xs
kept_another key xs o x found is has =
    ap (λ b. option_map (λ (y : Listed). y.kept) (cond b (Some x) None)) (sym has) ∙ ap (λ p. option_map (λ (y : Listed). y.kept) (if_with key p)) (sym is)
    ∙ ap (option_map (λ (y : Listed). y.kept)) (sym found)

pub kept_nowhere : (key : SnapshotKey) (xs : List Listed) (o : Option Listed) → find (with_key key) xs ≡ if_with key o → o ≡ None → None ≡ kept_named key xs
kept_nowhere key xs o found is = ap (λ p. option_map (λ (y : Listed). y.kept) (if_with key p)) (sym is) ∙ ap (option_map (λ (y : Listed). y.kept)) (sym found)

-- ---- all, where there is none to stand behind

pub all_behind : (key : Option SnapshotKey) (xs : List Listed) → key ≡ None → filter (λ x. is_behind key x.kept) xs ≡ xs
all_behind None [] e = refl
all_behind None (x ∷ xs) e = ap (λ (l : List Listed). x ∷ l) (all_behind None xs e)
all_behind (Some key) xs e = cc

-- what passes a test is in form as all is
pub slice_named : (q : Listed → Bool) (xs ys : List Listed) → ys ≡ filter q xs → list_all is_named_snapshot xs ≡ true → list_all is_named_snapshot ys ≡ true
slice_named q xs ys is named = ap (list_all is_named_snapshot) is ∙ list_all-filter is_named_snapshot q xs named

-- ---- of a group

abbrev pub before : GroupKey → Listed → Bool
before group x = is_lt (group_cmp (group_of_key (x.kept).key) group)

-- keys in order have groups in order
group_not_behind : (a b : Ordering) → is_lt (ordering_then a b) ≡ false → is_lt a ≡ false
group_not_behind Less b e = e
group_not_behind Equal b e = refl
group_not_behind Greater b e = refl

groups_up : (x y : Listed) → NotBehind x y → group_lt (group_of_key (y.kept).key) (group_of_key (x.kept).key) ≡ false
groups_up x y up = group_not_behind (group_cmp (group_of_key (y.kept).key) (group_of_key (x.kept).key)) _ up

-- those before the group come first
pub groups_divide : (group : GroupKey) (xs : List Listed) → AllPairs NotBehind xs → IsPartitionedBy (before group) xs
groups_divide group xs up i j d le within is = by_place (nat_lt i j) refl
  where
    by_place : (b : Bool) → nat_lt i j ≡ b → before group (get_or xs i d) ≡ true
    by_place true lt = by_test (before group (get_or xs i d)) refl
      where
        by_test : (b : Bool) → before group (get_or xs i d) ≡ b → before group (get_or xs i d) ≡ true
        by_test true e = e
        by_test false e =
            absurd (true_false (sym is ∙ groups.chain (group_of_key ((get_or xs j d).kept).key) (group_of_key ((get_or xs i d).kept).key) group
            (groups_up (get_or xs i d) (get_or xs j d) (up i j d (ltb-true i j lt) within)) e))
    by_place false ge = let same : i ≡ j = omega (arith, le, ltb-false i j ge) in ap (λ n. before group (get_or xs n d)) same ∙ is

abbrev pub in_group : GroupKey → Listed → Bool
in_group group x = is_in group x.kept

same_from : (g h : GroupKey) → group_lt g h ≡ false → group_lt h g ≡ false → same_group g h ≡ true
same_from g h less more = by_test (same_group g h) refl
  where
    by_test : (b : Bool) → same_group g h ≡ b → same_group g h ≡ true
    by_test true e = e
    by_test false e = absurd (true_false (sym (lt_back group_cmp group_cmp_total h g more e) ∙ less))

-- and behind them those of the group
pub group_divides : (group : GroupKey) (ys : List Listed) → AllPairs NotBehind ys → All (λ x. not (before group x) ≡ true) ys → IsPartitionedBy (in_group group) ys
group_divides group ys up behind i j d le within is = by_place (nat_lt i j) refl
  where
    by_place : (b : Bool) → nat_lt i j ≡ b → in_group group (get_or ys i d) ≡ true
    by_place true lt =
        let x = get_or ys i d in
        let y = get_or ys j d in
        let before_j : i < j = ltb-true i j lt in
        let tied = tied_back group_cmp_total (group_of_key (y.kept).key) group (equal_is (group_cmp (group_of_key (y.kept).key) group) is) in
        same_from (group_of_key (x.kept).key) group (fails (before group x) (behind i d (omega (arith, before_j, within))))
        (groups.chain group (group_of_key (y.kept).key) (group_of_key (x.kept).key) (ap is_lt tied) (groups_up x y (up i j d before_j within)))
    by_place false ge = let same : i ≡ j = omega (arith, le, ltb-false i j ge) in ap (λ n. in_group group (get_or ys n d)) same ∙ is

module _ (group : GroupKey) (xs : List Listed) (i : ℕ) (up : AllPairs NotBehind xs)
    (point : IsPartitionPoint (λ x. before group x ≡ true) (λ x. before group x ≡ false) xs i) where
  rest : filter (λ x. not (before group x)) xs ≡ drop i xs
  rest =
      suffix (λ (x : Listed). not (before group x)) xs i (λ k d lo hi. ap not (point.0 k d lo hi)) (λ k d lo hi. ap not (point.1 k d lo hi))

  -- what stands from there on
  pub rest_divides : IsPartitionedBy (in_group group) (drop i xs)
  rest_divides =
      subst (IsPartitionedBy (in_group group)) rest
      (group_divides group (filter (λ x. not (before group x)) xs) (AllPairs-filter NotBehind (λ (x : Listed). not (before group x)) xs up)
      (filter_passes (λ (x : Listed). not (before group x)) xs))

  pub group_is : (k : ℕ) → IsPartitionPoint (λ x. in_group group x ≡ true) (λ x. in_group group x ≡ false) (drop i xs) k
      → filter (in_group group) xs ≡ take k (drop i xs)
  group_is k inner =
      sym (filter_within (λ (x : Listed). not (before group x)) (in_group group) also xs) ∙ ap (filter (in_group group)) rest
      ∙ prefix (in_group group) (drop i xs) k inner.0 inner.1
    where
      also : (x : Listed) → in_group group x ≡ true → not (before group x) ≡ true
      also x is = ap (λ o. not (is_lt o)) (equal_is (group_cmp (group_of_key (x.kept).key) group) is)
