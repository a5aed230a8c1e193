-- Where no key in a list of snapshots falls, what is found by a key is found again behind a FINISH of any other, and behind a FORGET of another key.
use Rattle.std.proofs.Common.{◌≡◌, Bool, true, false, cond, not, List, [], ◌∷◌, filter, Some, None, refl, sym, ap, subst, ◌∙◌}
use Rattle.std.specs.List.{All, find}
use Rattle.std.specs.Ordering.{is_lt, ordering_reverse}
use Rattle.std.specs.declared.cmp.Ordering.{Ordering}
use Rattle.std.specs.declared.cmp.Ordering.TheVariants.{Less, Equal, Greater}
use Rattle.std.proofs.lemmas.Bool.{and_parts}
use Rattle.std.proofs.lemmas.List.Elements.{All-cons, All-filter, All-head, All-nil, All-tail, All-weaker}
use Rattle.store_types.specs.declared.names.SnapshotKey.{SnapshotKey}
use Rattle.store_types.specs.KeyOrder.{key_cmp_total}
use Rattle.store_types.specs.Names.{key_cmp, key_lt, same_key}
use Rattle.store_types.proofs.OrderLaws.{same_keys}
use Rattle.store_files.specs.Archive.{Snapshot}
use Rattle.store_model.specs.Stands.{keys_rise}
use Rattle.store_model.specs.Store.{snapshot_named, insert_snapshot, without_snapshot}
use Rattle.store_model.proofs.Insertions.{All-insert}
use Rattle.job_laws.proofs.Judged.{true_false}

-- ---- keys

is_less : (o : Ordering) → is_lt o ≡ true → o ≡ Less
is_less Less e = refl
is_less Equal e = cc
is_less Greater e = cc

less_than : (a b c : SnapshotKey) → key_lt a b ≡ true → key_lt b c ≡ true → key_lt a c ≡ true
less_than a b c one two = ap is_lt (key_cmp_total.trans a b c (is_less (key_cmp a b) one) (is_less (key_cmp b c) two))

not_back : (a b : SnapshotKey) → key_lt a b ≡ true → key_lt b a ≡ false
not_back a b lt = ap is_lt (key_cmp_total.antisymm b a ∙ ap ordering_reverse (is_less (key_cmp a b) lt))

not_itself : (a : SnapshotKey) → key_lt a a ≡ false
not_itself a = by_test (key_lt a a) refl
  where
    by_test : (b : Bool) → key_lt a a ≡ b → key_lt a a ≡ false
    by_test true is = not_back a a is
    by_test false is = is

-- what is not before the later of two is not before the earlier
not_before : (a b c : SnapshotKey) → key_lt a b ≡ true → key_lt c b ≡ false → key_lt c a ≡ false
not_before a b c lt off = by_test (key_lt c a) refl
  where
    by_test : (x : Bool) → key_lt c a ≡ x → key_lt c a ≡ false
    by_test true is = absurd (true_false (sym (less_than c a b is lt) ∙ off))
    by_test false is = is

-- ---- lists in which no key falls

abbrev pub NotBefore : Snapshot → Snapshot → Type 0
NotBefore x y = key_lt y.key x.key ≡ false

abbrev pub Ordered : List Snapshot → Type 0
Ordered [] = Unit {0}
Ordered (x ∷ xs) = All (NotBefore x) xs × Ordered xs

rest : (x : Snapshot) (xs : List Snapshot) → keys_rise (x ∷ xs) ≡ true → keys_rise xs ≡ true
rest x [] h = refl
rest x (y ∷ ys) h = (and_parts (key_lt x.key y.key) (keys_rise (y ∷ ys)) h).1

above : (x : Snapshot) (xs : List Snapshot) → keys_rise (x ∷ xs) ≡ true → All (λ y. key_lt x.key y.key ≡ true) xs
above x [] h = All-nil (λ y. key_lt x.key y.key ≡ true)
above x (y ∷ ys) h =
    let both = and_parts (key_lt x.key y.key) (keys_rise (y ∷ ys)) h in
    All-cons (λ z. key_lt x.key z.key ≡ true) y ys both.0
    (All-weaker (λ z. key_lt y.key z.key ≡ true) (λ z. key_lt x.key z.key ≡ true) (λ z lt. less_than x.key y.key z.key both.0 lt) ys (above y ys both.1))

pub rise_ordered : (xs : List Snapshot) → keys_rise xs ≡ true → Ordered xs
rise_ordered [] h = tt
rise_ordered (x ∷ xs) h =
    (All-weaker (λ y. key_lt x.key y.key ≡ true) (NotBefore x) (λ y lt. not_back x.key y.key lt) xs (above x xs h), rise_ordered xs (rest x xs h))

pub ordered_insert : (new : Snapshot) (xs : List Snapshot) → Ordered xs → Ordered (insert_snapshot new xs)
ordered_insert new [] h = (All-nil (NotBefore new), tt)
ordered_insert new (x ∷ xs) h = by_test (key_lt new.key x.key) refl (ordered_insert new xs h.1)
  where
    by_test : (b : Bool) → key_lt new.key x.key ≡ b → Ordered (insert_snapshot new xs) → Ordered (cond b (new ∷ x ∷ xs) (x ∷ insert_snapshot new xs))
    by_test true lt go =
        (All-cons (NotBefore new) x xs (not_back new.key x.key lt) (All-weaker (NotBefore x) (NotBefore new) (λ y off. not_before new.key x.key y.key lt off) xs h.0), h)
    by_test false off go = (All-insert (NotBefore x) new xs off h.0, go)

pub ordered_filter : (p : Snapshot → Bool) (xs : List Snapshot) → Ordered xs → Ordered (filter p xs)
ordered_filter p [] h = tt
ordered_filter p (x ∷ xs) h = by_test (p x) (ordered_filter p xs h.1)
  where
    by_test : (b : Bool) → Ordered (filter p xs) → Ordered (cond b (x ∷ filter p xs) (filter p xs))
    by_test true go = (All-filter p (NotBefore x) xs h.0, go)
    by_test false go = go

-- ---- what is found by a key

same_one : (x y : Snapshot) → Some x ≡ Some y → x ≡ y
same_one x y e = cc

no_one : (x : Snapshot) → None ≡ Some x → ⊥
no_one x e = cc

-- what holds of each holds of it
of_found : (P : Snapshot → Type 0) (p : Snapshot → Bool) (xs : List Snapshot) (x : Snapshot) → All P xs → find p xs ≡ Some x → P x
of_found P p [] x each h = absurd (no_one x h)
of_found P p (y ∷ ys) x each h = by_test (p y) h (λ later. of_found P p ys x (All-tail P y ys each) later)
  where
    by_test : (b : Bool) → cond b (Some y) (find p ys) ≡ Some x → (find p ys ≡ Some x → P x) → P x
    by_test true h go = subst P (same_one y x h) (All-head P y ys each)
    by_test false h go = go h

module _ (x : Snapshot) where
  abbrev pub Found : List Snapshot → Type 0
  Found xs = snapshot_named x.key xs ≡ Some x

  -- it is not before the first
  not_before_first : (y : Snapshot) (ys : List Snapshot) → Ordered (y ∷ ys) → Found (y ∷ ys) → key_lt x.key y.key ≡ false
  not_before_first y ys h found =
      of_found (NotBefore y) (λ z. same_key z.key x.key) (y ∷ ys) x (All-cons (NotBefore y) y ys (not_itself y.key) h.0) found

  pub found_insert : (new : Snapshot) (xs : List Snapshot) → Ordered xs → Found xs → Found (insert_snapshot new xs)
  found_insert new [] h found = absurd (no_one x found)
  found_insert new (y ∷ ys) h found = by_order (key_lt new.key y.key) refl (found_insert new ys h.1)
    where
      in_front : (b : Bool) → same_key new.key x.key ≡ b → key_lt new.key y.key ≡ true → cond b (Some new) (snapshot_named x.key (y ∷ ys)) ≡ Some x
      in_front true same lt =
          absurd (true_false (sym lt ∙ ap (λ k. key_lt k y.key) ((same_keys new.key x.key).0 same) ∙ not_before_first y ys h found))
      in_front false other lt = found

      behind : (b : Bool) → cond b (Some y) (snapshot_named x.key ys) ≡ Some x → (Found ys → Found (insert_snapshot new ys))
          → cond b (Some y) (snapshot_named x.key (insert_snapshot new ys)) ≡ Some x
      behind true is go = is
      behind false is go = go is

      by_order : (b : Bool) → key_lt new.key y.key ≡ b → (Found ys → Found (insert_snapshot new ys)) → Found (cond b (new ∷ y ∷ ys) (y ∷ insert_snapshot new ys))
      by_order true lt go = in_front (same_key new.key x.key) refl lt
      by_order false lt go = behind (same_key y.key x.key) found go

  pub found_without : (key : SnapshotKey) (xs : List Snapshot) → same_key x.key key ≡ false → Found xs → Found (without_snapshot key xs)
  found_without key [] off found = absurd (no_one x found)
  found_without key (y ∷ ys) off found = by_tests (same_key y.key x.key) (same_key y.key key) refl refl found (found_without key ys off)
    where
      by_tests : (b d : Bool) → same_key y.key x.key ≡ b → same_key y.key key ≡ d → cond b (Some y) (snapshot_named x.key ys) ≡ Some x
          → (Found ys → Found (without_snapshot key ys)) → Found (cond (not d) (y ∷ without_snapshot key ys) (without_snapshot key ys))
      by_tests true true same gone is go =
          absurd (true_false (sym gone ∙ ap (λ k. same_key k key) ((same_keys y.key x.key).0 same) ∙ off))
      by_tests true false same kept is go = ap (λ b. cond b (Some y) (snapshot_named x.key (without_snapshot key ys))) same ∙ is
      by_tests false true other gone is go = go is
      by_tests false false other kept is go = ap (λ b. cond b (Some y) (snapshot_named x.key (without_snapshot key ys))) other ∙ go is
