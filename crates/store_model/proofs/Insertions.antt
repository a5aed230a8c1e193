-- What a snapshot in its place among others leaves true.
use Rattle.std.proofs.Common.{◌≡◌, ◌⊎◌, inl, inr, ⊎_elim, ℕ, zero, suc, ◌<◌, Bool, true, false, cond, ◌&&◌, length, get_or, map, List, [], ◌∷◌, Some, refl, sym, ap, subst, ◌∙◌, arith}
use Rattle.std.proofs.lemmas.Bool.{and_parts, and_from, cond_both}
use Rattle.std.proofs.lemmas.List.Elements.{All-cons, All-head, All-tail}
use Rattle.std.specs.Cmp.{IsTotalOrder}
use Rattle.std.specs.List.{All, Contains}
use Rattle.std.specs.Ordering.{is_eq, is_lt, ordering_reverse}
use Rattle.std.specs.declared.cmp.Ordering.{Ordering}
use Rattle.std.specs.declared.cmp.Ordering.TheVariants.{Less, Equal, Greater}
use Rattle.std.specs.Option.{IsSome}
use Rattle.store_types.specs.declared.names.SnapshotKey.{SnapshotKey}
use Rattle.store_types.specs.declared.names.GroupKey.{GroupKey}
use Rattle.store_types.specs.KeyOrder.{key_cmp_total}
use Rattle.store_types.specs.Names.{key_cmp, key_lt, same_key, same_group, group_of_key}
use Rattle.store_files.specs.Archive.{Snapshot}
use Rattle.store_model.specs.Store.{in_group, snapshot_named, insert_snapshot}
use Rattle.store_model.specs.Stands.{keys_rise}

-- ---- elements

pub Contains-here : {A : Type 0} (x : A) (xs : List A) → Contains (x ∷ xs) x
Contains-here x xs = (zero, omega arith, refl)

pub Contains-later : {A : Type 0} (x : A) (xs : List A) (y : A) → Contains xs y → Contains (x ∷ xs) y
Contains-later x xs y h = (suc h.0, omega (arith, h.1), h.2)

at_place : {A : Type 0} (x : A) (xs : List A) (y : A) (k : ℕ) → k < length (x ∷ xs) → get_or (x ∷ xs) k y ≡ y → (x ≡ y) ⊎ Contains xs y
at_place x xs y zero lt e = inl e
at_place x xs y (suc k) lt e = inr (k, omega (arith, lt), e)

pub Contains-cases : {A : Type 0} (x : A) (xs : List A) (y : A) → Contains (x ∷ xs) y → (x ≡ y) ⊎ Contains xs y
Contains-cases x xs y h = at_place x xs y h.0 h.1 h.2

-- ---- a total order

total_lt : (a b : Ordering) → a ≡ ordering_reverse b → is_lt a ≡ false → is_eq b ≡ false → is_lt b ≡ true
total_lt Less b e f g = cc
total_lt Equal Less e f g = refl
total_lt Equal Equal e f g = cc
total_lt Equal Greater e f g = cc
total_lt Greater Less e f g = refl
total_lt Greater Equal e f g = cc
total_lt Greater Greater e f g = cc

-- the other way round, where they differ
pub lt_back : {K : Type 0} (R : K → K → Ordering) → IsTotalOrder R → (x y : K) → is_lt (R x y) ≡ false → is_eq (R y x) ≡ false → is_lt (R y x) ≡ true
lt_back R total x y f g = total_lt (R x y) (R y x) (total.antisymm x y) f g

-- ---- snapshots

pub All-insert : (P : Snapshot → Type 0) (x : Snapshot) (xs : List Snapshot) → P x → All P xs → All P (insert_snapshot x xs)
All-insert P x [] p h = All-cons P x [] p h
All-insert P x (y ∷ ys) p h =
    cond_both (key_lt x.key y.key) (x ∷ y ∷ ys) (y ∷ insert_snapshot x ys) (All P)
    (λ _. All-cons P x (y ∷ ys) p h)
    (λ _. All-cons P y (insert_snapshot x ys) (All-head P y ys h) (All-insert P x ys p (All-tail P y ys h)))

abbrev keys_of : List Snapshot → List SnapshotKey
keys_of xs = map (λ (x : Snapshot). x.key) xs

pub Contains-new : (x : Snapshot) (xs : List Snapshot) → Contains (keys_of (insert_snapshot x xs)) x.key
Contains-new x [] = Contains-here x.key []
Contains-new x (y ∷ ys) =
    cond_both (key_lt x.key y.key) (x ∷ y ∷ ys) (y ∷ insert_snapshot x ys) (λ l. Contains (keys_of l) x.key)
    (λ _. Contains-here x.key (keys_of (y ∷ ys)))
    (λ _. Contains-later y.key (keys_of (insert_snapshot x ys)) x.key (Contains-new x ys))

pub Contains-kept : (x : Snapshot) (xs : List Snapshot) (k : SnapshotKey) → Contains (keys_of xs) k → Contains (keys_of (insert_snapshot x xs)) k
Contains-kept x [] k h = Contains-later x.key [] k h
Contains-kept x (y ∷ ys) k h =
    cond_both (key_lt x.key y.key) (x ∷ y ∷ ys) (y ∷ insert_snapshot x ys) (λ l. Contains (keys_of l) k)
    (λ _. Contains-later x.key (keys_of (y ∷ ys)) k h)
    (λ _. ⊎_elim
    (λ (e : y.key ≡ k). subst (λ q. Contains (y.key ∷ keys_of (insert_snapshot x ys)) q) e (Contains-here y.key (keys_of (insert_snapshot x ys))))
    (λ (c : Contains (keys_of ys) k). Contains-later y.key (keys_of (insert_snapshot x ys)) k (Contains-kept x ys k c))
    (Contains-cases y.key (keys_of ys) k h))

-- what the list had, or the new one
pub Contains-insert_cases : (x : Snapshot) (xs : List Snapshot) (k : SnapshotKey) → Contains (keys_of (insert_snapshot x xs)) k → (x.key ≡ k) ⊎ Contains (keys_of xs) k
Contains-insert_cases x [] k h = Contains-cases x.key [] k h
Contains-insert_cases x (y ∷ ys) k h = by_test (key_lt x.key y.key) (Contains-insert_cases x ys k) h
  where
    by_test : (b : Bool) → (Contains (keys_of (insert_snapshot x ys)) k → (x.key ≡ k) ⊎ Contains (keys_of ys) k)
        → Contains (keys_of (cond b (x ∷ y ∷ ys) (y ∷ insert_snapshot x ys))) k → (x.key ≡ k) ⊎ Contains (keys_of (y ∷ ys)) k
    by_test true go c = Contains-cases x.key (keys_of (y ∷ ys)) k c
    by_test false go c = ⊎_elim
        (λ (e : y.key ≡ k). inr (subst (λ q. Contains (y.key ∷ keys_of ys) q) e (Contains-here y.key (keys_of ys))))
        (λ (later : Contains (keys_of (insert_snapshot x ys)) k). ⊎_elim (λ (e : x.key ≡ k). inl e) (λ (c2 : Contains (keys_of ys) k). inr (Contains-later y.key (keys_of ys) k c2)) (go later))
        (Contains-cases y.key (keys_of (insert_snapshot x ys)) k c)

length_cond : {A : Type 0} (p q : Bool) (x y : A) (xs : List A) → length (cond p (x ∷ cond q (y ∷ xs) xs) (cond q (y ∷ xs) xs)) ≡ length (cond q (y ∷ cond p (x ∷ xs) xs) (cond p (x ∷ xs) xs))
length_cond true true x y xs = refl
length_cond true false x y xs = refl
length_cond false true x y xs = refl
length_cond false false x y xs = refl

length_more : {A : Type 0} (q : Bool) (y : A) (xs ys : List A) → length xs ≡ length ys → length (cond q (y ∷ xs) xs) ≡ length (cond q (y ∷ ys) ys)
length_more true y xs ys e = ap suc e
length_more false y xs ys e = e

-- a group has as many as if the new one stood in front
pub length-in_group-insert : (group : GroupKey) (x : Snapshot) (xs : List Snapshot) → length (in_group group (insert_snapshot x xs)) ≡ length (in_group group (x ∷ xs))
length-in_group-insert group x [] = refl
length-in_group-insert group x (y ∷ ys) =
    let q = same_group (group_of_key y.key) group in
    let p = same_group (group_of_key x.key) group in
    cond_both (key_lt x.key y.key) (x ∷ y ∷ ys) (y ∷ insert_snapshot x ys) (λ l. length (in_group group l) ≡ length (in_group group (x ∷ y ∷ ys)))
    (λ _. refl)
    (λ _. length_more q y (in_group group (insert_snapshot x ys)) (in_group group (x ∷ ys)) (length-in_group-insert group x ys) ∙ length_cond q p y x (in_group group ys))

-- a snapshot that was there is found
pub find-insert : (k : SnapshotKey) (x : Snapshot) (xs : List Snapshot) → IsSome (snapshot_named k xs) → IsSome (snapshot_named k (insert_snapshot x xs))
find-insert k x [] h = cc
find-insert k x (y ∷ ys) h =
    cond_both (key_lt x.key y.key) (x ∷ y ∷ ys) (y ∷ insert_snapshot x ys) (λ l. IsSome (snapshot_named k l))
    (λ _. cond_both (same_key x.key k) (Some x) (snapshot_named k (y ∷ ys)) IsSome (λ _. refl) (λ _. h))
    (λ _. later (same_key y.key k) (find-insert k x ys) h)
  where
    later : (b : Bool) → (IsSome (snapshot_named k ys) → IsSome (snapshot_named k (insert_snapshot x ys)))
        → IsSome (cond b (Some y) (snapshot_named k ys)) → IsSome (cond b (Some y) (snapshot_named k (insert_snapshot x ys)))
    later true go e = refl
    later false go e = go e

-- ---- order

-- the list rises, and this stands before its first
abbrev rises_from : SnapshotKey → List Snapshot → Bool
rises_from k [] = true
rises_from k (y ∷ ys) = key_lt k y.key && keys_rise (y ∷ ys)

rises_from_is : (x : Snapshot) (xs : List Snapshot) → keys_rise (x ∷ xs) ≡ rises_from x.key xs
rises_from_is x [] = refl
rises_from_is x (y ∷ ys) = refl

rise-tail : (x : Snapshot) (xs : List Snapshot) → keys_rise (x ∷ xs) ≡ true → keys_rise xs ≡ true
rise-tail x [] h = refl
rise-tail x (y ∷ ys) h = (and_parts (key_lt x.key y.key) (keys_rise (y ∷ ys)) h).1

abbrev Differs : Snapshot → Snapshot → Type 0
Differs x y = same_key y.key x.key ≡ false

rises_from-insert : (k : SnapshotKey) (x : Snapshot) (xs : List Snapshot) → key_lt k x.key ≡ true → rises_from k xs ≡ true → keys_rise (insert_snapshot x xs) ≡ true → rises_from k (insert_snapshot x xs) ≡ true
rises_from-insert k x [] lt h rise = and_from (key_lt k x.key) true lt refl
rises_from-insert k x (y ∷ ys) lt h rise = by_test (key_lt x.key y.key) rise
  where
    by_test : (b : Bool) → keys_rise (cond b (x ∷ y ∷ ys) (y ∷ insert_snapshot x ys)) ≡ true → rises_from k (cond b (x ∷ y ∷ ys) (y ∷ insert_snapshot x ys)) ≡ true
    by_test true r = and_from (key_lt k x.key) (keys_rise (x ∷ y ∷ ys)) lt r
    by_test false r = and_from (key_lt k y.key) (keys_rise (y ∷ insert_snapshot x ys)) (and_parts (key_lt k y.key) (keys_rise (y ∷ ys)) h).0 r

pub rise-insert : (x : Snapshot) (xs : List Snapshot) → All (Differs x) xs → keys_rise xs ≡ true → keys_rise (insert_snapshot x xs) ≡ true
rise-insert x [] differ h = refl
rise-insert x (y ∷ ys) differ h =
    by_test (key_lt x.key y.key) refl (rise-insert x ys (All-tail (Differs x) y ys differ) (rise-tail y ys h))
  where
    by_test : (b : Bool) → key_lt x.key y.key ≡ b → keys_rise (insert_snapshot x ys) ≡ true → keys_rise (cond b (x ∷ y ∷ ys) (y ∷ insert_snapshot x ys)) ≡ true
    by_test true e later = and_from (key_lt x.key y.key) (keys_rise (y ∷ ys)) e h
    by_test false e later =
        rises_from_is y (insert_snapshot x ys)
        ∙ rises_from-insert y.key x ys (lt_back key_cmp key_cmp_total x.key y.key e (All-head (Differs x) y ys differ)) (sym (rises_from_is y ys) ∙ h) later
