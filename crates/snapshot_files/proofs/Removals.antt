-- What a list of snapshots keeps as one is taken out.
use Rattle.std.proofs.Common.{◌≡◌, ◌≢◌, ◌≤◌, ℕ, Bool, true, false, not, ◌&&◌, cond, length, List, [], ◌∷◌, Some, refl, sym, ap, ◌∙◌, arith}
use Rattle.std.proofs.lemmas.Bool.{and_parts, and_from}
use Rattle.std.proofs.lemmas.List.Elements.{All-filter, All-weaker}
use Rattle.std.specs.List.{All, filter}
use Rattle.std.specs.Ordering.{is_lt}
use Rattle.std.specs.declared.cmp.Ordering.{Ordering}
use Rattle.std.specs.declared.cmp.Ordering.TheVariants.{Less, Equal, Greater}
use Rattle.store_types.specs.declared.names.SnapshotKey.{SnapshotKey}
use Rattle.store_types.specs.declared.names.GroupKey.{GroupKey}
use Rattle.store_types.specs.KeyOrder.{key_cmp_total}
use Rattle.store_types.specs.Names.{key_cmp, key_lt, same_key, same_group, group_of_key}
use Rattle.store_types.proofs.OrderLaws.{same_keys}
use Rattle.store_files.specs.Archive.{Snapshot}
use Rattle.store_model.specs.Store.{in_group, snapshot_named, without_snapshot}
use Rattle.store_model.specs.Stands.{keys_rise}

-- no more pass two tests than one
pub length-filter_twice : {X : Type 0} (p q : X → Bool) (xs : List X) → length (filter p (filter q xs)) ≤ length (filter p xs)
length-filter_twice p q [] = omega arith
length-filter_twice p q (x ∷ xs) = by_tests (p x) refl (q x) (length-filter_twice p q xs)
  where
    by_tests : (a : Bool) → p x ≡ a → (b : Bool) → length (filter p (filter q xs)) ≤ length (filter p xs) → length (filter p (cond b (x ∷ filter q xs) (filter q xs))) ≤ length (cond a (x ∷ filter p xs) (filter p xs))
    by_tests true e true le = let one = ap (λ c. length (cond c (x ∷ filter p (filter q xs)) (filter p (filter q xs)))) e in omega (arith, le, one)
    by_tests true e false le = omega (arith, le)
    by_tests false e true le = let one = ap (λ c. length (cond c (x ∷ filter p (filter q xs)) (filter p (filter q xs)))) e in omega (arith, le, one)
    by_tests false e false le = le

-- ---- order

is_less : (r : Ordering) → is_lt r ≡ true → r ≡ Less
is_less Less e = refl
is_less Equal e = cc
is_less Greater e = cc

before_both : (a b c : SnapshotKey) → key_lt a b ≡ true → key_lt b c ≡ true → key_lt a c ≡ true
before_both a b c p q = ap is_lt (key_cmp_total.trans a b c (is_less (key_cmp a b) p) (is_less (key_cmp b c) q))

-- the list rises, and the key stands before its first
abbrev rises_from : SnapshotKey → List Snapshot → Bool
rises_from k [] = true
rises_from k (y ∷ ys) = key_lt k y.key && keys_rise (y ∷ ys)

rises_is : (x : Snapshot) (xs : List Snapshot) → keys_rise (x ∷ xs) ≡ rises_from x.key xs
rises_is x [] = refl
rises_is x (y ∷ ys) = refl

rises_earlier : (a b : SnapshotKey) (xs : List Snapshot) → key_lt a b ≡ true → rises_from b xs ≡ true → rises_from a xs ≡ true
rises_earlier a b [] lt h = refl
rises_earlier a b (y ∷ ys) lt h =
    let both = and_parts (key_lt b y.key) (keys_rise (y ∷ ys)) h in
    and_from (key_lt a y.key) (keys_rise (y ∷ ys)) (before_both a b y.key lt both.0) both.1

rises_filtered : (p : Snapshot → Bool) (k : SnapshotKey) (xs : List Snapshot) → rises_from k xs ≡ true → rises_from k (filter p xs) ≡ true
rises_filtered p k [] h = refl
rises_filtered p k (y ∷ ys) h =
    let both = and_parts (key_lt k y.key) (keys_rise (y ∷ ys)) h in
    let later : rises_from y.key ys ≡ true = sym (rises_is y ys) ∙ both.1 in
    by_test (p y) both.0 (rises_filtered p y.key ys later)
  where
    by_test : (b : Bool) → key_lt k y.key ≡ true → rises_from y.key (filter p ys) ≡ true → rises_from k (cond b (y ∷ filter p ys) (filter p ys)) ≡ true
    by_test true lt rise = and_from (key_lt k y.key) (keys_rise (y ∷ filter p ys)) lt (rises_is y (filter p ys) ∙ rise)
    by_test false lt rise = rises_earlier k y.key (filter p ys) lt rise

filter_rises : (p : Snapshot → Bool) (xs : List Snapshot) → keys_rise xs ≡ true → keys_rise (filter p xs) ≡ true
filter_rises p [] h = refl
filter_rises p (y ∷ ys) h = by_test (p y) (rises_filtered p y.key ys (sym (rises_is y ys) ∙ h))
  where
    tail : (zs : List Snapshot) (k : SnapshotKey) → rises_from k zs ≡ true → keys_rise zs ≡ true
    tail [] k e = refl
    tail (z ∷ zs) k e = (and_parts (key_lt k z.key) (keys_rise (z ∷ zs)) e).1

    by_test : (b : Bool) → rises_from y.key (filter p ys) ≡ true → keys_rise (cond b (y ∷ filter p ys) (filter p ys)) ≡ true
    by_test true rise = rises_is y (filter p ys) ∙ rise
    by_test false rise = tail (filter p ys) y.key rise

pub rise-without : (key : SnapshotKey) (xs : List Snapshot) → keys_rise xs ≡ true → keys_rise (without_snapshot key xs) ≡ true
rise-without key xs h = filter_rises (λ x. not (same_key x.key key)) xs h

-- ---- groups

pub groups-without : (key : SnapshotKey) (group : GroupKey) (n : ℕ) (xs : List Snapshot) → length (in_group group xs) ≤ n → length (in_group group (without_snapshot key xs)) ≤ n
groups-without key group n xs few =
    let less = length-filter_twice (λ x. same_group (group_of_key x.key) group) (λ x. not (same_key x.key key)) xs in omega (arith, less, few)

-- ---- the others

pub All-without : (P : Snapshot → Type 0) (key : SnapshotKey) (xs : List Snapshot) → All P xs → All P (without_snapshot key xs)
All-without P key xs all = All-filter (λ x. not (same_key x.key key)) P xs all

true_false : true ≡ false → ⊥
true_false e = cc

-- what is found under another key stays
pub named-without : (key other : SnapshotKey) (xs : List Snapshot) → same_key key other ≡ false → snapshot_named other (without_snapshot key xs) ≡ snapshot_named other xs
named-without key other [] ne = refl
named-without key other (y ∷ ys) ne = by_test (same_key y.key key) refl (named-without key other ys ne)
  where
    by_test : (b : Bool) → same_key y.key key ≡ b → snapshot_named other (without_snapshot key ys) ≡ snapshot_named other ys
        → snapshot_named other (cond (not b) (y ∷ without_snapshot key ys) (without_snapshot key ys)) ≡ snapshot_named other (y ∷ ys)
    by_test true e ih = ih ∙ sym (ap (λ b. cond b (Some y) (snapshot_named other ys)) (ap (λ k. same_key k other) ((same_keys y.key key).0 e) ∙ ne))
    by_test false e ih = ap (cond (same_key y.key other) (Some y)) ih

-- none of them has the key
pub others : (key : SnapshotKey) (xs : List Snapshot) → All (λ x. x.key ≢ key) (without_snapshot key xs)
others key xs = All-weaker (λ x. not (same_key x.key key) ≡ true) (λ x. x.key ≢ key)
    (λ x passes e. true_false (sym ((same_keys x.key key).1 e) ∙ flip (same_key x.key key) passes)) (without_snapshot key xs)
    (Rattle.std.proofs.lemmas.List.Elements.filter_passes (λ x. not (same_key x.key key)) xs)
  where
    flip : (b : Bool) → not b ≡ true → b ≡ false
    flip true e = cc
    flip false e = refl
