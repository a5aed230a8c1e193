-- What comes after the latest of a group comes after all of it.
use Rattle.std.proofs.Common.{◌≡◌, ℕ, ◌<◌, ◌≤◌, Bool, true, false, cond, map, List, [], ◌∷◌, Option, Some, None, Ok, refl, sym, ap, ◌∙◌, arith}
use Rattle.std.proofs.lemmas.Bool.{and_parts, ltb-true}
use Rattle.std.proofs.lemmas.Bool.Decides.{nat_tests}
use Rattle.std.proofs.lemmas.List.Elements.{All-nil, All-cons, All-head, All-tail, All-weaker}
use Rattle.std.specs.List.{All, last_or}
use Rattle.std.specs.Ordering.{nat_cmp, ordering_then, is_eq, is_lt}
use Rattle.std.specs.Prelude.{nat_lt}
use Rattle.std.specs.declared.cmp.Ordering.{Ordering}
use Rattle.std.specs.declared.cmp.Ordering.TheVariants.{Less, Equal, Greater}
use Rattle.store_types.specs.declared.names.SnapshotKey.{SnapshotKey}
use Rattle.store_types.specs.declared.names.GroupKey.{GroupKey}
use Rattle.store_types.specs.KeyOrder.{key_cmp_total, same_group_equiv}
use Rattle.store_types.specs.Names.{key_cmp, key_lt, group_cmp, same_group, group_of_key}
use Rattle.store_files.specs.Archive.{Snapshot}
use Rattle.store_model.specs.Store.{in_group, keys_in, latest_in}
use Rattle.store_model.specs.Stands.{keys_rise}
use Rattle.store_model.specs.WriterSteps.{want_newer}

is_less : (o : Ordering) → is_lt o ≡ true → o ≡ Less
is_less Less e = refl
is_less Equal e = cc
is_less Greater e = cc

less_than : (a b c : SnapshotKey) → key_lt a b ≡ true → key_lt b c ≡ true → key_lt a c ≡ true
less_than a b c one two = ap is_lt (key_cmp_total.trans a b c (is_less (key_cmp a b) one) (is_less (key_cmp b c) two))

-- each later snapshot is greater
above : (x : Snapshot) (xs : List Snapshot) → keys_rise (x ∷ xs) ≡ true → All (λ y. key_lt x.key y.key ≡ true) xs
above x [] h = All-nil (λ y. key_lt x.key y.key ≡ true)
above x (y ∷ ys) h =
    let both = and_parts (key_lt x.key y.key) (keys_rise (y ∷ ys)) h in
    All-cons (λ z. key_lt x.key z.key ≡ true) y ys both.0
    (All-weaker (λ z. key_lt y.key z.key ≡ true) (λ z. key_lt x.key z.key ≡ true) (λ z lt. less_than x.key y.key z.key both.0 lt) ys (above y ys both.1))

pub rise-rest : (x : Snapshot) (xs : List Snapshot) → keys_rise (x ∷ xs) ≡ true → keys_rise xs ≡ true
rise-rest x [] h = refl
rise-rest x (y ∷ ys) h = (and_parts (key_lt x.key y.key) (keys_rise (y ∷ ys)) h).1

by_time : (g : Ordering) (a b : ℕ) → is_eq g ≡ true → is_lt (ordering_then g (nat_cmp a b)) ≡ true → a < b
by_time Less a b e lt = cc
by_time Equal a b e lt = grind (arith, nat_tests)
by_time Greater a b e lt = cc

-- within a group the order is by time
earlier : (a b : SnapshotKey) → same_group (group_of_key a) (group_of_key b) ≡ true → key_lt a b ≡ true → a.time < b.time
earlier a b same lt = by_time (group_cmp (group_of_key a) (group_of_key b)) a.time b.time same lt

-- later than the last of these, of which none is before a time
after_last : (t time : ℕ) (k : SnapshotKey) (ks : List SnapshotKey) → t ≤ k.time → All (λ z. t ≤ z.time) ks → want_newer time (last_or (Some k) ks) ≡ Ok tt → t < time
after_last t time k [] le each h = later (nat_lt k.time time) refl h
  where
    later : (b : Bool) → nat_lt k.time time ≡ b → want_newer time (Some k) ≡ Ok tt → t < time
    later true e h = omega (arith, le, ltb-true k.time time e)
    later false e h = let no : want_newer time (Some k) ≡ Ok tt = h in cc
after_last t time k (z ∷ zs) le each h = after_last t time z zs (All-head (λ x. t ≤ x.time) z zs each) (All-tail (λ x. t ≤ x.time) z zs each) h

-- the group's keys among later snapshots
not_before : (group : GroupKey) (x : Snapshot) (ys : List Snapshot) → same_group (group_of_key x.key) group ≡ true → All (λ y. key_lt x.key y.key ≡ true) ys → All (λ z. (x.key).time ≤ z.time) (keys_in group ys)
not_before group x [] same h = All-nil (λ z. (x.key).time ≤ z.time)
not_before group x (y ∷ ys) same h = by_test (same_group (group_of_key y.key) group) refl (not_before group x ys same (All-tail (λ z. key_lt x.key z.key ≡ true) y ys h))
  where
    here : same_group (group_of_key y.key) group ≡ true → (x.key).time ≤ (y.key).time
    here e =
        let before = earlier x.key y.key (same_group_equiv.congr (group_of_key x.key) group (group_of_key y.key) same ∙ same_group_equiv.symm group (group_of_key y.key) ∙ e) (All-head (λ z. key_lt x.key z.key ≡ true) y ys h) in
        omega arith

    by_test : (b : Bool) → same_group (group_of_key y.key) group ≡ b → All (λ z. (x.key).time ≤ z.time) (keys_in group ys)
        → All (λ z. (x.key).time ≤ z.time) (map (λ (q : Snapshot). q.key) (cond b (y ∷ in_group group ys) (in_group group ys)))
    by_test true e later = All-cons (λ z. (x.key).time ≤ z.time) y.key (keys_in group ys) (here e) later
    by_test false e later = later

abbrev pub IsBefore : GroupKey → ℕ → Snapshot → Type 0
IsBefore group time x = same_group (group_of_key x.key) group ≡ true → (x.key).time < time

newer_from : (group : GroupKey) (time : ℕ) (o : Option SnapshotKey) (xs : List Snapshot) → keys_rise xs ≡ true → want_newer time (last_or o (keys_in group xs)) ≡ Ok tt → All (IsBefore group time) xs
newer_from group time o [] h newer = All-nil (IsBefore group time)
newer_from group time o (x ∷ xs) h newer =
    by_test (same_group (group_of_key x.key) group) refl newer (λ p. newer_from group time p xs (rise-rest x xs h))
  where
    by_test : (b : Bool) → same_group (group_of_key x.key) group ≡ b → want_newer time (last_or o (map (λ (q : Snapshot). q.key) (cond b (x ∷ in_group group xs) (in_group group xs)))) ≡ Ok tt
        → ((p : Option SnapshotKey) → want_newer time (last_or p (keys_in group xs)) ≡ Ok tt → All (IsBefore group time) xs) → All (IsBefore group time) (x ∷ xs)
    by_test true e now go =
        All-cons (IsBefore group time) x xs
        (λ _. after_last (x.key).time time x.key (keys_in group xs) (omega arith) (not_before group x xs e (above x xs h)) now)
        (go (Some x.key) now)
    by_test false e now go =
        All-cons (IsBefore group time) x xs
        (λ is. absurd (both_ways (sym is ∙ e)))
        (go o now)
      where
        both_ways : true ≡ false → ⊥
        both_ways e = cc

-- newer than the group's latest is newer than each of the group
pub newer_than_all : (group : GroupKey) (time : ℕ) (xs : List Snapshot) → keys_rise xs ≡ true → want_newer time (latest_in group xs) ≡ Ok tt → All (IsBefore group time) xs
newer_than_all group time xs h newer = newer_from group time None xs h newer
