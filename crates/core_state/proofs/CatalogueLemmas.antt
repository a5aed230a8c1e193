-- What the catalogue is asked, and how a snapshot comes into it.
use Rattle.std.proofs.Common.{◌≡◌, ◌≤◌, ◌∙◌, ℕ, suc, Bool, true, false, cond, ◌-◌, length, map, filter, List, [], ◌∷◌, ◌++◌, Option, Some, None, refl, sym, ap, subst, arith}
use Rattle.std.proofs.lemmas.Bool.{and_parts, and_from, leb-true}
use Rattle.std.proofs.lemmas.List.Sums.{AllPass-from_list_all}
use Rattle.std.specs.Prelude.{is_some, option_map, slice_get}
use Rattle.std.specs.List.{find, last_or, list_all, insert, position_or_len}
use Rattle.store_types.specs.declared.names.SnapshotKey.{SnapshotKey}
use Rattle.store_types.specs.declared.names.GroupKey.{GroupKey}
use Rattle.store_types.specs.Names.{IsKey, key_lt}
use Rattle.core_state.specs.declared.kept.Kept.{Kept}
use Rattle.core_state.specs.declared.kept.Listed.{Listed}
use Rattle.core_state.specs.Catalogue.{insert_listed}
use Rattle.core_state.specs.Found.{IsShortNamed, first_unreadable, is_whole, is_in, kept_in, kept_named, latest_of, unreadable_of, whole_of}
use Rattle.core_state.specs.Named.{has_text, is_named_snapshot, is_short_name}
use Rattle.core_state.proofs.Finding.{found_in}
use Rattle.core_state.proofs.NamedLemmas.{is_key}
use Rattle.core_state.proofs.Naming.{damage_short}
use Rattle.core_state.proofs.Places.{insert_at}

abbrev pub in_group : GroupKey → Listed → Bool
in_group group x = is_in group x.kept

abbrev pub all_kept : List Listed → List Kept
all_kept xs = map (λ (x : Listed). x.kept) xs

length_cond : {A B : Type 0} (b : Bool) (x : A) (xs : List A) (y : B) (ys : List B) → length xs ≡ length ys → length (cond b (x ∷ xs) xs) ≡ length (cond b (y ∷ ys) ys)
length_cond true x xs y ys e = ap suc e
length_cond false x xs y ys e = e

pub kept_count : (group : GroupKey) (xs : List Listed) → length (filter (in_group group) xs) ≡ length (kept_in group (all_kept xs))
kept_count group [] = refl
kept_count group (x ∷ xs) = length_cond (in_group group x) x (filter (in_group group) xs) x.kept (kept_in group (all_kept xs)) (kept_count group xs)

-- ---- the last of a slice

abbrev last_key : Option SnapshotKey → List Kept → Option SnapshotKey
last_key o ks = last_or o (map (λ (k : Kept). k.key) ks)

-- what is kept of the group is that of its slice
kept_slice : (group : GroupKey) (xs : List Listed) → kept_in group (all_kept xs) ≡ all_kept (filter (in_group group) xs)
kept_slice group [] = refl
kept_slice group (x ∷ xs) = by_test (in_group group x) (kept_slice group xs)
  where
    by_test : (b : Bool) → kept_in group (all_kept xs) ≡ all_kept (filter (in_group group) xs)
        → cond b (x.kept ∷ kept_in group (all_kept xs)) (kept_in group (all_kept xs)) ≡ all_kept (cond b (x ∷ filter (in_group group) xs) (filter (in_group group) xs))
    by_test true e = ap (λ (ks : List Kept). x.kept ∷ ks) e
    by_test false e = e

last_at : (o : Option SnapshotKey) (x : Listed) (xs : List Listed) → last_key o (all_kept (x ∷ xs)) ≡ option_map (λ (y : Listed). (y.kept).key) (slice_get (x ∷ xs) (length xs))
last_at o x [] = refl
last_at o x (y ∷ ys) = last_at (Some (x.kept).key) y ys

last_is : (xs : List Listed) → last_key None (all_kept xs) ≡ option_map (λ (y : Listed). (y.kept).key) (slice_get xs (length xs - 1))
last_is [] = refl
last_is (x ∷ xs) =
    let before : length xs ≡ length (x ∷ xs) - 1 = omega arith in
    last_at None x xs ∙ ap (λ n. option_map (λ (y : Listed). (y.kept).key) (slice_get (x ∷ xs) n)) before

pub latest_at : (group : GroupKey) (xs ys : List Listed) → ys ≡ filter (in_group group) xs → option_map (λ (y : Listed). (y.kept).key) (slice_get ys (length ys - 1)) ≡ latest_of group xs
latest_at group xs ys is = sym (last_is ys) ∙ ap (λ (l : List Listed). last_key None (all_kept l)) is ∙ sym (ap (last_key None) (kept_slice group xs))

-- ---- the last whole one of a slice

-- the last whole one of these
abbrev pub whole_in : List Listed → Option SnapshotKey
whole_in xs = last_key None (filter is_whole (all_kept xs))

last_of_one : (o : Option SnapshotKey) (b : Bool) (k : Kept) → last_key o (cond b (k ∷ []) []) ≡ cond b (Some k.key) o
last_of_one o true k = refl
last_of_one o false k = refl

whole_from : (o : Option SnapshotKey) (xs : List Listed) (x : Listed)
    → last_key o (filter is_whole (all_kept (xs ++ x ∷ []))) ≡ cond (is_whole x.kept) (Some (x.kept).key) (last_key o (filter is_whole (all_kept xs)))
whole_from o [] x = last_of_one o (is_whole x.kept) x.kept
whole_from o (y ∷ ys) x = by_test (is_whole y.kept) (λ p. whole_from p ys x)
  where
    by_test : (b : Bool) → ((p : Option SnapshotKey) → last_key p (filter is_whole (all_kept (ys ++ x ∷ []))) ≡ cond (is_whole x.kept) (Some (x.kept).key) (last_key p (filter is_whole (all_kept ys))))
        → last_key o (cond b (y.kept ∷ filter is_whole (all_kept (ys ++ x ∷ []))) (filter is_whole (all_kept (ys ++ x ∷ []))))
        ≡ cond (is_whole x.kept) (Some (x.kept).key) (last_key o (cond b (y.kept ∷ filter is_whole (all_kept ys)) (filter is_whole (all_kept ys))))
    by_test true go = go (Some (y.kept).key)
    by_test false go = go o

-- one more
pub whole_in-push : (xs : List Listed) (x : Listed) → whole_in (xs ++ x ∷ []) ≡ cond (is_whole x.kept) (Some (x.kept).key) (whole_in xs)
whole_in-push xs x = whole_from None xs x

whole_slice : (group : GroupKey) (xs : List Listed) → kept_in group (filter is_whole (all_kept xs)) ≡ filter is_whole (all_kept (filter (in_group group) xs))
whole_slice group [] = refl
whole_slice group (x ∷ xs) = by_tests (in_group group x) refl (is_whole x.kept) refl (whole_slice group xs)
  where
    by_tests : (b : Bool) → in_group group x ≡ b → (d : Bool) → is_whole x.kept ≡ d → kept_in group (filter is_whole (all_kept xs)) ≡ filter is_whole (all_kept (filter (in_group group) xs))
        → kept_in group (cond d (x.kept ∷ filter is_whole (all_kept xs)) (filter is_whole (all_kept xs))) ≡ filter is_whole (all_kept (cond b (x ∷ filter (in_group group) xs) (filter (in_group group) xs)))
    by_tests true e true f go =
        ap (λ c. cond c (x.kept ∷ kept_in group (filter is_whole (all_kept xs))) (kept_in group (filter is_whole (all_kept xs)))) e
        ∙ ap (λ (ks : List Kept). x.kept ∷ ks) go
        ∙ sym (ap (λ c. cond c (x.kept ∷ filter is_whole (all_kept (filter (in_group group) xs))) (filter is_whole (all_kept (filter (in_group group) xs)))) f)
    by_tests true e false f go = go ∙ sym (ap (λ c. cond c (x.kept ∷ filter is_whole (all_kept (filter (in_group group) xs))) (filter is_whole (all_kept (filter (in_group group) xs)))) f)
    by_tests false e true f go = ap (λ c. cond c (x.kept ∷ kept_in group (filter is_whole (all_kept xs))) (kept_in group (filter is_whole (all_kept xs)))) e ∙ go
    by_tests false e false f go = go

pub whole_at : (group : GroupKey) (xs ys : List Listed) → ys ≡ filter (in_group group) xs → whole_in ys ≡ whole_of group xs
whole_at group xs ys is = ap whole_in is ∙ sym (ap (last_key None) (whole_slice group xs))

-- ---- its place

-- whether the second is greater
abbrev pub is_after : Listed → Listed → Bool
is_after x y = key_lt (x.kept).key (y.kept).key

pub insert_listed-is : (x : Listed) (xs : List Listed) → insert xs (position_or_len (is_after x) xs) x ≡ insert_listed x xs
insert_listed-is x xs = insert_at (is_after x) x (insert_listed x) refl (λ y ys. refl) xs

-- ---- each has a name

pub list_all-insert : (new : Listed) (xs : List Listed) → is_named_snapshot new ≡ true → list_all is_named_snapshot xs ≡ true → list_all is_named_snapshot (insert_listed new xs) ≡ true
list_all-insert new [] is h = and_from (is_named_snapshot new) true is refl
list_all-insert new (x ∷ xs) is h =
    let both = and_parts (is_named_snapshot x) (list_all is_named_snapshot xs) h in
    by_test (key_lt (new.kept).key (x.kept).key) both.0 (list_all-insert new xs is both.1)
  where
    by_test : (b : Bool) → is_named_snapshot x ≡ true → list_all is_named_snapshot (insert_listed new xs) ≡ true → list_all is_named_snapshot (cond b (new ∷ x ∷ xs) (x ∷ insert_listed new xs)) ≡ true
    by_test true here later = and_from (is_named_snapshot new) (list_all is_named_snapshot (x ∷ xs)) is h
    by_test false here later = and_from (is_named_snapshot x) (list_all is_named_snapshot (insert_listed new xs)) here later

pub list_all-filter : {A : Type 0} (p q : A → Bool) (xs : List A) → list_all p xs ≡ true → list_all p (filter q xs) ≡ true
list_all-filter p q [] h = refl
list_all-filter p q (x ∷ xs) h = let both = and_parts (p x) (list_all p xs) h in by_test (q x) both.0 (list_all-filter p q xs both.1)
  where
    by_test : (b : Bool) → p x ≡ true → list_all p (filter q xs) ≡ true → list_all p (cond b (x ∷ filter q xs) (filter q xs)) ≡ true
    by_test true first rest = and_from (p x) (list_all p (filter q xs)) first rest
    by_test false first rest = rest

-- ---- what is found has a name

-- where something makes it damaged, its name is short
short_by : (o : Option (List ℕ)) (name : List ℕ) → is_short_name o ≡ true → o ≡ Some name → length name ≤ 251
short_by o name short is = leb-true (length name) 251 (sym (ap is_short_name is) ∙ short)

pub found_short : (xs : List Listed) (key : SnapshotKey) (k : Kept) → list_all is_named_snapshot xs ≡ true → kept_named key xs ≡ Some k → IsShortNamed k
found_short xs key k named there = λ name is. damage_short xs key k there name named is

pub first_short : (xs : List Listed) (name : List ℕ) → list_all is_named_snapshot xs ≡ true → first_unreadable xs ≡ Some name → length name ≤ 251
first_short xs name named is = by_found (find (λ (x : Listed). is_some (x.kept).unreadable) xs) refl is
  where
    by_found : (o : Option Listed) → find (λ (x : Listed). is_some (x.kept).unreadable) xs ≡ o → unreadable_of o ≡ Some name → length name ≤ 251
    by_found None at e = cc
    by_found (Some x) at e =
        let is : is_named_snapshot x ≡ true =
        found_in (λ (x : Listed). is_named_snapshot x ≡ true) (λ (x : Listed). is_some (x.kept).unreadable) xs x (AllPass-from_list_all is_named_snapshot xs named) at in
        short_by (x.kept).unreadable name (and_parts (has_text (x.kept).key) (is_short_name (x.kept).unreadable) is).1 e

-- ---- the latest whole one has a text

key_named : (x : Listed) → is_named_snapshot x ≡ true → has_text (x.kept).key ≡ true
key_named x h = (and_parts (has_text (x.kept).key) (is_short_name (x.kept).unreadable) h).0

last_named : (o : Option SnapshotKey) (xs : List Listed) (k : SnapshotKey) → ((j : SnapshotKey) → o ≡ Some j → has_text j ≡ true) → list_all is_named_snapshot xs ≡ true
    → last_key o (filter is_whole (all_kept xs)) ≡ Some k → has_text k ≡ true
last_named o [] k first h e = first k e
last_named o (x ∷ xs) k first h e =
    let both = and_parts (is_named_snapshot x) (list_all is_named_snapshot xs) h in
    by_whole (is_whole x.kept) (λ p f. last_named p xs k f both.1) (key_named x both.0) e
  where
    keys_same : (a b : SnapshotKey) → Some a ≡ Some b → a ≡ b
    keys_same a b e = cc

    by_whole : (b : Bool) → ((p : Option SnapshotKey) → ((j : SnapshotKey) → p ≡ Some j → has_text j ≡ true) → last_key p (filter is_whole (all_kept xs)) ≡ Some k → has_text k ≡ true) → has_text (x.kept).key ≡ true
        → last_key o (cond b (x.kept ∷ filter is_whole (all_kept xs)) (filter is_whole (all_kept xs))) ≡ Some k → has_text k ≡ true
    by_whole true go here e = go (Some (x.kept).key) (λ j s. subst (λ q. has_text q ≡ true) (keys_same (x.kept).key j s) here) e
    by_whole false go here e = go o first e

pub whole_key : (xs : List Listed) (k : SnapshotKey) → list_all is_named_snapshot xs ≡ true → whole_in xs ≡ Some k → IsKey k
whole_key xs k named is = is_key k (last_named None xs k (λ j n. absurd (none_some j n)) named is)
  where
    none_some : (j : SnapshotKey) → None ≡ Some j → ⊥
    none_some j e = cc
