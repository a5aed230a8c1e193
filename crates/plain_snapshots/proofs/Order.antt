-- Where files and snapshots come in their lists, and which is the latest.
use Rattle.std.proofs.Common.{◌≡◌, Bool, true, false, cond, map, List, [], ◌∷◌, ◌++◌, Option, Some, None, refl}
use Rattle.std.specs.List.{last_or, insert, position_or_len}
use Rattle.store_types.specs.declared.names.SnapshotKey.{SnapshotKey}
use Rattle.store_types.specs.declared.names.GroupKey.{GroupKey}
use Rattle.store_types.specs.Names.{key_lt, name_lt, same_group, group_of_key}
use Rattle.store_files.specs.Archive.{File, Snapshot}
use Rattle.store_model.specs.Store.{insert_file, insert_snapshot, in_group, latest_in}
use Rattle.plain_snapshots.proofs.Places.{insert_at}

abbrev pub has_greater_name : File → File → Bool
has_greater_name x y = name_lt x.name y.name

pub insert_file-is : (x : File) (xs : List File) → insert xs (position_or_len (has_greater_name x) xs) x ≡ insert_file x xs
insert_file-is x xs = insert_at (has_greater_name x) x (insert_file x) refl (λ y ys. refl) xs

abbrev pub is_greater : Snapshot → Snapshot → Bool
is_greater x y = key_lt x.key y.key

pub insert_snapshot-is : (x : Snapshot) (xs : List Snapshot) → insert xs (position_or_len (is_greater x) xs) x ≡ insert_snapshot x xs
insert_snapshot-is x xs = insert_at (is_greater x) x (insert_snapshot x) refl (λ y ys. refl) xs

-- ---- the latest of a group

abbrev pub is_in : GroupKey → Snapshot → Bool
is_in group x = same_group (group_of_key x.key) group

abbrev last_key : Option SnapshotKey → List Snapshot → Option SnapshotKey
last_key o xs = last_or o (map (λ (x : Snapshot). x.key) xs)

last_of_one : (o : Option SnapshotKey) (b : Bool) (x : Snapshot) → last_key o (cond b (x ∷ []) []) ≡ cond b (Some x.key) o
last_of_one o true x = refl
last_of_one o false x = refl

latest_from : (o : Option SnapshotKey) (group : GroupKey) (xs : List Snapshot) (x : Snapshot) → last_key o (in_group group (xs ++ x ∷ [])) ≡ cond (is_in group x) (Some x.key) (last_key o (in_group group xs))
latest_from o group [] x = last_of_one o (is_in group x) x
latest_from o group (y ∷ ys) x = by_test (is_in group y) (λ p. latest_from p group ys x)
  where
    by_test : (b : Bool) → ((p : Option SnapshotKey) → last_key p (in_group group (ys ++ x ∷ [])) ≡ cond (is_in group x) (Some x.key) (last_key p (in_group group ys)))
        → last_key o (cond b (y ∷ in_group group (ys ++ x ∷ [])) (in_group group (ys ++ x ∷ []))) ≡ cond (is_in group x) (Some x.key) (last_key o (cond b (y ∷ in_group group ys) (in_group group ys)))
    by_test true go = go (Some y.key)
    by_test false go = go o

-- one more
pub latest_in-push : (group : GroupKey) (xs : List Snapshot) (x : Snapshot) → latest_in group (xs ++ x ∷ []) ≡ cond (is_in group x) (Some x.key) (latest_in group xs)
latest_in-push group xs x = latest_from None group xs x
