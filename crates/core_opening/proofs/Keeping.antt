-- What is kept of a snapshot that was found, and of all of them.
use Rattle.std.proofs.Common.{◌≡◌, ◌+◌, ◌≤◌, ℕ, true, ◌&&◌, nat_le, length, map, List, [], ◌∷◌, ◌++◌, Option, Some, None, IfSome, refl, sym, ap, subst, ◌∙◌, arith}
use Rattle.std.proofs.lemmas.Bool.{and_from, le-leb}
use Rattle.store_types.specs.declared.names.SnapshotKey.{SnapshotKey}
use Rattle.store_types.specs.FileNames.{is_id}
use Rattle.store_types.specs.Times.{last_moment}
use Rattle.store_files.specs.Folder.{file_path}
use Rattle.snapshot_files.specs.Scanned.{FoundSnapshot, HasNames}
use Rattle.core_state.specs.declared.kept.Listed.{Listed}
use Rattle.core_state.specs.declared.kept.StoredFile.{StoredFile}
use Rattle.core_state.specs.Named.{is_named_snapshot, is_short_name}
use Rattle.core_opening.specs.Opening.{AreListed, IsKeptOf, ListsNames, stored_at, stored_names_rise}
use Rattle.core_opening.proofs.Naming.{names_stored_at, paths_stored_at}

pub is_kept : (x : FoundSnapshot) (key : SnapshotKey) (unreadable : Option (List ℕ)) (names : List (List ℕ)) (files stored : List StoredFile) → key ≡ x.key → unreadable ≡ x.unreadable → stored ≡ files
    → files ≡ map (stored_at key) names → stored_names_rise files ≡ true → ListsNames x.manifest names → IsKeptOf x (record { key = key; files = stored; unreadable = unreadable })
is_kept x key unreadable names files stored same damage kept are rise lists =
    let all : stored ≡ map (stored_at key) names = kept ∙ are in
    let named : map (λ (f : StoredFile). f.name) stored ≡ names = ap (map (λ (f : StoredFile). f.name)) all ∙ names_stored_at key names in
    record {
      key = same;
      unreadable = damage;
      rising = ap stored_names_rise kept ∙ rise;
      files = subst (ListsNames x.manifest) (sym named) lists;
      paths =
          ap (map (λ (f : StoredFile). f.path)) all ∙ paths_stored_at key names
          ∙ ap (map (λ (f : StoredFile). file_path key f.name)) (sym all)
          ∙ ap (λ (k : SnapshotKey). map (λ (f : StoredFile). file_path k f.name) stored) same;
    }

-- ---- one more

pub listed_more : (n : ℕ) (xs : List FoundSnapshot) (ys : List Listed) (x : FoundSnapshot) (y : Listed) → AreListed n xs ys → y.number ≡ n + length ys → IsKeptOf x y.kept → AreListed n (xs ++ x ∷ []) (ys ++ y ∷ [])
listed_more n [] [] x y are number kept = (omega (arith, number), kept, tt)
listed_more n [] (b ∷ ys) x y are number kept = absurd are
listed_more n (a ∷ xs) [] x y are number kept = absurd are
listed_more n (a ∷ xs) (b ∷ ys) x y are number kept = (are.0, are.1, listed_more (n + 1) xs ys x y are.2 (omega (arith, number)) kept)

short : (o : Option (List ℕ)) → IfSome o (λ name. length name ≤ 251) → is_short_name o ≡ true
short None h = refl
short (Some name) h = le-leb (length name) 251 h

pub is_named : (x : FoundSnapshot) (y : Listed) → HasNames x → IsKeptOf x y.kept → is_named_snapshot y ≡ true
is_named x y has kept =
    let text : (is_id (x.key).id && nat_le (x.key).time last_moment) ≡ true = and_from (is_id (x.key).id) (nat_le (x.key).time last_moment) (has.0).0 (le-leb (x.key).time last_moment (has.0).1) in
    and_from _ _ (ap (λ (k : SnapshotKey). is_id k.id && nat_le k.time last_moment) kept.key ∙ text) (ap is_short_name kept.unreadable ∙ short x.unreadable has.1)
