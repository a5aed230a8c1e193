-- What is told of snapshots and of their files.
use Rattle.std.proofs.Common.{◌≡◌, ℕ, ◌+◌, ◌<◌, ◌≤◌, Bool, true, false, cond, List, [], ◌∷◌, ◌++◌, map, take, filter, length, get_or, Option, Some, None, refl, sym, ap, ◌∙◌, append-nil, arith}
use Rattle.std.specs.Prelude.{option_map}
use Rattle.std.specs.List.{find, filter_map, cons_option}
use Rattle.std.specs.Str.{bytes_eq}
use Rattle.std.proofs.lemmas.List.{length-map, length-take, take-map, take_more, map-append}
use Rattle.std.proofs.lemmas.List.Elements.{filter_map-append}
use Rattle.store_types.specs.declared.names.SnapshotKey.{SnapshotKey}
use Rattle.store_types.specs.declared.names.GroupKey.{GroupKey}
use Rattle.store_types.specs.FileNames.{manifest_name}
use Rattle.store_types.specs.Names.{key_text}
use Rattle.store_files.specs.Archive.{File, Snapshot}
use Rattle.store_files.specs.Manifest.Fields.{Fact}
use Rattle.wire_commands.specs.declared.rows.FileRow.{FileRow}
use Rattle.manifest.specs.declared.facts.FileFact.{FileFact}
use Rattle.manifest.specs.Views.{fact_view}
use Rattle.store_model.specs.Store.{in_group, keys_in}
use Rattle.store_model.specs.AdminSteps.{list_limit, list_row, is_after, listed, file_row, fact_shown, group_texts}
use Rattle.store_model.specs.Stands.{group_limit}

pub map-map : {A B C : Type 0} (g : B → C) (f : A → B) (xs : List A) → map (λ x. g (f x)) xs ≡ map g (map f xs)
map-map g f [] = refl
map-map g f (x ∷ xs) = ap (λ l. g (f x) ∷ l) (map-map g f xs)

-- ---- how many

pub few_listed : (snapshots : List Snapshot) (after : Option SnapshotKey) → length (listed snapshots after) ≤ 1024
few_listed snapshots after =
    let found = filter (is_after after) snapshots in
    omega (arith, length-map (take list_limit found) list_row, length-take list_limit found)

pub few_texts : (g : GroupKey) (snapshots : List Snapshot) → length (group_texts g snapshots) ≤ 4096
few_texts g snapshots =
    let keys = keys_in g snapshots in
    omega (arith, length-map (take group_limit keys) key_text, length-take group_limit keys)

-- ---- GROUP

-- the texts of the group's first snapshots
pub texts_are : (g : GroupKey) (snapshots : List Snapshot) → map (λ (x : Snapshot). key_text x.key) (take 4096 (in_group g snapshots)) ≡ group_texts g snapshots
texts_are g snapshots =
    map-map key_text (λ (x : Snapshot). x.key) (take 4096 (in_group g snapshots)) ∙ ap (map key_text) (sym (take-map (λ (x : Snapshot). x.key) 4096 (in_group g snapshots)))

-- ---- FILES

find-map : {A B : Type 0} (p : B → Bool) (f : A → B) (xs : List A) → find p (map f xs) ≡ option_map f (find (λ x. p (f x)) xs)
find-map p f [] = refl
find-map p f (x ∷ xs) = by_test (p (f x)) (find-map p f xs)
  where
    by_test : (b : Bool) → find p (map f xs) ≡ option_map f (find (λ y. p (f y)) xs)
        → cond b (Some (f x)) (find p (map f xs)) ≡ option_map f (cond b (Some x) (find (λ y. p (f y)) xs))
    by_test true go = refl
    by_test false go = go

module _ (facts : List FileFact) (f : File) where
  shown_by : bytes_eq f.name manifest_name ≡ false → (o : Option FileFact) → o ≡ find (λ (x : FileFact). bytes_eq x.name f.name) facts
      → option_map (λ (x : FileFact). file_row (fact_view x)) o ≡ option_map file_row (fact_shown (map fact_view facts) f)
  shown_by h o is =
      rw h (twice o ∙ ap (λ q. option_map file_row (option_map fact_view q)) is ∙ ap (option_map file_row) (sym (find-map (λ (x : Fact). bytes_eq x.name f.name) fact_view facts)))
    where
      twice : (o : Option FileFact) → option_map (λ (x : FileFact). file_row (fact_view x)) o ≡ option_map file_row (option_map fact_view o)
      twice None = refl
      twice (Some x) = refl

  pub shown_listed : (fact : FileFact) → bytes_eq f.name manifest_name ≡ false → Some fact ≡ find (λ (x : FileFact). bytes_eq x.name f.name) facts
      → Some (file_row (fact_view fact)) ≡ option_map file_row (fact_shown (map fact_view facts) f)
  shown_listed fact h is = shown_by h (Some fact) is

  pub shown_nowhere : bytes_eq f.name manifest_name ≡ false → None ≡ find (λ (x : FileFact). bytes_eq x.name f.name) facts
      → None ≡ option_map file_row (fact_shown (map fact_view facts) f)
  shown_nowhere h is = shown_by h None is

-- ---- the rows of files, one by one

module _ (shown : File → Option Fact) (files : List File) (i : ℕ) (x : File) (below : i < length files) (is : x ≡ get_or files i x) where
  abbrev rows_of : List File → List FileRow
  rows_of fs = map file_row (filter_map shown fs)

  -- with one more file
  one_more : (o : Option Fact) → shown x ≡ o → rows_of (take (i + 1) files) ≡ rows_of (take i files) ++ map file_row (cons_option o [])
  one_more o same =
      ap rows_of (take_more files i x below ∙ ap (λ y. take i files ++ y ∷ []) (sym is))
      ∙ ap (map file_row) (filter_map-append shown (take i files) (x ∷ []))
      ∙ map-append file_row (filter_map shown (take i files)) (cons_option (shown x) [])
      ∙ ap (λ q. rows_of (take i files) ++ map file_row (cons_option q [])) same

  pub rows_pushed : (rows new : List FileRow) (row : FileRow) → rows ≡ rows_of (take i files) → Some row ≡ option_map file_row (shown x) → new ≡ rows ++ row ∷ []
      → new ≡ rows_of (take (i + 1) files)
  rows_pushed rows new row so_far told pushed = by_shown (shown x) refl told
    where
      by_shown : (o : Option Fact) → shown x ≡ o → Some row ≡ option_map file_row o → new ≡ rows_of (take (i + 1) files)
      by_shown None same h = cc
      by_shown (Some fact) same h =
          let own : row ≡ file_row fact = cc in
          pushed ∙ ap (λ l. l ++ row ∷ []) so_far ∙ ap (λ r. rows_of (take i files) ++ r ∷ []) own ∙ sym (one_more (Some fact) same)

  pub rows_kept : (rows : List FileRow) → rows ≡ rows_of (take i files) → None ≡ option_map file_row (shown x) → rows ≡ rows_of (take (i + 1) files)
  rows_kept rows so_far told = by_shown (shown x) refl told
    where
      by_shown : (o : Option Fact) → shown x ≡ o → None ≡ option_map file_row o → rows ≡ rows_of (take (i + 1) files)
      by_shown None same h = so_far ∙ sym (one_more None same ∙ append-nil (rows_of (take i files)))
      by_shown (Some fact) same h = cc
