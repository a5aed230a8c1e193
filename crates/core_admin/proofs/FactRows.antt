-- What is told of a file, by what the manifest lists.
use Rattle.std.proofs.Common.{◌≡◌, ◌≤◌, ◌<◌, ◌+◌, ◌++◌, ◌∷◌, [], ℕ, true, false, cond, List, map, take, length, get_or, Option, Some, None, refl, ap, sym, ◌&&◌, ◌∙◌, append-nil}
use Rattle.std.proofs.lemmas.List.{take_more, map-append}
use Rattle.std.proofs.lemmas.List.Elements.{filter_map-append}
use Rattle.std.proofs.lemmas.Bool.{leb-true, and_parts}
use Rattle.std.specs.Prelude.{nat_le}
use Rattle.std.specs.List.{find, list_all, filter_map, cons_option}
use Rattle.std.specs.Option.{option_map}
use Rattle.std.specs.Str.{bytes_eq}
use Rattle.store_types.specs.FileNames.{is_id, is_word_byte, is_id_byte, is_file_name, manifest_name}
use Rattle.store_types.proofs.NameLemmas.{file_name_id}
use Rattle.store_files.specs.Manifest.Fields.{Fact}
use Rattle.store_files.specs.Manifest.Mismatch.{fact_named}
use Rattle.manifest.specs.declared.facts.FileFact.{FileFact}
use Rattle.manifest.specs.Views.{fact_view}
use Rattle.wire_commands.specs.declared.rows.FileRow.{FileRow}
use Rattle.store_model.specs.AdminSteps.{file_row}
use Rattle.core_state.specs.declared.kept.StoredFile.{StoredFile}
use Rattle.core_state.proofs.Finding.{find_map}
use Rattle.core_admin.specs.FileRows.{own_fact, fact_by, rows_by}

id_short : (id : List ℕ) → is_id id ≡ true → length id ≤ 64
id_short id h =
    let four = and_parts (nat_le 1 (length id) && nat_le (length id) 64 && is_word_byte (get_or id 0 0)) (list_all is_id_byte id) h in
    let three = and_parts (nat_le 1 (length id) && nat_le (length id) 64) (is_word_byte (get_or id 0 0)) four.0 in
    leb-true (length id) 64 (and_parts (nat_le 1 (length id)) (nat_le (length id) 64) three.0).1

pub name_short : (name : List ℕ) → is_file_name name ≡ true → length name ≤ 64
name_short name h = id_short name (file_name_id name h)

module _ (bytes : List ℕ) (listed : List FileFact) (name : List ℕ) where
  -- of a file that is not the manifest
  pub other_told : bytes_eq name manifest_name ≡ false → (o : Option FileFact) → o ≡ find (λ (x : FileFact). bytes_eq x.name name) listed
      → option_map (λ (x : FileFact). file_row (fact_view x)) o ≡ option_map file_row (fact_by bytes (map fact_view listed) name)
  other_told other o is =
      twice o
      ∙ ap (λ q. option_map file_row (option_map fact_view q)) is
      ∙ ap (option_map file_row) (sym (find_map fact_view (λ (x : Fact). bytes_eq x.name name) listed))
      ∙ sym (ap (λ b. option_map file_row (cond b (Some (own_fact bytes)) (fact_named name (map fact_view listed)))) other)
    where
      twice : (o : Option FileFact) → option_map (λ (x : FileFact). file_row (fact_view x)) o ≡ option_map file_row (option_map fact_view o)
      twice None = refl
      twice (Some x) = refl

-- ---- the rows of files, one by one

abbrev names_of : List StoredFile → List (List ℕ)
names_of files = map (λ (f : StoredFile). f.name) files

module _ (bytes : List ℕ) (facts : List Fact) (files : List StoredFile) (i : ℕ) (x : StoredFile) (below : i < length files) (is : x ≡ get_or files i x) where
  -- with one more file
  one_more : (o : Option Fact) → fact_by bytes facts x.name ≡ o → rows_by bytes facts (names_of (take (i + 1) files)) ≡ rows_by bytes facts (names_of (take i files)) ++ map file_row (cons_option o [])
  one_more o same =
      ap (λ fs. rows_by bytes facts (names_of fs)) (take_more files i x below ∙ ap (λ y. take i files ++ y ∷ []) (sym is))
      ∙ ap (rows_by bytes facts) (map-append (λ (f : StoredFile). f.name) (take i files) (x ∷ []))
      ∙ ap (map file_row) (filter_map-append (fact_by bytes facts) (names_of (take i files)) (x.name ∷ []))
      ∙ map-append file_row (filter_map (fact_by bytes facts) (names_of (take i files))) (cons_option (fact_by bytes facts x.name) [])
      ∙ ap (λ q. rows_by bytes facts (names_of (take i files)) ++ map file_row (cons_option q [])) same

  pub rows_pushed : (rows new : List FileRow) (row : FileRow) → rows ≡ rows_by bytes facts (names_of (take i files)) → Some row ≡ option_map file_row (fact_by bytes facts x.name) → new ≡ rows ++ row ∷ []
      → new ≡ rows_by bytes facts (names_of (take (i + 1) files))
  rows_pushed rows new row so_far told pushed = by_fact (fact_by bytes facts x.name) refl told
    where
      by_fact : (o : Option Fact) → fact_by bytes facts x.name ≡ o → Some row ≡ option_map file_row o → new ≡ rows_by bytes facts (names_of (take (i + 1) files))
      by_fact None same h = cc
      by_fact (Some fact) same h =
          let own : row ≡ file_row fact = cc in
          pushed ∙ ap (λ l. l ++ row ∷ []) so_far ∙ ap (λ r. rows_by bytes facts (names_of (take i files)) ++ r ∷ []) own ∙ sym (one_more (Some fact) same)

  pub rows_kept : (rows : List FileRow) → rows ≡ rows_by bytes facts (names_of (take i files)) → None ≡ option_map file_row (fact_by bytes facts x.name) → rows ≡ rows_by bytes facts (names_of (take (i + 1) files))
  rows_kept rows so_far told = by_fact (fact_by bytes facts x.name) refl told
    where
      by_fact : (o : Option Fact) → fact_by bytes facts x.name ≡ o → None ≡ option_map file_row o → rows ≡ rows_by bytes facts (names_of (take (i + 1) files))
      by_fact None same h = so_far ∙ sym (one_more None same ∙ append-nil (rows_by bytes facts (names_of (take i files))))
      by_fact (Some fact) same h = cc
