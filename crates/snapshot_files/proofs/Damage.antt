-- What makes a snapshot damaged, by what its manifest lists.
use Rattle.std.proofs.Common.{◌≡◌, ◌<◌, ◌≤◌, ℕ, suc, List, [], ◌∷◌, Bool, if◌then◌else◌, length, map, Option, Some, arith, refl, sym, ap, ◌∙◌}
use Rattle.std.specs.Prelude.{option_map}
use Rattle.std.proofs.lemmas.Bool.{le-leb, lt-leb}
use Rattle.disk_trait.specs.Files.{Files}
use Rattle.store_types.specs.declared.names.SnapshotKey.{SnapshotKey}
use Rattle.manifest.specs.declared.facts.Manifest.{Manifest}
use Rattle.manifest.specs.declared.facts.FileFact.{FileFact}
use Rattle.manifest.specs.Views.{fact_view, manifest_view}
use Rattle.store_files.specs.Folder.{file_path}
use Rattle.store_files.specs.Folder.{manifest_path}
use Rattle.snapshot_files.specs.Scanned.{first_missing, unreadable_by}

length_viewed : (facts : List FileFact) → length (map fact_view facts) ≡ length facts
length_viewed [] = refl
length_viewed (f ∷ fs) = ap (λ n. suc n) (length_viewed fs)

names_viewed : (facts : List FileFact) → map (λ f. f.name) (map fact_view facts) ≡ map (λ f. f.name) facts
names_viewed [] = refl
names_viewed (f ∷ fs) = ap (λ l. f.name ∷ l) (names_viewed fs)

-- a manifest that lists few enough files
pub by_missing : (files : Files) (key : SnapshotKey) (m : Manifest) (o : Option Manifest) (first : Option (List ℕ)) → o ≡ Some m → length m.files ≤ 63
    → first ≡ first_missing files key (map (λ f. f.name) m.files) → option_map (file_path key) first ≡ unreadable_by files key (option_map manifest_view o)
by_missing files key m o first is few e =
    let missing : Option (List ℕ) = option_map (file_path key) (first_missing files key (map (λ f. f.name) (map fact_view m.files))) in
    let few_viewed : length (map fact_view m.files) ≤ 63 = omega (arith, length_viewed m.files, few) in
    ap (option_map (file_path key)) (e ∙ ap (first_missing files key) (sym (names_viewed m.files)))
    ∙ sym (ap (λ (b : Bool). if b then missing else Some (manifest_path key)) (le-leb (length (map fact_view m.files)) 63 few_viewed))
    ∙ sym (ap (λ p. unreadable_by files key (option_map manifest_view p)) is)

-- one that lists too many
pub by_length : (files : Files) (key : SnapshotKey) (m : Manifest) (o : Option Manifest) → o ≡ Some m → 63 < length m.files
    → Some (manifest_path key) ≡ unreadable_by files key (option_map manifest_view o)
by_length files key m o is many =
    let missing : Option (List ℕ) = option_map (file_path key) (first_missing files key (map (λ f. f.name) (map fact_view m.files))) in
    let many_viewed : 63 < length (map fact_view m.files) = omega (arith, length_viewed m.files, many) in
    sym (ap (λ (b : Bool). if b then missing else Some (manifest_path key)) (lt-leb (length (map fact_view m.files)) 63 many_viewed))
    ∙ sym (ap (λ p. unreadable_by files key (option_map manifest_view p)) is)
