-- A snapshot that stands is found whole.
use Rattle.std.proofs.Common.{◌≡◌, ℕ, Bool, true, false, not, cond, if◌then◌else◌, length, map, List, [], ◌∷◌, Option, Some, None, refl, sym, ap, subst, ◌∙◌}
use Rattle.std.specs.FinMap.{get}
use Rattle.std.specs.List.{All, Contains, filter}
use Rattle.std.specs.Option.{is_some, option_map}
use Rattle.std.specs.Str.{bytes_eq}
use Rattle.std.proofs.lemmas.Bool.{le-leb}
use Rattle.std.proofs.lemmas.List.Elements.{All-nil, All-cons, All-head, All-tail, All-map, All-weaker, All-contains, All-contains_itself}
use Rattle.std.proofs.lemmas.Slice.Eq.{bytes_eq-Decides}
use Rattle.store_types.specs.declared.names.SnapshotKey.{SnapshotKey}
use Rattle.store_types.specs.Chain.Reading.{◌>>=◌}
use Rattle.store_types.specs.FileNames.{manifest_name}
use Rattle.store_files.specs.Archive.{File, Snapshot, file_text}
use Rattle.store_files.specs.Folder.{Files, file_path, manifest_path}
use Rattle.store_model.specs.Load.{read_manifest}
use Rattle.store_model.specs.Manifests.{listed_names}
use Rattle.store_model.specs.Stands.{HoldsFiles}
use Rattle.store_model.proofs.Finding.{some_same}
use Rattle.store_model.proofs.Insertions.{Contains-later}
use Rattle.snapshot_files.specs.Scanned.{FoundSnapshot, first_missing, unreadable_by, found_at, found_with}
use Rattle.snapshot_files.proofs.Manifests.{HasListing}
use Rattle.manifest.specs.Least.{lesser}

-- ---- no listed file is missing

abbrev IsThere : Files → SnapshotKey → List ℕ → Type 0
IsThere m key name = is_some (get m (file_path key name)) ≡ true

none_missing : (m : Files) (key : SnapshotKey) (names : List (List ℕ)) → All (IsThere m key) names → first_missing m key names ≡ None
none_missing m key [] all = refl
none_missing m key (n ∷ ns) all =
    ap (λ (b : Bool). lesser (if b then None else Some n) (first_missing m key ns)) (All-head (IsThere m key) n ns all)
    ∙ none_missing m key ns (All-tail (IsThere m key) n ns all)

-- what holds of the manifest's name and of the others that are listed holds of all that are listed
with_own : (P : List ℕ → Type 0) → P manifest_name → (names : List (List ℕ)) → All P (filter (λ name. not (bytes_eq name manifest_name)) names) → All P names
with_own P own [] all = All-nil P
with_own P own (n ∷ ns) all = by_test (bytes_eq n manifest_name) refl (with_own P own ns) all
  where
    by_test : (b : Bool) → bytes_eq n manifest_name ≡ b → (All P (filter (λ name. not (bytes_eq name manifest_name)) ns) → All P ns)
        → All P (cond (not b) (n ∷ filter (λ name. not (bytes_eq name manifest_name)) ns) (filter (λ name. not (bytes_eq name manifest_name)) ns)) → All P (n ∷ ns)
    by_test true e go all = All-cons P n ns (subst P (sym ((bytes_eq-Decides n manifest_name).0 e)) own) (go all)
    by_test false e go all =
        let others = filter (λ name. not (bytes_eq name manifest_name)) ns in
        All-cons P n ns (All-head P n others all) (go (All-tail P n others all))

module _ (m : Files) (x : Snapshot) (held : HoldsFiles m x) (h : HasListing m x) where
  names_there : All (IsThere m x.key) (map (λ (f : File). f.name) x.files)
  names_there =
      All-map (IsThere m x.key) (λ (f : File). f.name) x.files
      (All-weaker (λ f. get m (file_path x.key f.name) ≡ Some (file_text f.content)) (λ f. IsThere m x.key f.name) (λ f e. ap is_some e) x.files held)

  listed_there : All (IsThere m x.key) (map (λ f. f.name) (h.listed).files)
  listed_there =
      let others = listed_names h.listed in
      with_own (IsThere m x.key) (ap is_some h.there) (map (λ f. f.name) (h.listed).files)
      (All-weaker (Contains others) (IsThere m x.key)
      (λ name has. All-contains (IsThere m x.key) (map (λ (f : File). f.name) x.files) name names_there ((h.members name).1 (Contains-later manifest_name others name has)))
      others (All-contains_itself others))

  whole : unreadable_by m x.key (Some h.listed) ≡ None
  whole =
      ap (λ (b : Bool). if b then option_map (file_path x.key) (first_missing m x.key (map (λ f. f.name) (h.listed).files)) else Some (manifest_path x.key)) (le-leb (length (h.listed).files) 63 h.few)
      ∙ ap (option_map (file_path x.key)) (none_missing m x.key (map (λ f. f.name) (h.listed).files) listed_there)

  found_is : found_at m x.key ≡ Some (found_with m x.key (Some h.listed))
  unfolding found_at
  found_is =
      ap (λ (o : Option (List ℕ)). o >>= λ bytes. Some (found_with m x.key (read_manifest bytes))) h.there
      ∙ ap (λ o. Some (found_with m x.key o)) h.read

  module _ (found : FoundSnapshot) (at : found_at m found.key ≡ Some found) (same : found.key ≡ x.key) where
    is_found : found ≡ found_with m x.key (Some h.listed)
    is_found = some_same found (found_with m x.key (Some h.listed)) (sym at ∙ ap (found_at m) same ∙ found_is)

    pub its_manifest : found.manifest ≡ Some h.listed
    its_manifest = ap (λ (y : FoundSnapshot). y.manifest) is_found

    pub not_damaged : found.unreadable ≡ None
    not_damaged = ap (λ (y : FoundSnapshot). y.unreadable) is_found ∙ whole
