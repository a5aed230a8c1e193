-- The catalogue of what is found shows the snapshots that the disk stands for.
use Rattle.std.proofs.Common.{◌≡◌, ◌+◌, ℕ, ◌&&◌, map, List, [], ◌∷◌, Some, None, refl, sym, ap, ap₂, subst, ◌∙◌}
use Rattle.std.specs.List.{All, Contains}
use Rattle.std.proofs.lemmas.Cmp.{nat_list_cmp_total}
use Rattle.std.proofs.lemmas.List.Elements.{All-head, All-tail, All-map, All-weaker, All-contains}
use Rattle.store_types.specs.declared.names.SnapshotKey.{SnapshotKey}
use Rattle.store_types.specs.FileNames.{manifest_name}
use Rattle.store_types.specs.KeyOrder.{key_cmp_total}
use Rattle.store_types.specs.Names.{IsKey, key_cmp, key_lt, name_lt, text_cmp}
use Rattle.store_files.specs.Archive.{File, Snapshot}
use Rattle.store_files.specs.Folder.{Files, file_path}
use Rattle.store_model.specs.Stands.{StandsFor as Stands, IsSnapshot, HoldsFiles, keys_rise, names_rise}
use Rattle.snapshot_files.specs.Scanned.{FoundSnapshot, Lists, found_at, found_rise}
use Rattle.snapshot_files.proofs.Manifests.{has_listing}
use Rattle.snapshot_files.proofs.Rising.{rises, one_list}
use Rattle.core_state.specs.declared.kept.Kept.{Kept}
use Rattle.core_state.specs.declared.kept.Listed.{Listed}
use Rattle.core_state.specs.declared.kept.StoredFile.{StoredFile}
use Rattle.core_state.specs.Shown.{shown_file, shown_files, shown_snapshot}
use Rattle.core_opening.specs.Opening.{AreListed, IsKeptOf, names_listed, stored_names_rise}
use Rattle.core_opening.proofs.Manifests.{its_manifest, not_damaged}

-- ---- order

abbrev keys_found : List FoundSnapshot → List SnapshotKey
keys_found xs = map (λ (x : FoundSnapshot). x.key) xs

abbrev keys_of : List Snapshot → List SnapshotKey
keys_of xs = map (λ (x : Snapshot). x.key) xs

abbrev names_of : List File → List (List ℕ)
names_of fs = map (λ (f : File). f.name) fs

abbrev names_stored : List StoredFile → List (List ℕ)
names_stored fs = map (λ (f : StoredFile). f.name) fs

found_rises : (xs : List FoundSnapshot) → found_rise xs ≡ rises key_cmp (keys_found xs)
found_rises [] = refl
found_rises (x ∷ []) = refl
found_rises (x ∷ y ∷ xs) = ap (λ b. key_lt x.key y.key && b) (found_rises (y ∷ xs))

keys_rises : (xs : List Snapshot) → keys_rise xs ≡ rises key_cmp (keys_of xs)
keys_rises [] = refl
keys_rises (x ∷ []) = refl
keys_rises (x ∷ y ∷ xs) = ap (λ b. key_lt x.key y.key && b) (keys_rises (y ∷ xs))

names_rises : (fs : List File) → names_rise fs ≡ rises text_cmp (names_of fs)
names_rises [] = refl
names_rises (f ∷ []) = refl
names_rises (f ∷ g ∷ fs) = ap (λ b. name_lt f.name g.name && b) (names_rises (g ∷ fs))

pub stored_rises : (fs : List StoredFile) → stored_names_rise fs ≡ rises text_cmp (names_stored fs)
stored_rises [] = refl
stored_rises (f ∷ []) = refl
stored_rises (f ∷ g ∷ fs) = ap (λ b. name_lt f.name g.name && b) (stored_rises (g ∷ fs))

-- ---- one snapshot

files_are : (key : SnapshotKey) (fs : List StoredFile) (gs : List File) → names_stored fs ≡ names_of gs → map (λ f. f.path) fs ≡ map (λ f. file_path key f.name) fs → fs ≡ shown_files key gs
files_are key [] [] names paths = refl
files_are key [] (g ∷ gs) names paths = cc
files_are key (f ∷ fs) [] names paths = cc
files_are key (f ∷ fs) (g ∷ gs) names paths =
    let name : f.name ≡ g.name = cc in
    let path : f.path ≡ file_path key f.name = cc in
    let other_names : names_stored fs ≡ names_of gs = cc in
    let other_paths : map (λ f. f.path) fs ≡ map (λ f. file_path key f.name) fs = cc in
    let where_it_is : f.path ≡ file_path key g.name = path ∙ ap (file_path key) name in
    let first : f ≡ shown_file key g = λ i. record { name = name i; path = where_it_is i } in
    ap₂ (λ (a : StoredFile) (b : List StoredFile). a ∷ b) first (files_are key fs gs other_names other_paths)

kept_is : (m : Files) (x : FoundSnapshot) (s : Snapshot) (k : Kept) → found_at m x.key ≡ Some x → x.key ≡ s.key → IsSnapshot s → HoldsFiles m s → IsKeptOf x k → k ≡ shown_snapshot s
kept_is m x s k at same is held of =
    let h = has_listing m s is held in
    let manifest : x.manifest ≡ Some h.listed = its_manifest m s held h x at same in
    let key : k.key ≡ s.key = of.key ∙ same in
    let unreadable : k.unreadable ≡ None = of.unreadable ∙ not_damaged m s held h x at same in
    let names : names_stored k.files ≡ names_of s.files =
    one_list text_cmp nat_list_cmp_total (names_stored k.files) (names_of s.files) (sym (stored_rises k.files) ∙ of.rising) (sym (names_rises s.files) ∙ is.names)
    (λ name has. (h.members name).1 (subst (λ o. Contains (manifest_name ∷ names_listed o) name) manifest ((of.files name).0 has)))
    (λ name has. (of.files name).1 (subst (λ o. Contains (manifest_name ∷ names_listed o) name) (sym manifest) ((h.members name).0 has))) in
    let files : k.files ≡ shown_files s.key s.files =
    files_are s.key k.files s.files names (of.paths ∙ ap (λ q. map (λ (f : StoredFile). file_path q f.name) k.files) same) in
    λ i. record { key = key i; files = files i; unreadable = unreadable i }

-- ---- all of them

abbrev IsFound : Files → FoundSnapshot → Type 0
IsFound m x = IsKey x.key × (found_at m x.key ≡ Some x)

all_shown : (m : Files) (xs : List FoundSnapshot) (ss : List Snapshot) (n : ℕ) (ys : List Listed) → All (IsFound m) xs → All IsSnapshot ss → All (HoldsFiles m) ss → keys_found xs ≡ keys_of ss → AreListed n xs ys
    → map (λ x. x.kept) ys ≡ map shown_snapshot ss
all_shown m [] [] n [] found each held keys are = refl
all_shown m [] [] n (y ∷ ys) found each held keys are = absurd are
all_shown m [] (s ∷ ss) n ys found each held keys are = cc
all_shown m (x ∷ xs) [] n ys found each held keys are = cc
all_shown m (x ∷ xs) (s ∷ ss) n [] found each held keys are = absurd are
all_shown m (x ∷ xs) (s ∷ ss) n (y ∷ ys) found each held keys are =
    let key : x.key ≡ s.key = cc in
    let others : keys_found xs ≡ keys_of ss = cc in
    ap₂ (λ (a : Kept) (b : List Kept). a ∷ b)
    (kept_is m x s y.kept (All-head (IsFound m) x xs found).1 key (All-head IsSnapshot s ss each) (All-head (HoldsFiles m) s ss held) are.1)
    (all_shown m xs ss (n + 1) ys (All-tail (IsFound m) x xs found) (All-tail IsSnapshot s ss each) (All-tail (HoldsFiles m) s ss held) others are.2)

module _ (m : Files) (L : List Snapshot) (found : List FoundSnapshot) (s : Stands m L) (l : Lists m found) where
  keys_same : keys_found found ≡ keys_of L
  keys_same =
      let grammar_found : All IsKey (keys_found found) = All-map IsKey (λ (x : FoundSnapshot). x.key) found (All-weaker (IsFound m) (λ x. IsKey x.key) (λ x h. h.0) found l.each) in
      let grammar : All IsKey (keys_of L) = All-map IsKey (λ (x : Snapshot). x.key) L (All-weaker IsSnapshot (λ x. IsKey x.key) (λ x h. h.key) L s.each) in
      one_list key_cmp key_cmp_total (keys_found found) (keys_of L) (sym (found_rises found) ∙ l.rising) (sym (keys_rises L) ∙ s.order)
      (λ key has. let is = All-contains IsKey (keys_found found) key grammar_found has in (s.manifests key is).0 ((l.exactly key is).0 has))
      (λ key has. let is = All-contains IsKey (keys_of L) key grammar has in (l.exactly key is).1 ((s.manifests key is).1 has))

  pub kept_shown : (n : ℕ) (listed : List Listed) → AreListed n found listed → map (λ x. x.kept) listed ≡ map shown_snapshot L
  kept_shown n listed are = all_shown m found L n listed l.each s.each s.files keys_same are
