-- The names in a set, and the files of these names.
use Rattle.std.proofs.Common.{◌≡◌, ◌⊎◌, inl, inr, ⊎_elim, ◌↔◌, ℕ, Bool, true, false, not, cond, map, List, [], ◌∷◌, ◌++◌, Some, append_assoc, refl, sym, ap, subst, ◌∙◌, arith}
use Rattle.std.specs.BTreeSet.{BTreeSet, contains, Updates}
use Rattle.std.specs.List.{Contains, filter}
use Rattle.std.specs.List.Sorted.{IsStrictlySortedBy}
use Rattle.std.specs.Ordering.{is_eq}
use Rattle.std.specs.Str.{bytes_eq}
use Rattle.std.proofs.lemmas.Cmp.{nat_list_cmp_total}
use Rattle.std.proofs.lemmas.List.{append-nil, map-append}
use Rattle.std.proofs.lemmas.List.Elements.{Contains-append_left, Contains-push, Contains-push_cases}
use Rattle.std.proofs.lemmas.Map.Lookups.{exact_bytes}
use Rattle.std.proofs.lemmas.Map.Text.{is_eq-slice_cmp}
use Rattle.std.proofs.lemmas.Map.Views.{btree_set_contains_iff}
use Rattle.std.proofs.lemmas.Slice.Eq.{bytes_eq-Decides}
use Rattle.manifest.specs.declared.facts.FileFact.{FileFact}
use Rattle.manifest.specs.declared.facts.Manifest.{Manifest}
use Rattle.manifest.specs.Views.{fact_view, manifest_view}
use Rattle.store_types.specs.declared.names.SnapshotKey.{SnapshotKey}
use Rattle.store_types.specs.FileNames.{manifest_name}
use Rattle.store_types.specs.Names.{text_cmp}
use Rattle.store_files.specs.Folder.{file_path}
use Rattle.store_model.proofs.Insertions.{Contains-here, Contains-later, Contains-cases}
use Rattle.snapshot_files.proofs.Rising.{rises, sorted_rises}
use Rattle.core_state.specs.declared.kept.StoredFile.{StoredFile}
use Rattle.core_opening.specs.Opening.{ListsNames, stored_at, stored_names_rise}
use Rattle.core_opening.proofs.KeptShown.{stored_rises}

-- ---- a set

-- the set has these names, and no other
abbrev pub HasMembers : BTreeSet (List ℕ) → List (List ℕ) → Type 0
HasMembers set names = (q : List ℕ) → (contains text_cmp set q ≡ true) ↔ Contains names q

not_both : false ≡ true → ⊥
not_both e = cc

pub members_none : (set : BTreeSet (List ℕ)) → set.keys ≡ [] → HasMembers set []
members_none set e q = let none : contains text_cmp set q ≡ false = rw e refl in (λ h. absurd (not_both (sym none ∙ h)), λ h. absurd (omega (arith, h.1)))

-- one more was put in
pub members_more : (old new : BTreeSet (List ℕ)) (names : List (List ℕ)) (n : List ℕ) → HasMembers old names → Updates text_cmp old new n true → HasMembers new (names ++ n ∷ [])
members_more old new names n has updates q = (
  λ h. there (is_eq (text_cmp n q)) refl (sym (updates.0 q) ∙ h),
  λ h. updates.0 q ∙ back (Contains-push_cases names n q h),
)
  where
    there : (t : Bool) → is_eq (text_cmp n q) ≡ t → cond t true (contains text_cmp old q) ≡ true → Contains (names ++ n ∷ []) q
    there true e h = subst (Contains (names ++ n ∷ [])) ((bytes_eq-Decides n q).0 (sym (is_eq-slice_cmp n q) ∙ e)) (Contains-push names n)
    there false e h = Contains-append_left names (n ∷ []) q ((has q).0 h)

    true_or : (t b : Bool) → b ≡ true → cond t true b ≡ true
    true_or true b e = refl
    true_or false b e = e

    back : Contains names q ⊎ (n ≡ q) → cond (is_eq (text_cmp n q)) true (contains text_cmp old q) ≡ true
    back (inl c) = true_or (is_eq (text_cmp n q)) (contains text_cmp old q) ((has q).1 c)
    back (inr e) = ap (λ t. cond t true (contains text_cmp old q)) (is_eq-slice_cmp n q ∙ (bytes_eq-Decides n q).1 e)

-- the file of the manifest that is gone through
pub members_listed : (old new : BTreeSet (List ℕ)) (facts : List FileFact) (f : FileFact) → HasMembers old (manifest_name ∷ map (λ (f : FileFact). f.name) facts) → Updates text_cmp old new f.name true
    → HasMembers new (manifest_name ∷ map (λ (f : FileFact). f.name) (facts ++ f ∷ []))
members_listed old new facts f has updates =
    subst (λ ns. HasMembers new (manifest_name ∷ ns)) (sym (map-append (λ (f : FileFact). f.name) facts (f ∷ [])))
    (members_more old new (manifest_name ∷ map (λ (f : FileFact). f.name) facts) f.name has updates)

-- ---- what the manifest lists

keys_are : (set : BTreeSet (List ℕ)) (names : List (List ℕ)) → HasMembers set names → (q : List ℕ) → Contains set.keys q ↔ Contains names q
keys_are set names has q =
    let iff = btree_set_contains_iff nat_list_cmp_total exact_bytes set q in
    (λ h. (has q).0 (iff.1 h), λ h. iff.0 ((has q).1 h))

abbrev others : List (List ℕ) → List (List ℕ)
others names = filter (λ name. not (bytes_eq name manifest_name)) names

from_others : (names : List (List ℕ)) (q : List ℕ) → Contains (others names) q → Contains names q
from_others [] q h = h
from_others (n ∷ ns) q h = by_test (bytes_eq n manifest_name) (from_others ns q) h
  where
    by_test : (b : Bool) → (Contains (others ns) q → Contains ns q) → Contains (cond (not b) (n ∷ others ns) (others ns)) q → Contains (n ∷ ns) q
    by_test true go h = Contains-later n ns q (go h)
    by_test false go h =
        ⊎_elim (λ (e : n ≡ q). subst (Contains (n ∷ ns)) e (Contains-here n ns)) (λ (c : Contains (others ns) q). Contains-later n ns q (go c)) (Contains-cases n (others ns) q h)

to_others : (names : List (List ℕ)) (q : List ℕ) → Contains names q → (manifest_name ≡ q) ⊎ Contains (others names) q
to_others [] q h = inr h
to_others (n ∷ ns) q h =
    ⊎_elim (λ (e : n ≡ q). here (bytes_eq n manifest_name) refl e) (λ (c : Contains ns q). past (bytes_eq n manifest_name) (to_others ns q c)) (Contains-cases n ns q h)
  where
    here : (b : Bool) → bytes_eq n manifest_name ≡ b → n ≡ q → (manifest_name ≡ q) ⊎ Contains (cond (not b) (n ∷ others ns) (others ns)) q
    here true is e = inl (sym ((bytes_eq-Decides n manifest_name).0 is) ∙ e)
    here false is e = inr (subst (Contains (n ∷ others ns)) e (Contains-here n (others ns)))

    past : (b : Bool) → (manifest_name ≡ q) ⊎ Contains (others ns) q → (manifest_name ≡ q) ⊎ Contains (cond (not b) (n ∷ others ns) (others ns)) q
    past b (inl e) = inl e
    past true (inr c) = inr c
    past false (inr c) = inr (Contains-later n (others ns) q c)

names_viewed : (facts : List FileFact) → map (λ f. f.name) (map fact_view facts) ≡ map (λ (f : FileFact). f.name) facts
names_viewed [] = refl
names_viewed (f ∷ fs) = ap (λ (l : List (List ℕ)). f.name ∷ l) (names_viewed fs)

pub lists_all : (set : BTreeSet (List ℕ)) (m : Manifest) → HasMembers set (manifest_name ∷ map (λ (f : FileFact). f.name) m.files) → ListsNames (Some (manifest_view m)) set.keys
lists_all set m has q =
    let names = map (λ (f : FileFact). f.name) m.files in
    let keys = keys_are set (manifest_name ∷ names) has q in
    subst (λ ns. Contains set.keys q ↔ Contains (manifest_name ∷ others ns) q) (sym (names_viewed m.files))
    ((
      λ h.
          ⊎_elim
          (λ (e : manifest_name ≡ q). subst (Contains (manifest_name ∷ others names)) e (Contains-here manifest_name (others names)))
          (λ (c : Contains names q).
          ⊎_elim
          (λ (e : manifest_name ≡ q). subst (Contains (manifest_name ∷ others names)) e (Contains-here manifest_name (others names)))
          (λ (c : Contains (others names) q). Contains-later manifest_name (others names) q c)
          (to_others names q c))
          (Contains-cases manifest_name names q (keys.0 h)),
      λ h.
          keys.1
          (⊎_elim
          (λ (e : manifest_name ≡ q). subst (Contains (manifest_name ∷ names)) e (Contains-here manifest_name names))
          (λ (c : Contains (others names) q). Contains-later manifest_name names q (from_others names q c))
          (Contains-cases manifest_name (others names) q h)),
    ))

-- ---- files

pub names_stored_at : (key : SnapshotKey) (names : List (List ℕ)) → map (λ (f : StoredFile). f.name) (map (stored_at key) names) ≡ names
names_stored_at key [] = refl
names_stored_at key (n ∷ ns) = ap (λ (l : List (List ℕ)). n ∷ l) (names_stored_at key ns)

pub paths_stored_at : (key : SnapshotKey) (names : List (List ℕ)) → map (λ (f : StoredFile). f.path) (map (stored_at key) names) ≡ map (λ (f : StoredFile). file_path key f.name) (map (stored_at key) names)
paths_stored_at key [] = refl
paths_stored_at key (n ∷ ns) = ap (λ (l : List (List ℕ)). file_path key n ∷ l) (paths_stored_at key ns)

pub rise_stored_at : (key : SnapshotKey) (names : List (List ℕ)) → IsStrictlySortedBy text_cmp names → stored_names_rise (map (stored_at key) names) ≡ true
rise_stored_at key names sorted =
    stored_rises (map (stored_at key) names) ∙ ap (rises text_cmp) (names_stored_at key names) ∙ sorted_rises text_cmp names sorted

-- one file more
pub stored_more : (key : SnapshotKey) (old new all : List StoredFile) (n p : List ℕ) (left rest : List (List ℕ)) → p ≡ file_path key n → new ≡ old ++ record { name = n; path = p } ∷ [] → left ≡ n ∷ rest
    → old ++ map (stored_at key) left ≡ all → new ++ map (stored_at key) rest ≡ all
stored_more key old new all n p left rest path pushed next so_far =
    ap (λ (fs : List StoredFile). fs ++ map (stored_at key) rest) pushed
    ∙ append_assoc old (record { name = n; path = p } ∷ []) (map (stored_at key) rest)
    ∙ ap (λ (q : List ℕ). old ++ record { name = n; path = q } ∷ map (stored_at key) rest) path
    ∙ ap (λ (ns : List (List ℕ)). old ++ map (stored_at key) ns) (sym next)
    ∙ so_far

-- and no more
pub stored_all : (key : SnapshotKey) (files all : List StoredFile) (left : List (List ℕ)) → left ≡ [] → files ++ map (stored_at key) left ≡ all → files ≡ all
stored_all key files all left none so_far = sym (append-nil files) ∙ ap (λ (ns : List (List ℕ)). files ++ map (stored_at key) ns) (sym none) ∙ so_far
