-- Which names stand in a set, in a list and in a map.
use Rattle.std.proofs.Common.{◌≡◌, ◌⊎◌, inl, inr, ⊎_elim, ℕ, Bool, true, false, cond, eqb, filter, List, [], ◌∷◌, ◌++◌, is_some, refl, sym, ap, subst, ◌∙◌, arith}
use Rattle.std.specs.Prelude.{codes, String, string_bytes}
use Rattle.std.specs.Cmp.Lexicographic.{slice_cmp}
use Rattle.std.specs.List.{Contains, list_any, starts_with, ends_with}
use Rattle.std.specs.Ordering.{is_eq, nat_cmp}
use Rattle.std.specs.FinMap.{get, keys, contains_key-keys}
use Rattle.std.specs.BTreeSet.{BTreeSet, contains_text}
use Rattle.std.specs.Str.{bytes_eq}
use Rattle.std.specs.declared.alloc.Global.{Global}
use Rattle.std.proofs.lemmas.Bool.Decides.{Decides-eqb}
use Rattle.std.proofs.lemmas.List.Elements.{Contains-append_left, Contains-append_right, Contains-push_cases}
use Rattle.std.proofs.lemmas.Slice.Eq.{bytes_eq-Decides, ends_is}
use Rattle.store_types.specs.FileNames.{manifest_name}
use Rattle.store_types.specs.Names.{key_text}
use Rattle.store_files.specs.Folder.{Files, manifest_path}
use Rattle.store_model.proofs.Insertions.{Contains-here}
use Rattle.snapshot_files.proofs.Listing.{any_has, has_any}
use Rattle.snapshot_files.specs.Removed.{HasManifests}
use Rattle.snapshot_files.proofs.Slashes.{path_is}

abbrev Texts : Type 0
Texts = List (List ℕ)

-- something stands at each of a map's names, and at no other
pub there_is : (m : Files) (q : List ℕ) → is_some (get m q) ≡ true → Contains (keys m) q
there_is m q some = any_has q (keys m) (sym (contains_key-keys m q) ∙ some)

pub is_there : (m : Files) (q : List ℕ) → Contains (keys m) q → is_some (get m q) ≡ true
is_there m q has = contains_key-keys m q ∙ has_any q (keys m) has

-- ---- the manifests' names among them

abbrev pub ending : List ℕ
ending = codes "/index.json.blob"

-- the set has those of the names that end as a manifest's does
pub record IsAmong (manifests : BTreeSet (String Global)) (names : Texts) : Type 0 where
  pub sound : (q : List ℕ) → contains_text manifests q ≡ true → Contains names q
  pub full : (front : List ℕ) → Contains names (front ++ ending) → contains_text manifests (front ++ ending) ≡ true

-- one name more, that is taken in
pub among_more : (old new : BTreeSet (String Global)) (names : Texts) (n : List ℕ)
    → ((q : List ℕ) → contains_text new q ≡ cond (bytes_eq n q) true (contains_text old q)) → IsAmong old names → IsAmong new (names ++ n ∷ [])
among_more old new names n updates is = record {
  sound = λ q has. by_name q (bytes_eq n q) refl (sym (updates q) ∙ has);
  full = λ front has. updates (front ++ ending) ∙ at (front ++ ending) (Contains-push_cases names n (front ++ ending) has) (is.full front);
}
  where
    by_name : (q : List ℕ) (t : Bool) → bytes_eq n q ≡ t → cond t true (contains_text old q) ≡ true → Contains (names ++ n ∷ []) q
    by_name q true e has = Contains-append_right names (n ∷ []) q (subst (Contains (n ∷ [])) ((bytes_eq-Decides n q).0 e) (Contains-here n []))
    by_name q false e has = Contains-append_left names (n ∷ []) q (is.sound q has)

    true_or : (t b : Bool) → b ≡ true → cond t true b ≡ true
    true_or true b e = refl
    true_or false b e = e

    at : (q : List ℕ) → Contains names q ⊎ (n ≡ q) → (Contains names q → contains_text old q ≡ true) → cond (bytes_eq n q) true (contains_text old q) ≡ true
    at q (inl has) was = true_or (bytes_eq n q) (contains_text old q) (was has)
    at q (inr e) was = ap (λ t. cond t true (contains_text old q)) ((bytes_eq-Decides n q).1 e)

-- one that ends otherwise
pub among_other : (old : BTreeSet (String Global)) (names : Texts) (n : List ℕ) → ((front : List ℕ) → n ≡ front ++ ending → ⊥) → IsAmong old names → IsAmong old (names ++ n ∷ [])
among_other old names n other is = record {
  sound = λ q has. Contains-append_left names (n ∷ []) q (is.sound q has);
  full = λ front has.
      ⊎_elim (λ (was : Contains names (front ++ ending)). is.full front was) (λ (e : n ≡ front ++ ending). absurd (other front e)) (Contains-push_cases names n (front ++ ending) has);
}

not_both : false ≡ true → ⊥
not_both e = cc

-- by the test of its end
pub ends_otherwise : (n : List ℕ) → false ≡ ends_with eqb n ending → (front : List ℕ) → n ≡ front ++ ending → ⊥
ends_otherwise n other front e = not_both (other ∙ (ends_is Decides-eqb n ending (ends_with eqb n ending) refl).1 front e)

bool_same : (a b : Bool) → (a ≡ true → b ≡ true) → (b ≡ true → a ≡ true) → a ≡ b
bool_same true b f g = sym (f refl)
bool_same false true f g = g refl
bool_same false false f g = refl

pub has_manifests : (manifests : BTreeSet (String Global)) (names : Texts) (read : Files) → names ≡ keys read → IsAmong manifests names → HasManifests manifests read
has_manifests manifests names read are is key grammar =
    let at : manifest_path key ≡ key_text key ++ ending = path_is key manifest_name in
    bool_same (contains_text manifests (manifest_path key)) (is_some (get read (manifest_path key)))
    (λ has. is_there read (manifest_path key) (subst (λ (ns : Texts). Contains ns (manifest_path key)) are (is.sound (manifest_path key) has)))
    (λ some. subst (λ (q : List ℕ). contains_text manifests q ≡ true) (sym at)
    (is.full (key_text key) (subst (Contains names) at (subst (λ (ns : Texts). Contains ns (manifest_path key)) (sym are) (there_is read (manifest_path key) some)))))

-- before the first name
pub among_none : (manifests : BTreeSet (String Global)) → manifests.keys ≡ [] → IsAmong manifests []
among_none manifests e = record {
  sound = λ q has.
      let no : contains_text manifests q ≡ false = ap (list_any (λ k. is_eq (slice_cmp nat_cmp q (string_bytes k)))) e in
      absurd (not_both (sym no ∙ has));
  full = λ front has. absurd (omega (arith, has.1));
}

-- each name begins with nothing
pub all_begin : (names : Texts) → filter (λ name. starts_with eqb name []) names ≡ names
all_begin [] = refl
all_begin (n ∷ ns) = ap (λ (l : Texts). n ∷ l) (all_begin ns)
