-- The files that a manifest lists, one by one.
use Rattle.std.proofs.Common.{◌≡◌, ℕ, ◌+◌, ◌<◌, List, [], ◌∷◌, ◌++◌, map, length, get_or, Option, Some, None, take, refl, sym, ap, ◌∙◌, append-nil}
use Rattle.std.specs.List.{filter_map, cons_option}
use Rattle.std.proofs.lemmas.List.{take_more}
use Rattle.std.proofs.lemmas.List.Elements.{filter_map-append}
use Rattle.store_files.specs.Archive.{File}

module _ (listed : List File) (o : Option File) where
  pub not_found : o ≡ None → listed ≡ listed ++ cons_option o []
  not_found none = sym (append-nil listed) ∙ ap (λ q. listed ++ cons_option q []) (sym none)

  pub found_one : (new : List File) (f copy : File) → o ≡ Some f → copy ≡ f → new ≡ listed ++ copy ∷ [] → new ≡ listed ++ cons_option o []
  found_one new f copy there same pushed = pushed ∙ ap (λ (g : File). listed ++ g ∷ []) same ∙ ap (λ q. listed ++ cons_option q []) (sym there)

-- by one more name
pub found_more : {A B : Type 0} (found : A → Option B) (xs : List A) (i : ℕ) (x : A) (listed new : List B) → i < length xs → x ≡ get_or xs i x
    → listed ≡ filter_map found (take i xs) → new ≡ listed ++ cons_option (found x) [] → new ≡ filter_map found (take (i + 1) xs)
found_more found xs i x listed new below is so_far pushed =
    pushed ∙ ap (λ l. l ++ cons_option (found x) []) so_far ∙ sym (filter_map-append found (take i xs) (x ∷ []))
    ∙ sym (ap (filter_map found) (take_more xs i x below ∙ ap (λ y. take i xs ++ y ∷ []) (sym is)))

-- by what the facts mean
pub facts_found : {A B C : Type 0} (found : B → Option C) (view : A → B) (xs : List A) → filter_map (λ x. found (view x)) xs ≡ filter_map found (map view xs)
facts_found found view [] = refl
facts_found found view (x ∷ xs) = ap (cons_option (found (view x))) (facts_found found view xs)
