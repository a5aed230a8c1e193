-- What stands among a map's entries, and what a list's elements give.
use Rattle.std.proofs.Common.{◌≡◌, ◌≢◌, ⊎_elim, ℕ, Bool, true, false, cond, List, [], ◌∷◌, map, Option, Some, None, refl, sym, ap, subst, ◌∙◌}
use Rattle.std.specs.FinMap.{get, find, entries, entries_sorted, get-entries}
use Rattle.std.specs.List.{AllPairs, Contains, cons_option, filter_map}
use Rattle.std.specs.Ordering.{eq_by_cmp}
use Rattle.std.proofs.lemmas.List.Elements.{All-contains}
use Rattle.std.proofs.lemmas.Map.Text.{is_eq-slice_cmp}
use Rattle.std.proofs.lemmas.Slice.Eq.{bytes_eq-Decides}
use Rattle.disk_trait.specs.Laws.{other_name}
use Rattle.store_types.specs.Names.{text_cmp}
use Rattle.store_files.specs.Folder.{Files}
use Rattle.store_model.proofs.Finding.{some_same}
use Rattle.store_model.proofs.Insertions.{Contains-here, Contains-later, Contains-cases}
use Rattle.snapshot_files.proofs.Listing.{Differ, names_of, entries_differ, pairs_head, pairs_tail}
use Rattle.snapshot_files.proofs.Rising.{not_member}

-- ---- what a list's elements give

module _ {A B : Type 0} (f : A → B) where
  pub contains_map : (xs : List A) (x : A) → Contains xs x → Contains (map f xs) (f x)
  contains_map [] x h = absurd (not_member x h)
  contains_map (y ∷ ys) x h =
      ⊎_elim
      (λ (e : y ≡ x). subst (Contains (f y ∷ map f ys)) (ap f e) (Contains-here (f y) (map f ys)))
      (λ (c : Contains ys x). Contains-later (f y) (map f ys) (f x) (contains_map ys x c))
      (Contains-cases y ys x h)

-- an element that gives this
pub record IsGiven {A B : Type 0} (f : A → B) (xs : List A) (y : B) : Type 0 where
  pub from : A
  pub among : Contains xs from
  pub gives : f from ≡ y

module _ {A B : Type 0} (f : A → B) where
  pub given_later : (x : A) (xs : List A) (y : B) → IsGiven f xs y → IsGiven f (x ∷ xs) y
  given_later x xs y r = record { from = r.from; among = Contains-later x xs r.from r.among; gives = r.gives }

  pub map_contains : (xs : List A) (y : B) → Contains (map f xs) y → IsGiven f xs y
  map_contains [] y h = absurd (not_member y h)
  map_contains (x ∷ xs) y h =
      ⊎_elim
      (λ (e : f x ≡ y). let here : IsGiven f (x ∷ xs) y = record { from = x; among = Contains-here x xs; gives = e } in here)
      (λ (c : Contains (map f xs) y). given_later x xs y (map_contains xs y c))
      (Contains-cases (f x) (map f xs) y h)

later_by : {B : Type 0} (o : Option B) (ys : List B) (y : B) → Contains ys y → Contains (cons_option o ys) y
later_by None ys y c = c
later_by (Some z) ys y c = Contains-later z ys y c

module _ {A B : Type 0} (f : A → Option B) where
  pub contains_given : (xs : List A) (x : A) (y : B) → f x ≡ Some y → Contains xs x → Contains (filter_map f xs) y
  contains_given [] x y is h = absurd (not_member x h)
  contains_given (z ∷ zs) x y is h =
      ⊎_elim
      (λ (e : z ≡ x). subst (λ (o : Option B). Contains (cons_option o (filter_map f zs)) y) (sym (ap f e ∙ is)) (Contains-here y (filter_map f zs)))
      (λ (c : Contains zs x). later_by (f z) (filter_map f zs) y (contains_given zs x y is c))
      (Contains-cases z zs x h)

  pub given_contains : (xs : List A) (y : B) → Contains (filter_map f xs) y → IsGiven f xs (Some y)
  given_contains [] y h = absurd (not_member y h)
  given_contains (x ∷ xs) y h = by_case (f x) refl h (given_contains xs y)
    where
      by_case : (o : Option B) → f x ≡ o → Contains (cons_option o (filter_map f xs)) y → (Contains (filter_map f xs) y → IsGiven f xs (Some y)) → IsGiven f (x ∷ xs) (Some y)
      by_case None e h go = given_later f x xs (Some y) (go h)
      by_case (Some z) e h go =
          ⊎_elim
          (λ (same : z ≡ y). let here : IsGiven f (x ∷ xs) (Some y) = record { from = x; among = Contains-here x xs; gives = e ∙ ap (λ v. Some v) same } in here)
          (λ (c : Contains (filter_map f xs) y). given_later f x xs (Some y) (go c))
          (Contains-cases z (filter_map f xs) y h)

-- ---- a map's entries

same_text : (a b : List ℕ) → eq_by_cmp text_cmp a b ≡ true → a ≡ b
same_text a b e = (bytes_eq-Decides a b).0 (sym (is_eq-slice_cmp a b) ∙ e)

itself : (a : List ℕ) → eq_by_cmp text_cmp a a ≡ true
itself a = is_eq-slice_cmp a a ∙ (bytes_eq-Decides a a).1 refl

find_contains : (es : List (List ℕ × List ℕ)) (q v : List ℕ) → find text_cmp q es ≡ Some v → Contains es (q, v)
find_contains [] q v e = cc
find_contains (x ∷ es) q v e = by_test (eq_by_cmp text_cmp q x.0) refl e (find_contains es q v)
  where
    by_test : (b : Bool) → eq_by_cmp text_cmp q x.0 ≡ b → cond b (Some x.1) (find text_cmp q es) ≡ Some v → (find text_cmp q es ≡ Some v → Contains es (q, v)) → Contains (x ∷ es) (q, v)
    by_test true is e go =
        let name : q ≡ x.0 = same_text q x.0 is in
        let text : x.1 ≡ v = some_same x.1 v e in
        subst (λ y. Contains (x ∷ es) y) (ap (λ n. (n, x.1)) (sym name) ∙ ap (λ t. (q, t)) text) (Contains-here x es)
    by_test false is e go = Contains-later x es (q, v) (go e)

-- an entry whose name stands once is the one that is found
contains_find : (es : List (List ℕ × List ℕ)) (q v : List ℕ) → AllPairs Differ (names_of es) → Contains es (q, v) → find text_cmp q es ≡ Some v
contains_find [] q v once h = absurd (not_member (q, v) h)
contains_find (x ∷ es) q v once h =
    ⊎_elim
    (λ (e : x ≡ (q, v)). subst (λ (y : List ℕ × List ℕ). find text_cmp q (y ∷ es) ≡ Some v) (sym e) (ap (λ b. cond b (Some v) (find text_cmp q es)) (itself q)))
    (λ (c : Contains es (q, v)). past c (contains_find es q v (pairs_tail Differ x.0 (names_of es) once) c))
    (Contains-cases x es (q, v) h)
  where
    past : Contains es (q, v) → find text_cmp q es ≡ Some v → find text_cmp q (x ∷ es) ≡ Some v
    past c later =
        let named : Contains (names_of es) q = contains_map (λ (e : List ℕ × List ℕ). e.0) es (q, v) c in
        let other : x.0 ≢ q = All-contains (Differ x.0) (names_of es) q (pairs_head Differ x.0 (names_of es) once) named in
        ap (λ b. cond b (Some x.1) (find text_cmp q es)) (is_eq-slice_cmp q x.0 ∙ other_name q x.0 (λ e. other (sym e))) ∙ later

-- what stands at a name is an entry, and an entry stands there
pub entry_there : (m : Files) (q v : List ℕ) → get m q ≡ Some v → Contains (entries m) (q, v)
entry_there m q v e = find_contains (entries m) q v (sym (get-entries m q) ∙ e)

pub entry_read : (m : Files) (q v : List ℕ) → Contains (entries m) (q, v) → get m q ≡ Some v
entry_read m q v h = get-entries m q ∙ contains_find (entries m) q v (entries_differ (entries m) (entries_sorted m)) h
