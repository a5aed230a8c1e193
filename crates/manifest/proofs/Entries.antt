-- One entry is read, and its name joins those before.
use Rattle.std.proofs.Common.{◌≡◌, ℕ, List, [], ◌∷◌, Bool, true, false, not, ◌||◌, cond, Some, Ok, Err, refl, sym, ap, ◌∙◌}
use Rattle.std.specs.Prelude.{codes}
use Rattle.std.specs.BTreeSet.{BTreeSet, contains, Updates}
use Rattle.std.specs.List.{list_any}
use Rattle.std.specs.Str.{bytes_eq}
use Rattle.std.proofs.lemmas.Map.Text.{is_eq-slice_cmp}
use Rattle.std.proofs.lemmas.Slice.Eq.{bytes_eq-Decides}
use Rattle.serde_json.specs.Data.{Data}
use Rattle.serde_json.specs.Find.{get}
use Rattle.store_types.specs.Names.{text_cmp}
use Rattle.store_files.specs.Manifest.Fields.{Fact, fact_in, is_plain}
use Rattle.store_files.specs.Manifest.{listed_twice}
use Rattle.manifest.specs.Reading.{HasNames, entry_in}

module _ (before : List (List ℕ)) (d : Data) where
  pub entry-twice : (f : Fact) → fact_in d ≡ Some f → is_plain (get (codes "crypt-mode") d) ≡ true → list_any (bytes_eq f.name) before ≡ true → entry_in before d ≡ Err listed_twice
  entry-twice f h plain again = rw (h, plain, again) refl

  pub entry-new : (f : Fact) → fact_in d ≡ Some f → is_plain (get (codes "crypt-mode") d) ≡ true → list_any (bytes_eq f.name) before ≡ false → entry_in before d ≡ Ok f
  entry-new f h plain new = rw (h, plain, new) refl

-- ---- names

same_either_way : (a b : List ℕ) → bytes_eq a b ≡ bytes_eq b a
same_either_way a b = by_test (bytes_eq a b) (bytes_eq b a) refl refl
  where
    by_test : (p q : Bool) → bytes_eq a b ≡ p → bytes_eq b a ≡ q → p ≡ q
    by_test true true e f = refl
    by_test true false e f = sym ((bytes_eq-Decides b a).1 (sym ((bytes_eq-Decides a b).0 e))) ∙ f
    by_test false true e f = sym e ∙ (bytes_eq-Decides a b).1 (sym ((bytes_eq-Decides b a).0 f))
    by_test false false e f = refl

chosen : (b c d : Bool) → b ≡ c → cond b true d ≡ (c || d)
chosen true true d e = refl
chosen true false d e = cc
chosen false true d e = cc
chosen false false d e = refl

pub names-inserted : (s n : BTreeSet (List ℕ)) (name : List ℕ) (names : List (List ℕ)) → HasNames s names → Updates text_cmp s n name true → HasNames n (name ∷ names)
unfolding HasNames
names-inserted s n name names has updates = λ q.
    updates.0 q ∙ chosen _ _ (contains text_cmp s q) (is_eq-slice_cmp name q ∙ same_either_way name q) ∙ ap (λ b. bytes_eq q name || b) (has q)

pub names-none : (s : BTreeSet (List ℕ)) → s.keys ≡ [] → HasNames s []
unfolding HasNames
names-none s e = λ q. rw e refl

pub names-listed : (s : BTreeSet (List ℕ)) (name : List ℕ) (names : List (List ℕ)) (added : Bool) → HasNames s names → added ≡ not (contains text_cmp s name) → list_any (bytes_eq name) names ≡ not added
unfolding HasNames
names-listed s name names added has e = sym (has name) ∙ twice (contains text_cmp s name) added e
  where
    twice : (b a : Bool) → a ≡ not b → b ≡ not a
    twice true true e = e
    twice true false e = refl
    twice false true e = refl
    twice false false e = e
