-- Uploads are looked up, and compared one after another.
use Rattle.std.proofs.Common.{◌≡◌, ℕ, ◌+◌, ◌<◌, Bor, List, [], ◌∷◌, length, drop, get_or, drop-cons, add-one, map, Bool, true, false, ◌||◌, cond, Option, Some, None, refl, sym, ap, ◌∙◌, not, ◌&&◌}
use Rattle.std.specs.Prelude.{option_map}
use Rattle.std.specs.List.{find, filter, list_any}
use Rattle.std.specs.Str.{bytes_eq}
use Rattle.std.proofs.lemmas.Slice.Eq.{bytes_eq-Decides}
use Rattle.store_types.specs.FileNames.{manifest_name}
use Rattle.store_types.specs.declared.names.SnapshotKey.{SnapshotKey}
use Rattle.store_files.specs.Manifest.Fields.{Fact}
use Rattle.store_files.specs.Manifest.Mismatch.{Mismatch, mismatch, key_mismatch, fact_named, listed_mismatch, unlisted_mismatch}
use Rattle.manifest.specs.declared.facts.FileFact.{FileFact}
use Rattle.manifest.specs.declared.facts.Manifest.{Manifest}
use Rattle.manifest.specs.Views.{fact_view}
use Rattle.manifest.specs.Checking.{uploaded, placed, first_mismatch, is_listed, is_unlisted, of_file}
use Rattle.manifest.specs.Least.{lesser}
use Rattle.manifest.proofs.Ordered.{lesser-assoc, named-placed, kept, first_kept, first_kept-placed, in_order-rises, in_order-same, filter-rises, Rises}

-- a list from a place on is the element there, and what is behind it
pub from_place : (files : List FileFact) (i : ℕ) (file : FileFact) → i < length files → file ≡ get_or files i file → drop i files ≡ file ∷ drop (i + 1) files
from_place files i file lt is = drop-cons files i file lt ∙ (λ j. sym is j ∷ drop (sym (add-one i) j) files)

-- ---- by name

both_true : (a b c : List ℕ) → bytes_eq a b ≡ true → bytes_eq a c ≡ true → bytes_eq b c ≡ true
both_true a b c e f = (bytes_eq-Decides b c).1 (sym ((bytes_eq-Decides a b).0 e) ∙ (bytes_eq-Decides a c).0 f)

along : (a b c : List ℕ) → bytes_eq a b ≡ true → bytes_eq b c ≡ true → bytes_eq a c ≡ true
along a b c e f = (bytes_eq-Decides a c).1 ((bytes_eq-Decides a b).0 e ∙ (bytes_eq-Decides b c).0 f)

-- uploads that stand in byte order are taken as they stand
pub uploaded-rising : (uploads : List FileFact) → Rises (map fact_view uploads) → uploaded uploads ≡ filter (λ f. not (bytes_eq f.name manifest_name)) (map fact_view uploads)
uploaded-rising uploads h = in_order-same _ (filter-rises (λ f. not (bytes_eq f.name manifest_name)) (map fact_view uploads) h)

pub uploaded-more : (u : FileFact) (us : List FileFact) → bytes_eq u.name manifest_name ≡ false → uploaded (u ∷ us) ≡ placed (fact_view u) (uploaded us)
uploaded-more u us e = rw e refl

pub uploaded-manifest : (u : FileFact) (us : List FileFact) → bytes_eq u.name manifest_name ≡ true → uploaded (u ∷ us) ≡ uploaded us
uploaded-manifest u us e = rw e refl

pub named-uploaded : (uploads : List FileFact) (name : List ℕ) → bytes_eq name manifest_name ≡ false → fact_named name (uploaded uploads) ≡ option_map fact_view (find (λ f. bytes_eq f.name name) uploads)
named-uploaded [] name other = refl
named-uploaded (u ∷ us) name other = by_tests (bytes_eq u.name manifest_name) (bytes_eq u.name name) refl refl (named-uploaded us name other)
  where
    by_place : bytes_eq u.name manifest_name ≡ false → fact_named name (uploaded (u ∷ us)) ≡ cond (bytes_eq u.name name) (Some (fact_view u)) (fact_named name (uploaded us))
    by_place e = ap (fact_named name) (uploaded-more u us e) ∙ named-placed name (fact_view u) (uploaded us)

    by_tests : (a b : Bool) → bytes_eq u.name manifest_name ≡ a → bytes_eq u.name name ≡ b
        → fact_named name (uploaded us) ≡ option_map fact_view (find (λ f. bytes_eq f.name name) us)
        → fact_named name (uploaded (u ∷ us)) ≡ option_map fact_view (cond b (Some u) (find (λ f. bytes_eq f.name name) us))
    by_tests true true e f others = let same = sym (both_true u.name name manifest_name f e) ∙ other in cc
    by_tests true false e f others = rw e others
    by_tests false true e f others = by_place e ∙ ap (λ b. cond b (Some (fact_view u)) (fact_named name (uploaded us))) f
    by_tests false false e f others = by_place e ∙ ap (λ b. cond b (Some (fact_view u)) (fact_named name (uploaded us))) f ∙ others

pub named-manifest : (uploads : List FileFact) (name : List ℕ) → bytes_eq name manifest_name ≡ true → fact_named name (uploaded uploads) ≡ None
named-manifest [] name is = refl
named-manifest (u ∷ us) name is = by_tests (bytes_eq u.name manifest_name) (bytes_eq u.name name) refl refl (named-manifest us name is)
  where
    by_place : bytes_eq u.name manifest_name ≡ false → fact_named name (uploaded (u ∷ us)) ≡ cond (bytes_eq u.name name) (Some (fact_view u)) (fact_named name (uploaded us))
    by_place e = ap (fact_named name) (uploaded-more u us e) ∙ named-placed name (fact_view u) (uploaded us)

    by_tests : (a b : Bool) → bytes_eq u.name manifest_name ≡ a → bytes_eq u.name name ≡ b → fact_named name (uploaded us) ≡ None → fact_named name (uploaded (u ∷ us)) ≡ None
    by_tests true b e f others = rw e others
    by_tests false true e f others = let same = sym (along u.name name manifest_name f is) ∙ e in cc
    by_tests false false e f others = by_place e ∙ ap (λ b. cond b (Some (fact_view u)) (fact_named name (uploaded us))) f ∙ others

-- ---- uploads that are not listed

any-viewed : (name : List ℕ) (listed : List FileFact) → list_any (λ f. bytes_eq f.name name) (map fact_view listed) ≡ list_any (λ f. bytes_eq f.name name) listed
any-viewed name [] = refl
any-viewed name (f ∷ fs) = ap (λ b. bytes_eq f.name name || b) (any-viewed name fs)

-- the first upload that is not listed
abbrev pub first_name : List FileFact → List FileFact → Option (List ℕ)
first_name listed uploads = first_kept (is_listed listed) (uploaded uploads)

told : (listed : List FileFact) (fs : List Fact) → unlisted_mismatch (map fact_view listed) fs ≡ option_map (λ n. of_file n 5) (first_kept (is_listed listed) fs)
told listed [] = refl
told listed (f ∷ fs) = by_test (is_listed listed f.name) (any-viewed f.name listed) (told listed fs)
  where
    by_test : (b : Bool) → list_any (λ g. bytes_eq g.name f.name) (map fact_view listed) ≡ b
        → unlisted_mismatch (map fact_view listed) fs ≡ option_map (λ n. of_file n 5) (first_kept (is_listed listed) fs)
        → unlisted_mismatch (map fact_view listed) (f ∷ fs) ≡ option_map (λ n. of_file n 5) (cond b (first_kept (is_listed listed) fs) (Some f.name))
    by_test true e others = rw e others
    by_test false e others = rw e refl

pub unlisted-first : (listed uploads : List FileFact) → unlisted_mismatch (map fact_view listed) (uploaded uploads) ≡ option_map (λ n. of_file n 5) (first_name listed uploads)
unlisted-first listed uploads = told listed (uploaded uploads)

module _ (listed : List FileFact) (u : FileFact) (us : List FileFact) (first : Option (List ℕ)) where
  pub first-manifest : bytes_eq u.name manifest_name ≡ true → lesser first (first_name listed us) ≡ lesser first (first_name listed (u ∷ us))
  first-manifest is = ap (λ fs. lesser first (first_kept (is_listed listed) fs)) (sym (uploaded-manifest u us is))

  next : bytes_eq u.name manifest_name ≡ false → first_name listed (u ∷ us) ≡ lesser (kept (is_listed listed) u.name) (first_name listed us)
  next other = ap (first_kept (is_listed listed)) (uploaded-more u us other) ∙ first_kept-placed (is_listed listed) (fact_view u) (uploaded us) (in_order-rises (filter (λ f. not (bytes_eq f.name manifest_name)) (map fact_view us)))

  pub first-listed_too : bytes_eq u.name manifest_name ≡ false → is_listed listed u.name ≡ true → lesser first (first_name listed us) ≡ lesser first (first_name listed (u ∷ us))
  first-listed_too other there = ap (lesser first) (sym (next other ∙ ap (λ b. lesser (cond b None (Some u.name)) (first_name listed us)) there))

  pub first-found : bytes_eq u.name manifest_name ≡ false → is_listed listed u.name ≡ false → lesser (lesser first (Some u.name)) (first_name listed us) ≡ lesser first (first_name listed (u ∷ us))
  first-found other missing =
      sym (lesser-assoc first (Some u.name) (first_name listed us))
      ∙ ap (lesser first) (sym (next other ∙ ap (λ b. lesser (cond b None (Some u.name)) (first_name listed us)) missing))

-- one upload more, by whether it is told
module _ (listed : List FileFact) (u : FileFact) (us : List FileFact) (first : Option (List ℕ)) where
  pub first-passed : is_unlisted listed u.name ≡ false → lesser first (first_name listed us) ≡ lesser first (first_name listed (u ∷ us))
  first-passed e = by_tests (bytes_eq u.name manifest_name) (is_listed listed u.name) refl refl e
    where
      by_tests : (a b : Bool) → bytes_eq u.name manifest_name ≡ a → is_listed listed u.name ≡ b → (not a && not b) ≡ false
          → lesser first (first_name listed us) ≡ lesser first (first_name listed (u ∷ us))
      by_tests true b is there h = first-manifest listed u us first is
      by_tests false true is there h = first-listed_too listed u us first is there
      by_tests false false is there h = cc

  pub first-told : is_unlisted listed u.name ≡ true → lesser (lesser first (Some u.name)) (first_name listed us) ≡ lesser first (first_name listed (u ∷ us))
  first-told e = by_tests (bytes_eq u.name manifest_name) (is_listed listed u.name) refl refl e
    where
      by_tests : (a b : Bool) → bytes_eq u.name manifest_name ≡ a → is_listed listed u.name ≡ b → (not a && not b) ≡ true
          → lesser (lesser first (Some u.name)) (first_name listed us) ≡ lesser first (first_name listed (u ∷ us))
      by_tests true b is there h = cc
      by_tests false true is there h = cc
      by_tests false false is there h = first-found listed u us first is there

-- ---- the first mismatch

module _ (m : Manifest) (key : SnapshotKey) (uploads : List FileFact) where
  pub first-key : (e : Mismatch) → key_mismatch m.key key ≡ Some e → first_mismatch m key uploads ≡ Some e
  unfolding mismatch
  first-key e h = rw h refl

  module _ (same : key_mismatch m.key key ≡ None) where
    pub first-listed : (e : Mismatch) → listed_mismatch (map fact_view m.files) (uploaded uploads) ≡ Some e → first_mismatch m key uploads ≡ Some e
    unfolding mismatch
    first-listed e h = rw (same, h) refl

    pub first-unlisted : listed_mismatch (map fact_view m.files) (uploaded uploads) ≡ None → first_mismatch m key uploads ≡ unlisted_mismatch (map fact_view m.files) (uploaded uploads)
    unfolding mismatch
    first-unlisted h = rw (same, h) refl

-- ---- what a search found

pub viewed-found : (o : Option (Bor FileFact)) → option_map (λ u. fact_view u.now) o ≡ option_map fact_view (option_map (λ u. u.now) o)
viewed-found None = refl
viewed-found (Some u) = refl

pub viewed-name : (o : Option (Bor (List ℕ))) → option_map (λ n. of_file n.now 5) o ≡ option_map (λ n. of_file n 5) (option_map (λ n. n.now) o)
viewed-name None = refl
viewed-name (Some n) = refl
