-- What a manifest is to list of files in byte order.
use Rattle.std.proofs.Common.{◌≡◌, ℕ, ◌+◌, ◌<◌, ◌++◌, take, Bool, true, false, not, cond, List, [], ◌∷◌, length, map, get_or, refl, sym, ap, subst, ◌∙◌}
use Rattle.std.specs.List.{filter}
use Rattle.std.specs.Str.{bytes_eq}
use Rattle.std.proofs.lemmas.Bool.{and_parts}
use Rattle.std.proofs.lemmas.List.{map_push, take_more}
use Rattle.store_types.specs.FileNames.{manifest_name}
use Rattle.store_types.specs.Names.{name_lt}
use Rattle.store_files.specs.Archive.{File}
use Rattle.store_files.specs.Manifest.Fields.{Fact}
use Rattle.manifest.specs.declared.facts.FileFact.{FileFact}
use Rattle.manifest.specs.Views.{fact_view}
use Rattle.manifest.specs.Checking.{uploaded}
use Rattle.manifest.proofs.Ordered.{AllFrom, Rises, not_less}
use Rattle.manifest.proofs.Uploads.{uploaded-rising}
use Rattle.store_model.specs.Manifests.{fact_of, beside_manifest}
use Rattle.plain_sessions.specs.Uploading.{names_stand}
use Rattle.plain_sessions.proofs.Standing.{stands_from, stands_from_is, stand-tail}

-- ---- what is to be listed

is_false : (b : Bool) → not b ≡ true → b ≡ false
is_false true h = cc
is_false false h = refl

from_less : (m n : List ℕ) (gs : List Fact) → name_lt n m ≡ false → AllFrom n gs → AllFrom m gs
from_less m n [] e h = tt
from_less m n (g ∷ gs) e h = (not_less m n g.name e h.0, from_less m n gs e h.1)

all_from : (m : List ℕ) (fs : List File) → stands_from m fs ≡ true → AllFrom m (map fact_of fs)
all_from m [] h = tt
all_from m (f ∷ fs) h =
    let both = and_parts (not (name_lt f.name m)) (names_stand (f ∷ fs)) h in
    let here = is_false (name_lt f.name m) both.0 in
    (here, from_less m f.name (map fact_of fs) here (all_from f.name fs (sym (stands_from_is f fs) ∙ both.1)))

facts_rise : (fs : List File) → names_stand fs ≡ true → Rises (map fact_of fs)
facts_rise [] h = tt
facts_rise (f ∷ fs) h = (all_from f.name fs (sym (stands_from_is f fs) ∙ h), facts_rise fs (stand-tail f fs h))

beside : (fs : List File) → filter (λ f. not (bytes_eq f.name manifest_name)) (map fact_of fs) ≡ map fact_of (beside_manifest fs)
beside [] = refl
beside (f ∷ fs) = by_test (not (bytes_eq f.name manifest_name)) (beside fs)
  where
    by_test : (b : Bool) → filter (λ g. not (bytes_eq g.name manifest_name)) (map fact_of fs) ≡ map fact_of (beside_manifest fs)
        → cond b (fact_of f ∷ filter (λ g. not (bytes_eq g.name manifest_name)) (map fact_of fs)) (filter (λ g. not (bytes_eq g.name manifest_name)) (map fact_of fs))
        ≡ map fact_of (cond b (f ∷ beside_manifest fs) (beside_manifest fs))
    by_test true go = ap (λ l. fact_of f ∷ l) go
    by_test false go = go

-- uploads of files in byte order are taken as they stand
pub uploads_are : (facts : List FileFact) (fs : List File) → map fact_view facts ≡ map fact_of fs → names_stand fs ≡ true → uploaded facts ≡ map fact_of (beside_manifest fs)
uploads_are facts fs e h =
    uploaded-rising facts (subst Rises (sym e) (facts_rise fs h)) ∙ ap (filter (λ f. not (bytes_eq f.name manifest_name))) e ∙ beside fs

-- ---- facts, file by file

pub facts_more : (facts : List FileFact) (files : List File) (i : ℕ) (fact : FileFact) (file : File) (after : List FileFact) → i < length files → file ≡ get_or files i file
    → map fact_view facts ≡ map fact_of (take i files) → fact_view fact ≡ fact_of file → after ≡ facts ++ fact ∷ [] → map fact_view after ≡ map fact_of (take (i + 1) files)
facts_more facts files i fact file after below is so_far same pushed =
    ap (map fact_view) pushed ∙ map_push fact_view facts fact ∙ ap (λ l. l ++ fact_view fact ∷ []) so_far ∙ ap (λ f. map fact_of (take i files) ++ f ∷ []) same
    ∙ sym (ap (map fact_of) (take_more files i file below ∙ ap (λ f. take i files ++ f ∷ []) (sym is)) ∙ map_push fact_of (take i files) file)
