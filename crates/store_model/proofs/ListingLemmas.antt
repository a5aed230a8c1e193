-- What a manifest says that lists a snapshot's files.
use Rattle.std.proofs.Common.{◌≡◌, ◌≢◌, ◌≤◌, ℕ, ◌+◌, Bool, true, false, not, ◌&&◌, ◌||◌, cond, map, length, get_or, List, [], ◌∷◌, Option, Some, None, Result, Ok, Err, refl, sym, ap, subst, ◌∙◌, arith}
use Rattle.std.specs.Prelude.{codes, filter, is_some}
use Rattle.std.specs.Option.{option_or}
use Rattle.std.specs.List.{All, AllPairs, Contains, list_any}
use Rattle.std.specs.Str.{bytes_eq}
use Rattle.std.proofs.lemmas.Bool.{or_parts}
use Rattle.std.proofs.lemmas.List.Elements.{All-nil, All-cons, All-weaker, Contains-get_or, Contains-append_right}
use Rattle.std.proofs.lemmas.List.Folds.{list_any_at}
use Rattle.std.proofs.lemmas.List.Kept.{AllPairs-cons}
use Rattle.std.proofs.lemmas.List.{length-map}
use Rattle.std.proofs.lemmas.Slice.Eq.{bytes_eq-Decides}
use Rattle.serde_json.specs.Data.{Data, Items, no_items, item}
use Rattle.serde_json.specs.Find.{get}
use Rattle.store_types.specs.declared.names.SnapshotKey.{SnapshotKey}
use Rattle.store_types.specs.declared.refusal.Refusal.{Refusal}
use Rattle.store_types.specs.declared.refusal.Refusal.TheVariants.{NoFile, BadManifest}
use Rattle.store_types.specs.Chain.Refusing.{◌>>=◌, unless, or_else, if_none}
use Rattle.store_types.specs.FileNames.{manifest_name}
use Rattle.store_files.specs.Archive.{File, file_named}
use Rattle.store_files.specs.Manifest.{Manifest, manifest_of, files_in, json_of, bad_file, bad_crypt, bad_json, bad_field, listed_twice}
use Rattle.store_files.specs.Manifest.Fields.{Fact, fact_in, is_plain, key_in, list_in}
use Rattle.store_files.specs.Manifest.Mismatch.{Mismatch, mismatch, key_mismatch, listed_mismatch, unlisted_mismatch, upload_mismatch, fact_named}
use Rattle.store_model.specs.Manifests.{fact_of, beside_manifest, data_in, manifest_data, listed_names, ListsFiles, want_manifest, want_listed, mismatch_refusal, listing_of}

-- ---- names in lists

abbrev has : List ℕ → List (List ℕ) → Bool
has name names = list_any (λ n. bytes_eq n name) names

has_map : {A : Type 0} (name_of : A → List ℕ) (name : List ℕ) (xs : List A) → has name (map name_of xs) ≡ list_any (λ x. bytes_eq (name_of x) name) xs
has_map name_of name [] = refl
has_map name_of name (x ∷ xs) = ap (λ b. bytes_eq (name_of x) name || b) (has_map name_of name xs)

split : (a b : Bool) → (a && b) ≡ true → (a ≡ true) × (b ≡ true)
split true true e = (refl, refl)
split true false e = cc
split false b e = cc

-- ---- how many names of a list aren't among others

-- the names that aren't among these
abbrev rest : List (List ℕ) → List (List ℕ) → List (List ℕ)
rest before names = filter (λ n. not (list_any (bytes_eq n) before)) names

abbrev kept : Bool → List ℕ → List (List ℕ) → List (List ℕ)
kept b n ns = cond (not b) (n ∷ ns) ns

no_more : (a b : Bool) (n : List ℕ) (ms ns : List (List ℕ)) → length ms ≤ length ns → length (kept (a || b) n ms) ≤ length (kept b n ns)
no_more true true n ms ns h = h
no_more true false n ms ns h = omega (arith, h)
no_more false true n ms ns h = h
no_more false false n ms ns h = omega (arith, h)

-- no more are left where one more is taken out
fewer : (before names : List (List ℕ)) (name : List ℕ) → length (rest (name ∷ before) names) ≤ length (rest before names)
fewer before [] name = omega arith
fewer before (n ∷ ns) name = no_more (bytes_eq n name) (list_any (bytes_eq n) before) n (rest (name ∷ before) ns) (rest before ns) (fewer before ns name)

one_less : (a b : Bool) (n : List ℕ) (ms ns : List (List ℕ)) → (a ≡ true → b ≡ false) → (a ≡ true → length ms ≤ length ns) → (a ≡ false → length ms + 1 ≤ length ns)
    → length (kept (a || b) n ms) + 1 ≤ length (kept b n ns)
one_less true true n ms ns new same less = let no = new refl in cc
one_less true false n ms ns new same less = omega (arith, same refl)
one_less false true n ms ns new same less = less refl
one_less false false n ms ns new same less = omega (arith, less refl)

same_name : (before : List (List ℕ)) (n name : List ℕ) → list_any (bytes_eq name) before ≡ false → bytes_eq n name ≡ true → list_any (bytes_eq n) before ≡ false
same_name before n name new e = subst (λ (x : List ℕ). list_any (bytes_eq x) before ≡ false) (sym ((bytes_eq-Decides n name).0 e)) new

-- a name of the list that isn't taken out yet
taken : (before names : List (List ℕ)) (name : List ℕ) → list_any (bytes_eq name) before ≡ false → has name names ≡ true
    → length (rest (name ∷ before) names) + 1 ≤ length (rest before names)
taken before [] name new there = cc
taken before (n ∷ ns) name new there =
    one_less (bytes_eq n name) (list_any (bytes_eq n) before) n (rest (name ∷ before) ns) (rest before ns)
    (same_name before n name new) (λ _. fewer before ns name)
    (λ e. taken before ns name new (sym (ap (λ b. b || has name ns) e) ∙ there))

-- ---- what is listed is distinct, and fits among names

-- each fact's name is among these
abbrev all_in : List Fact → List (List ℕ) → Bool
all_in [] names = true
all_in (f ∷ fs) names = has f.name names && all_in fs names

-- the facts that begin with one, or the cause of the others
abbrev with_others : Fact → Result (List Fact) ℕ → Result (List Fact) ℕ
with_others f r = r >>= (λ others. Ok (f ∷ others))

abbrev listed_so : Option Fact → Bool → (Fact → Bool) → (Fact → Result (List Fact) ℕ) → Result (List Fact) ℕ
listed_so o plain again more = or_else bad_file o >>= (λ f. unless bad_crypt plain >>= (λ _. unless listed_twice (not (again f)) >>= (λ _. with_others f (more f))))

-- where there are facts, one came first and others behind it
record Begins (o : Option Fact) (again : Fact → Bool) (more : Fact → Result (List Fact) ℕ) (facts : List Fact) : Type 0 where
  first : Fact
  others : List Fact
  new : again first ≡ false
  behind : more first ≡ Ok others
  all : first ∷ others ≡ facts

begins_more : (o : Option Fact) (again : Fact → Bool) (more : Fact → Result (List Fact) ℕ) (facts : List Fact) (f : Fact) (r : Result (List Fact) ℕ)
    → again f ≡ false → more f ≡ r → with_others f r ≡ Ok facts → Begins o again more facts
begins_more o again more facts f (Err e) new m is = cc
begins_more o again more facts f (Ok others) new m is = record { first = f; others = others; new = new; behind = m; all = cc }

begins_new : (o : Option Fact) (again : Fact → Bool) (more : Fact → Result (List Fact) ℕ) (facts : List Fact) (f : Fact) (b : Bool)
    → again f ≡ b → (unless listed_twice (not b) >>= (λ _. with_others f (more f))) ≡ Ok facts → Begins o again more facts
begins_new o again more facts f true e is = cc
begins_new o again more facts f false e is = begins_more o again more facts f (more f) e refl is

begins : (o : Option Fact) (plain : Bool) (again : Fact → Bool) (more : Fact → Result (List Fact) ℕ) (facts : List Fact) → listed_so o plain again more ≡ Ok facts → Begins o again more facts
begins None plain again more facts is = cc
begins (Some f) false again more facts is = cc
begins (Some f) true again more facts is = begins_new (Some f) again more facts f (again f) refl is

fits : (names before : List (List ℕ)) (ds : Items) (facts : List Fact) → files_in before ds ≡ Ok facts → all_in facts names ≡ true → length facts ≤ length (rest before names)
unfolding files_in
fits names before no_items facts read among = let e : [] ≡ facts = cc in subst (λ (l : List Fact). length l ≤ length (rest before names)) e (omega arith)
fits names before (item d ds) facts read among =
    let b = begins (fact_in d) (is_plain (get (codes "crypt-mode") d)) (λ f. list_any (bytes_eq f.name) before) (λ f. files_in (f.name ∷ before) ds) facts read in
    let parts = split (has (b.first).name names) (all_in b.others names) (ap (λ l. all_in l names) b.all ∙ among) in
    let some : length b.others ≤ length (rest ((b.first).name ∷ before) names) = fits names ((b.first).name ∷ before) ds b.others b.behind parts.1 in
    let one = taken before names (b.first).name b.new parts.0 in
    subst (λ (l : List Fact). length l ≤ length (rest before names)) b.all (omega (arith, some, one))

-- ---- names without the manifest's

abbrev other_names : List (List ℕ) → List (List ℕ)
other_names names = filter (λ n. not (bytes_eq n manifest_name)) names

-- a name that isn't the manifest's is among the others exactly where it is among all
others_have : (name : List ℕ) (names : List (List ℕ)) → bytes_eq manifest_name name ≡ false → has name (other_names names) ≡ has name names
others_have name [] e = refl
others_have name (n ∷ ns) e = by_test (bytes_eq n manifest_name) refl (others_have name ns e)
  where
    other : bytes_eq n manifest_name ≡ true → bytes_eq n name ≡ false
    other is = subst (λ (x : List ℕ). bytes_eq x name ≡ false) (sym ((bytes_eq-Decides n manifest_name).0 is)) e

    by_test : (b : Bool) → bytes_eq n manifest_name ≡ b → has name (other_names ns) ≡ has name ns → has name (other_names (n ∷ ns)) ≡ has name (n ∷ ns)
    by_test true is left = ap (λ b. has name (cond (not b) (n ∷ other_names ns) (other_names ns))) is ∙ left ∙ ap (λ b. b || has name ns) (sym (other is))
    by_test false is left = ap (λ b. has name (cond (not b) (n ∷ other_names ns) (other_names ns))) is ∙ ap (λ b. bytes_eq n name || b) left

fewer_others : (names : List (List ℕ)) → length (other_names names) ≤ length names
fewer_others [] = omega arith
fewer_others (n ∷ ns) = by_test (bytes_eq n manifest_name) (fewer_others ns)
  where
    by_test : (b : Bool) → length (other_names ns) ≤ length ns → length (cond (not b) (n ∷ other_names ns) (other_names ns)) ≤ length (n ∷ ns)
    by_test true h = omega (arith, h)
    by_test false h = omega (arith, h)

one_is_manifest : (names : List (List ℕ)) → has manifest_name names ≡ true → length (other_names names) + 1 ≤ length names
one_is_manifest [] h = cc
one_is_manifest (n ∷ ns) h = by_test (bytes_eq n manifest_name) refl (λ e. one_is_manifest ns (ap (λ b. b || has manifest_name ns) (sym e) ∙ h))
  where
    by_test : (b : Bool) → bytes_eq n manifest_name ≡ b → (bytes_eq n manifest_name ≡ false → length (other_names ns) + 1 ≤ length ns)
        → length (other_names (n ∷ ns)) + 1 ≤ length (n ∷ ns)
    by_test true is left = rw is (omega (arith, fewer_others ns))
    by_test false is left = rw is (omega (arith, left is))

beside_names : (files : List File) → map (λ f. f.name) (map fact_of (beside_manifest files)) ≡ other_names (map (λ f. f.name) files)
beside_names [] = refl
beside_names (f ∷ fs) = by_test (bytes_eq f.name manifest_name) (beside_names fs)
  where
    by_test : (b : Bool) → map (λ g. g.name) (map fact_of (beside_manifest fs)) ≡ other_names (map (λ g. g.name) fs)
        → map (λ g. g.name) (map fact_of (cond (not b) (f ∷ beside_manifest fs) (beside_manifest fs))) ≡ cond (not b) (f.name ∷ other_names (map (λ g. g.name) fs)) (other_names (map (λ g. g.name) fs))
    by_test true e = e
    by_test false e = ap (λ l. f.name ∷ l) e

-- ---- no mismatch

named_has : (name : List ℕ) (facts : List Fact) → has name (map (λ f. f.name) facts) ≡ is_some (fact_named name facts)
named_has name [] = refl
named_has name (f ∷ fs) = by_test (bytes_eq f.name name) (named_has name fs)
  where
    by_test : (b : Bool) → has name (map (λ g. g.name) fs) ≡ is_some (fact_named name fs) → (b || has name (map (λ g. g.name) fs)) ≡ is_some (cond b (Some f) (fact_named name fs))
    by_test true e = refl
    by_test false e = e

none_first : {A : Type 0} (a b : Option A) → option_or a b ≡ None → (a ≡ None) × (b ≡ None)
none_first None b e = (refl, e)
none_first (Some x) b e = cc

uploaded_so : (f : Fact) (o : Option Fact) → upload_mismatch f o ≡ None → is_some o ≡ true
uploaded_so f None e = cc
uploaded_so f (Some g) e = refl

all_uploaded : (listed ups : List Fact) → listed_mismatch listed ups ≡ None → all_in listed (map (λ f. f.name) ups) ≡ true
all_uploaded [] ups e = refl
all_uploaded (f ∷ fs) ups e =
    let both = none_first (upload_mismatch f (fact_named f.name ups)) (listed_mismatch fs ups) e in
    let first = named_has f.name ups ∙ uploaded_so f (fact_named f.name ups) both.0 in
    rw first (all_uploaded fs ups both.1)

all_listed : (listed ups : List Fact) (name : List ℕ) → unlisted_mismatch listed ups ≡ None → has name (map (λ f. f.name) ups) ≡ true → has name (map (λ f. f.name) listed) ≡ true
all_listed listed [] name e there = cc
all_listed listed (u ∷ us) name e there = by_listed (list_any (λ f. bytes_eq f.name u.name) listed) refl (all_listed listed us name)
  where
    by_name : (b : Bool) → bytes_eq u.name name ≡ b → list_any (λ f. bytes_eq f.name u.name) listed ≡ true → (has name (map (λ f. f.name) us) ≡ true → has name (map (λ f. f.name) listed) ≡ true)
        → has name (map (λ f. f.name) listed) ≡ true
    by_name true is l left = has_map (λ (f : Fact). f.name) name listed ∙ subst (λ (n : List ℕ). list_any (λ f. bytes_eq f.name n) listed ≡ true) ((bytes_eq-Decides u.name name).0 is) l
    by_name false is l left = left (ap (λ b. b || has name (map (λ f. f.name) us)) (sym is) ∙ there)

    by_listed : (b : Bool) → list_any (λ f. bytes_eq f.name u.name) listed ≡ b
        → (unlisted_mismatch listed us ≡ None → has name (map (λ f. f.name) us) ≡ true → has name (map (λ f. f.name) listed) ≡ true)
        → has name (map (λ f. f.name) listed) ≡ true
    by_listed false l left = let no = ap (λ b. cond b (unlisted_mismatch listed us) (Some (record { file = u.name; field = 5 }))) (sym l) ∙ e in cc
    by_listed true l left = by_name (bytes_eq u.name name) refl l (left (ap (λ b. cond b (unlisted_mismatch listed us) (Some (record { file = u.name; field = 5 }))) (sym l) ∙ e))

among_all : (facts : List Fact) (names : List (List ℕ)) (name : List ℕ) → all_in facts names ≡ true → has name (map (λ f. f.name) facts) ≡ true → has name names ≡ true
among_all [] names name all there = cc
among_all (f ∷ fs) names name all there = by_test (bytes_eq f.name name) refl (among_all fs names name)
  where
    both : (has f.name names ≡ true) × (all_in fs names ≡ true)
    both = split (has f.name names) (all_in fs names) all

    by_test : (b : Bool) → bytes_eq f.name name ≡ b → (all_in fs names ≡ true → has name (map (λ g. g.name) fs) ≡ true → has name names ≡ true) → has name names ≡ true
    by_test true is left = subst (λ (n : List ℕ). has n names ≡ true) ((bytes_eq-Decides f.name name).0 is) both.0
    by_test false is left = left both.1 (ap (λ b. b || has name (map (λ g. g.name) fs)) (sym is) ∙ there)

-- ---- what FINISH makes sure of

-- the manifest's data, what they say, and that it is this snapshot's
pub record Listing (key : SnapshotKey) (files : List File) (m : Manifest) : Type 0 where
  pub bytes : List ℕ
  pub there : manifest_data files ≡ Some bytes
  pub read : manifest_of bytes ≡ Ok m
  pub same : mismatch m.key m.files key (map fact_of (beside_manifest files)) ≡ None

by_mismatch : (key : SnapshotKey) (files : List File) (m n : Manifest) (bytes : List ℕ) (o : Option Mismatch) → manifest_data files ≡ Some bytes → manifest_of bytes ≡ Ok n
    → mismatch n.key n.files key (map fact_of (beside_manifest files)) ≡ o → (if_none mismatch_refusal o >>= (λ _. Ok n)) ≡ Ok m → Listing key files m
by_mismatch key files m n bytes (Some x) there read e is = cc
by_mismatch key files m n bytes None there read e is =
    let one : n ≡ m = cc in
    subst (λ (x : Manifest). Listing key files x) one (record { bytes = bytes; there = there; read = read; same = e })

abbrev asked : Result Manifest ℕ → Result Manifest Refusal
asked r = elim r [ Ok m ↦ Ok m | Err cause ↦ Err (BadManifest cause) ]

by_reading : (key : SnapshotKey) (files : List File) (m : Manifest) (bytes : List ℕ) (r : Result Manifest ℕ) → manifest_data files ≡ Some bytes → manifest_of bytes ≡ r
    → (asked r >>= (λ n. want_listed n key files >>= (λ _. Ok n))) ≡ Ok m → Listing key files m
by_reading key files m bytes (Err cause) there read is = cc
by_reading key files m bytes (Ok n) there read is =
    by_mismatch key files m n bytes (mismatch n.key n.files key (map fact_of (beside_manifest files))) there read refl is

pub listing : (key : SnapshotKey) (files : List File) (m : Manifest) → listing_of key files ≡ Ok m → Listing key files m
unfolding listing_of
listing key files m is = by_data (manifest_data files) refl is
  where
    by_data : (o : Option (List ℕ)) → manifest_data files ≡ o → (or_else NoFile o >>= (λ bytes. want_manifest bytes >>= (λ n. want_listed n key files >>= (λ _. Ok n)))) ≡ Ok m → Listing key files m
    by_data None e is = cc
    by_data (Some bytes) e is = by_reading key files m bytes (manifest_of bytes) e refl is

-- ---- a snapshot's manifest lists the other files

listed_once : (bytes : List ℕ) (m : Manifest) → manifest_of bytes ≡ Ok m → (ds : Items) × (files_in [] ds ≡ Ok m.files)
unfolding manifest_of
listed_once bytes m is = by_json (json_of bytes) is
  where
    by_files : (key : SnapshotKey) (ds : Items) (r : Result (List Fact) ℕ) → files_in [] ds ≡ r → (r >>= (λ files. Ok (record { key = key; files = files }))) ≡ Ok m → (ds : Items) × (files_in [] ds ≡ Ok m.files)
    by_files key ds (Err e) f is = cc
    by_files key ds (Ok files) f is = let same : record { key = key; files = files } ≡ m = cc in (ds, f ∙ ap (λ (x : Manifest). Ok x.files) same)

    by_list : (key : SnapshotKey) (o : Option Items) → (or_else bad_field o >>= (λ ds. files_in [] ds >>= (λ files. Ok (record { key = key; files = files })))) ≡ Ok m → (ds : Items) × (files_in [] ds ≡ Ok m.files)
    by_list key None is = cc
    by_list key (Some ds) is = by_files key ds (files_in [] ds) refl is

    by_key : (d : Data) (o : Option SnapshotKey) → (or_else bad_field o >>= (λ key. or_else bad_field (list_in d) >>= (λ ds. files_in [] ds >>= (λ files. Ok (record { key = key; files = files }))))) ≡ Ok m → (ds : Items) × (files_in [] ds ≡ Ok m.files)
    by_key d None is = cc
    by_key d (Some key) is = by_list key (list_in d) is

    by_json : (o : Option Data) → (or_else bad_json o >>= (λ d. or_else bad_field (key_in d) >>= (λ key. or_else bad_field (list_in d) >>= (λ ds. files_in [] ds >>= (λ files. Ok (record { key = key; files = files })))))) ≡ Ok m → (ds : Items) × (files_in [] ds ≡ Ok m.files)
    by_json None is = cc
    by_json (Some d) is = by_key d (key_in d) is

-- ---- no file is listed twice

abbrev fact_names : List Fact → List (List ℕ)
fact_names facts = map (λ (f : Fact). f.name) facts

abbrev Differ : List ℕ → List ℕ → Type 0
Differ a b = a ≢ b

abbrev IsNew : List (List ℕ) → List ℕ → Type 0
IsNew before name = list_any (bytes_eq name) before ≡ false

-- they differ, and none is among those before
record AreNew (before names : List (List ℕ)) : Type 0 where
  differ : AllPairs Differ names
  new : All (IsNew before) names

none_new : (before : List (List ℕ)) → AreNew before []
none_new before = record { differ = λ i j d lt within. absurd (omega (arith, within)); new = All-nil (IsNew before) }

unlike : (n name : List ℕ) → bytes_eq n name ≡ false → name ≢ n
unlike n name e same = not_both (sym ((bytes_eq-Decides n name).1 (sym same)) ∙ e)
  where
    not_both : true ≡ false → ⊥
    not_both e = cc

one_more_new : (before names : List (List ℕ)) (name : List ℕ) → IsNew before name → AreNew (name ∷ before) names → AreNew before (name ∷ names)
one_more_new before names name new h = record {
  differ = AllPairs-cons Differ name names
      (All-weaker (IsNew (name ∷ before)) (Differ name) (λ n is. unlike n name (or_parts (bytes_eq n name) (list_any (bytes_eq n) before) is).0) names h.new) h.differ;
  new = All-cons (IsNew before) name names new
      (All-weaker (IsNew (name ∷ before)) (IsNew before) (λ n is. (or_parts (bytes_eq n name) (list_any (bytes_eq n) before) is).1) names h.new);
}

all_new : (before : List (List ℕ)) (ds : Items) (facts : List Fact) → files_in before ds ≡ Ok facts → AreNew before (fact_names facts)
unfolding files_in
all_new before no_items facts read = let e : [] ≡ facts = cc in subst (λ (l : List Fact). AreNew before (fact_names l)) e (none_new before)
all_new before (item d ds) facts read =
    let b = begins (fact_in d) (is_plain (get (codes "crypt-mode") d)) (λ f. list_any (bytes_eq f.name) before) (λ f. files_in (f.name ∷ before) ds) facts read in
    subst (λ (l : List Fact). AreNew before (fact_names l)) b.all
    (one_more_new before (fact_names b.others) (b.first).name b.new (all_new ((b.first).name ∷ before) ds b.others b.behind))

pub listed_apart : (bytes : List ℕ) (m : Manifest) → manifest_of bytes ≡ Ok m → AllPairs (λ a b. a ≢ b) (map (λ f. f.name) m.files)
listed_apart bytes m is = let once = listed_once bytes m is in (all_new [] once.0 m.files once.1).differ

-- ---- names among others

contains_has : (names : List (List ℕ)) (name : List ℕ) → Contains names name → has name names ≡ true
contains_has names name c = list_any_at (λ n. bytes_eq n name) names c.0 name c.1 ((bytes_eq-Decides (get_or names c.0 name) name).1 c.2)

has_contains : (names : List (List ℕ)) (name : List ℕ) → has name names ≡ true → Contains names name
has_contains [] name h = cc
has_contains (n ∷ ns) name h = by_test (bytes_eq n name) refl (λ e. has_contains ns name (ap (λ b. b || has name ns) (sym e) ∙ h))
  where
    by_test : (b : Bool) → bytes_eq n name ≡ b → (bytes_eq n name ≡ false → Contains ns name) → Contains (n ∷ ns) name
    by_test true is left = subst (λ (x : List ℕ). Contains (n ∷ ns) x) ((bytes_eq-Decides n name).0 is) (Contains-get_or (n ∷ ns) 0 n (omega arith))
    by_test false is left = Contains-append_right (n ∷ []) ns name (left is)

data_named : (files : List File) (bytes : List ℕ) → manifest_data files ≡ Some bytes → is_some (file_named manifest_name files) ≡ true
data_named files bytes e = by_file (file_named manifest_name files) e
  where
    by_file : (o : Option File) → data_in o ≡ Some bytes → is_some o ≡ true
    by_file None e = cc
    by_file (Some f) e = refl

files_have : (name : List ℕ) (files : List File) → has name (map (λ f. f.name) files) ≡ is_some (file_named name files)
files_have name [] = refl
files_have name (f ∷ fs) = by_test (bytes_eq f.name name) (files_have name fs)
  where
    by_test : (b : Bool) → has name (map (λ g. g.name) fs) ≡ is_some (file_named name fs) → (b || has name (map (λ g. g.name) fs)) ≡ is_some (cond b (Some f) (file_named name fs))
    by_test true e = refl
    by_test false e = e

no_rest : (names : List (List ℕ)) → rest [] names ≡ names
no_rest [] = refl
no_rest (n ∷ ns) = ap (λ l. n ∷ l) (no_rest ns)

module _ (key : SnapshotKey) (files : List File) (m : Manifest) (l : Listing key files m) where
  names : List (List ℕ)
  names = map (λ f. f.name) files

  uploads : List Fact
  uploads = map fact_of (beside_manifest files)

  uploaded_names : map (λ f. f.name) uploads ≡ other_names names
  unfolding names uploads
  uploaded_names = beside_names files

  has_manifest : has manifest_name names ≡ true
  unfolding names
  has_manifest = files_have manifest_name files ∙ data_named files l.bytes l.there

  apart : (listed_mismatch m.files uploads ≡ None) × (unlisted_mismatch m.files uploads ≡ None)
  unfolding uploads mismatch
  apart = none_first _ _ ((none_first (key_mismatch m.key key) _ l.same).1)

  listed_uploaded : all_in m.files (other_names names) ≡ true
  listed_uploaded = subst (λ (ns : List (List ℕ)). all_in m.files ns ≡ true) uploaded_names (all_uploaded m.files uploads apart.0)

  few : length files ≤ 64 → length m.files ≤ 63
  unfolding names
  few limit =
      let once = listed_once l.bytes m l.read in
      let among = fits (other_names names) [] once.0 m.files once.1 listed_uploaded in
      let all : length (rest [] (other_names names)) ≡ length (other_names names) = ap (λ (ns : List (List ℕ)). length ns) (no_rest (other_names names)) in
      let less = one_is_manifest names has_manifest in
      let same : length names ≡ length files = length-map files (λ (f : File). f.name) in
      omega (arith, among, all, less, same, limit)

  in_listed : (name : List ℕ) → has name names ≡ true → has name (manifest_name ∷ listed_names m) ≡ true
  in_listed name there = by_test (bytes_eq manifest_name name) refl
    where
      by_test : (b : Bool) → bytes_eq manifest_name name ≡ b → has name (manifest_name ∷ listed_names m) ≡ true
      by_test true e = ap (λ b. b || has name (listed_names m)) e
      by_test false e =
          let uploaded : has name (map (λ f. f.name) uploads) ≡ true = ap (λ (ns : List (List ℕ)). has name ns) uploaded_names ∙ others_have name names e ∙ there in
          let listed = all_listed m.files uploads name apart.1 uploaded in
          ap (λ b. b || has name (listed_names m)) e ∙ others_have name (map (λ f. f.name) m.files) e ∙ listed

  in_files : (name : List ℕ) → has name (manifest_name ∷ listed_names m) ≡ true → has name names ≡ true
  in_files name there = by_test (bytes_eq manifest_name name) refl
    where
      by_test : (b : Bool) → bytes_eq manifest_name name ≡ b → has name names ≡ true
      by_test true e = subst (λ (n : List ℕ). has n names ≡ true) ((bytes_eq-Decides manifest_name name).0 e) has_manifest
      by_test false e =
          let listed : has name (map (λ f. f.name) m.files) ≡ true = sym (others_have name (map (λ f. f.name) m.files) e) ∙ sym (ap (λ b. b || has name (listed_names m)) e) ∙ there in
          sym (others_have name names e) ∙ among_all m.files (other_names names) name listed_uploaded listed

  pub lists_files : length files ≤ 64 → ListsFiles files
  unfolding names
  lists_files limit = (
    l.bytes,
    m,
    l.there,
    l.read,
    few limit,
    λ name. (
      (λ c. has_contains (manifest_name ∷ listed_names m) name (in_listed name (contains_has names name c))),
      (λ c. has_contains names name (in_files name (contains_has (manifest_name ∷ listed_names m) name c))),
    ),
  )

pub listing_lists : (key : SnapshotKey) (files : List File) (m : Manifest) → listing_of key files ≡ Ok m → length files ≤ 64 → ListsFiles files
listing_lists key files m is limit = lists_files key files m (listing key files m is) limit
