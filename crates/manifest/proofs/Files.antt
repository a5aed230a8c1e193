-- The entries are read one after another.
use Rattle.std.proofs.Common.{◌≡◌, ℕ, ◌+◌, ◌<◌, ◌≤◌, length, drop, get_or, drop-cons, add-one, List, [], ◌∷◌, ◌++◌, Bool, true, false, not, Option, Some, None, Result, Ok, Err, refl, sym, ap, ◌∙◌, map, append_assoc}
use Rattle.std.specs.Prelude.{codes, reverse}
use Rattle.std.specs.List.{list_any}
use Rattle.std.specs.Str.{bytes_eq}
use Rattle.std.proofs.lemmas.List.{append-nil, drop_all, reverse-append, map-append}
use Rattle.serde_json.specs.Data.{Data, Items, no_items, item}
use Rattle.serde_json.specs.Find.{get}
use Rattle.serde_json.specs.View.{view, items_view}
use Rattle.serde_json.specs.declared.value.Value.{Value}
use Rattle.store_types.specs.Chain.Refusing.{◌>>=◌, unless, or_else}
use Rattle.store_files.specs.Manifest.Fields.{Fact, fact_in, is_plain}
use Rattle.store_files.specs.Manifest.{bad_file, bad_crypt, listed_twice, files_in}
use Rattle.manifest.specs.Reading.{entry_in}

-- the names of the files, the last first
abbrev pub names_of : List Fact → List (List ℕ)
names_of files = reverse (map (λ f. f.name) files)

-- the files that are read, and those that follow
abbrev pub after : List Fact → Result (List Fact) ℕ → Result (List Fact) ℕ
after done r = r >>= (λ others. Ok (done ++ others))

abbrev on_plain : Fact → Bool → (Fact → Bool) → (Fact → Result (List Fact) ℕ) → Result (List Fact) ℕ
on_plain f plain again more = unless bad_crypt plain >>= (λ _. unless listed_twice (not (again f)) >>= (λ _. more f))

by_entry : (o : Option Fact) (plain : Bool) (again : Fact → Bool) (more : Fact → Result (List Fact) ℕ)
    → (or_else bad_file o >>= (λ f. on_plain f plain again more))
    ≡ ((or_else bad_file o >>= (λ f. unless bad_crypt plain >>= (λ _. unless listed_twice (not (again f)) >>= (λ _. Ok f)))) >>= more)
by_entry None plain again more = refl
by_entry (Some f) false again more = refl
by_entry (Some f) true again more = by_name (again f)
  where
    by_name : (b : Bool) → (unless listed_twice (not b) >>= (λ _. more f)) ≡ ((unless listed_twice (not b) >>= (λ _. Ok f)) >>= more)
    by_name true = refl
    by_name false = refl

abbrev others_in : List (List ℕ) → Items → Fact → Result (List Fact) ℕ
others_in before ds f = files_in (f.name ∷ before) ds >>= (λ others. Ok (f ∷ others))

step : (before : List (List ℕ)) (d : Data) (ds : Items) → files_in before (item d ds) ≡ (entry_in before d >>= others_in before ds)
unfolding files_in
step before d ds = by_entry (fact_in d) (is_plain (get (codes "crypt-mode") d)) (λ f. list_any (bytes_eq f.name) before) (others_in before ds)

pub names_of-more : (done : List Fact) (f : Fact) → names_of (done ++ f ∷ []) ≡ f.name ∷ names_of done
names_of-more done f = ap reverse (map-append (λ g. g.name) done (f ∷ [])) ∙ reverse-append (map (λ g. g.name) done) (f.name ∷ [])

one_more : (done : List Fact) (f : Fact) (r : Result (List Fact) ℕ) → after done (r >>= (λ others. Ok (f ∷ others))) ≡ after (done ++ f ∷ []) r
one_more done f (Ok others) = ap Ok (sym (append_assoc done (f ∷ []) others))
one_more done f (Err e) = refl

pub files-more : (done : List Fact) (d : Data) (ds : Items) (f : Fact) → entry_in (names_of done) d ≡ Ok f
    → after done (files_in (names_of done) (item d ds)) ≡ after (done ++ f ∷ []) (files_in (names_of (done ++ f ∷ [])) ds)
files-more done d ds f e =
    ap (after done) (step (names_of done) d ds ∙ ap (λ r. r >>= others_in (names_of done) ds) e)
    ∙ one_more done f (files_in (f.name ∷ names_of done) ds)
    ∙ ap (λ names. after (done ++ f ∷ []) (files_in names ds)) (sym (names_of-more done f))

pub files-bad : (done : List Fact) (d : Data) (ds : Items) (cause : ℕ) → entry_in (names_of done) d ≡ Err cause → after done (files_in (names_of done) (item d ds)) ≡ Err cause
files-bad done d ds cause e = ap (after done) (step (names_of done) d ds ∙ ap (λ r. r >>= others_in (names_of done) ds) e)

nothing_behind : (r : Result (List Fact) ℕ) → after [] r ≡ r
nothing_behind (Ok others) = refl
nothing_behind (Err e) = refl

pub files-begin : (ds : Items) → after [] (files_in (names_of []) ds) ≡ files_in [] ds
files-begin ds = nothing_behind (files_in [] ds)

pub files-end : (done : List Fact) (before : List (List ℕ)) → after done (files_in before no_items) ≡ Ok done
unfolding files_in
files-end done before = ap Ok (append-nil done)

-- the entries from a place on are the one there, and those behind it
pub entries-at : (entries : List Value) (i : ℕ) (entry : Value) → i < length entries → entry ≡ get_or entries i entry → items_view (drop i entries) ≡ item (view entry) (items_view (drop (i + 1) entries))
entries-at entries i entry lt is =
    ap items_view (drop-cons entries i entry lt) ∙ (λ j. item (view (sym is j)) (items_view (drop (sym (add-one i) j) entries)))

pub entries-past : (entries : List Value) (i : ℕ) → length entries ≤ i → items_view (drop i entries) ≡ no_items
entries-past entries i past = ap items_view (drop_all i entries past)
