-- The reading of a manifest, in the parts in which it goes.
use Rattle.std.specs.Prelude.{◌≡◌, ℕ, not, List, [], ◌∷◌, Result, Ok, Err, MatchResult, codes}
use Rattle.std.specs.BTreeSet.{BTreeSet, contains}
use Rattle.std.specs.Str.{bytes_eq}
use Rattle.std.specs.List.{list_any}
use Rattle.serde_json.specs.Data.{Data}
use Rattle.serde_json.specs.Find.{get}
use Rattle.store_types.specs.Names.{text_cmp}
use Rattle.store_types.specs.Chain.Refusing.{◌>>=◌, unless, or_else}
use Rattle.store_files.specs.Manifest.Fields.{Fact, key_in, list_in, fact_in, is_plain}
use Rattle.store_files.specs.Manifest.{Manifest, bad_field, bad_file, bad_crypt, listed_twice, files_in}
use Rattle.manifest.specs.declared.facts.BadManifest.{BadManifest}
use Rattle.manifest.specs.declared.facts.FileFact.{FileFact}
use Rattle.manifest.specs.Views.{fact_view}

-- one entry, where these names were listed before
abbrev pub entry_in : List (List ℕ) → Data → Result Fact ℕ
entry_in before d = do
  fact ← or_else bad_file (fact_in d)
  _ ← unless bad_crypt (is_plain (get (codes "crypt-mode") d))
  _ ← unless listed_twice (not (list_any (bytes_eq fact.name) before))
  Ok fact

-- the manifest of some JSON
abbrev pub manifest_in : Data → Result Manifest ℕ
manifest_in json = do
  key ← or_else bad_field (key_in json)
  listed ← or_else bad_field (list_in json)
  files ← files_in [] listed
  Ok (record { key = key; files = files })

-- the set has exactly these names
unfoldable pub HasNames : BTreeSet (List ℕ) → List (List ℕ) → Type 0
HasNames set names = (name : List ℕ) → contains text_cmp set name ≡ list_any (bytes_eq name) names

-- an answer tells what the entry is behind any names that the set had; a file's name has joined them
abbrev pub TellsEntry : Data → BTreeSet (List ℕ) → BTreeSet (List ℕ) → Result FileFact BadManifest → Type 0
TellsEntry d old new read = (before : List (List ℕ)) → HasNames old before → MatchResult read
    (λ fact. (entry_in before d ≡ Ok (fact_view fact)) × HasNames new (fact.name ∷ before))
    (λ e. entry_in before d ≡ Err e.cause)
