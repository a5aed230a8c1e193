use Rattle.std.proofs.Common.{◌≡◌, ◌∙◌, ◌∷◌, [], List, ℕ, map, filter, not, refl, ap, sym, arith}
use Rattle.std.specs.Str.{bytes_eq}
use Rattle.std.proofs.lemmas.List.{take_all}
use Rattle.store_types.specs.FileNames.{manifest_name}
use Rattle.manifest.specs.declared.facts.FileFact.{FileFact}
use Rattle.manifest.specs.Views.{fact_view}
use Rattle.plain_snapshots.proofs.loading.names_in.Goals as goal

abbrev without_manifest : List (List ℕ) → List (List ℕ)
without_manifest names = filter (λ name. not (bytes_eq name manifest_name)) names

names_viewed : (facts : List FileFact) → map (λ f. f.name) (map fact_view facts) ≡ map (λ f. f.name) facts
names_viewed [] = refl
names_viewed (f ∷ fs) = ap (λ l. f.name ∷ l) (names_viewed fs)

pub returns-clause-names : goal.returns-clause-names
returns-clause-names c =
    let facts = c.as_slice-fact-items.result.now in
    c.loop-fact.invariant.0
    ∙ ap (λ (l : List FileFact). manifest_name ∷ without_manifest (map (λ f. f.name) l)) (take_all c.loop-fact.fact-index facts (omega arith) ∙ c.as_slice-fact-items.ensures)
    ∙ ap (λ l. manifest_name ∷ without_manifest l) (sym (names_viewed c.args.listed.now.files))
