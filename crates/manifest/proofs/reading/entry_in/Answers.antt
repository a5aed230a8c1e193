use Rattle.std.proofs.Common.{◌≡◌, true, not, Some, sym, ap, subst, ◌∙◌, ℕ, List}
use Rattle.std.specs.BTreeSet.{contains, Updates}
use Rattle.std.specs.Prelude.{option_map}
use Rattle.serde_json.specs.View.{view}
use Rattle.store_types.specs.Names.{text_cmp}
use Rattle.store_files.specs.Manifest.Fields.{fact_in}
use Rattle.manifest.specs.Views.{fact_view}
use Rattle.manifest.proofs.Entries.{entry-new, entry-twice, names-inserted, names-listed}
use Rattle.manifest.proofs.reading.entry_in.Goals as goal

pub returns-then-is_new : goal.returns-then-is_new
returns-then-is_new c = λ before has.
    let d = view c.args.json.now in
    let old = c.args.names.now in
    let name : List ℕ = c.in-Some.fact.name in
    let copied : c.in_ok-clone.field-0 ≡ name = c.in_ok-clone.ensures.cases in
    let file : fact_in d ≡ Some (fact_view c.in-Some.fact) = sym c.in_ok-fact.ensures ∙ ap (option_map fact_view) c.in-Some.is in
    let added : c.in_ok-is_new.is_new ≡ not (contains text_cmp old name) = subst (λ k. c.in_ok-is_new.is_new ≡ not (contains text_cmp old k)) copied c.in_ok-is_new.ensures.added in
    let grown : Updates text_cmp old c.insert.new.self name true = subst (λ k. Updates text_cmp old c.insert.new.self k true) copied c.in_ok-is_new.ensures.updates in (
      entry-new before d (fact_view c.in-Some.fact) file (sym c.is_plain.ensures ∙ c.if-not-is_plain.false) (names-listed old name before c.in_ok-is_new.is_new has added ∙ ap not c.if-is_new.true),
      names-inserted old c.insert.new.self name before has grown,
    )

pub returns-else-is_new : goal.returns-else-is_new
returns-else-is_new c = λ before has.
    let d = view c.args.json.now in
    let old = c.args.names.now in
    let name : List ℕ = c.in-Some.fact.name in
    let copied : c.in_ok-clone.field-0 ≡ name = c.in_ok-clone.ensures.cases in
    let file : fact_in d ≡ Some (fact_view c.in-Some.fact) = sym c.in_ok-fact.ensures ∙ ap (option_map fact_view) c.in-Some.is in
    let added : c.in_ok-is_new.is_new ≡ not (contains text_cmp old name) = subst (λ k. c.in_ok-is_new.is_new ≡ not (contains text_cmp old k)) copied c.in_ok-is_new.ensures.added in
    entry-twice before d (fact_view c.in-Some.fact) file (sym c.is_plain.ensures ∙ c.if-not-is_plain.false) (names-listed old name before c.in_ok-is_new.is_new has added ∙ ap not c.if-is_new.false)
