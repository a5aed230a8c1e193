use Rattle.std.proofs.Common.{◌++◌, ap, ◌∙◌, arith}
use Rattle.std.specs.List.{filter_map}
use Rattle.std.proofs.lemmas.List.{take_all}
use Rattle.manifest.specs.declared.facts.FileFact.{FileFact}
use Rattle.manifest.specs.Views.{fact_view}
use Rattle.store_files.specs.Archive.{file_named}
use Rattle.store_files.specs.Manifest.Fields.{Fact}
use Rattle.plain_lanes.specs.Uploading.{named_in}
use Rattle.plain_lanes.proofs.ListedLemmas.{found_more, facts_found}
use Rattle.plain_lanes.proofs.uploads.listed_files.Goals as goal

pub loop-fact-preserved : goal.loop-fact-preserved
loop-fact-preserved c =
    let files = c.args.files.now in
    let listed = c.loop-fact.listed.items in
    found_more (λ (x : FileFact). file_named x.name files) c.deref-fact-items.result.now c.loop-fact.fact-index c.fact-item.result listed c.push_named.new.listed.items
    (omega arith) c.fact-item.is c.loop-fact.invariant (c.in_ok-push_named.ensures ∙ ap (λ name. listed ++ named_in name files) c.as_slice.ensures.value)

pub returns : goal.returns
returns c =
    let files = c.args.files.now in
    let facts = c.in_ok-facts.facts.items in
    c.loop-fact.invariant ∙ ap (filter_map (λ (x : FileFact). file_named x.name files)) (take_all c.loop-fact.fact-index c.deref-fact-items.result.now (omega arith) ∙ c.deref-fact-items.ensures.value)
    ∙ facts_found (λ (x : Fact). file_named x.name files) fact_view facts ∙ ap (filter_map (λ (x : Fact). file_named x.name files)) c.in_ok-facts.ensures
