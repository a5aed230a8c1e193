use Rattle.std.proofs.Common.{◌≡◌, Some, ap, sym, length, ◌∙◌, arith}
use Rattle.std.specs.Prelude.{map}
use Rattle.std.specs.FinMap.{entries}
use Rattle.std.specs.Option.{option_map}
use Rattle.std.proofs.lemmas.List.{length-map}
use Rattle.std.proofs.lemmas.Simd.{map-map}
use Rattle.manifest.specs.declared.facts.FileFact.{FileFact}
use Rattle.manifest.specs.Views.{fact_view, manifest_view}
use Rattle.store_model.specs.Load.{read_manifest}
use Rattle.pull_steps.specs.States.{shown_course}
use Rattle.pull_steps.proofs.Parts.{listed_many, listed_none, listed_stock, rejected_manifest}
use Rattle.pull_steps.proofs.Sent.{none_entered}
use Rattle.pull_steps.proofs.files.listing_of.Goals as goal

pub returns-in_default-clause-listing : goal.returns-in_default-clause-listing
returns-in_default-clause-listing c =
    let course = shown_course c.args.course.now in
    rejected_manifest course c.args.bytes.now c.bad_manifest.result c.bad_manifest.ensures.listing
    (listed_none course c.args.bytes.now (sym (ap (option_map manifest_view) c.in_default.is) ∙ c.in_ok-listed.ensures))

pub returns-then-as_slice-gt-LISTED_LIMIT-clause-listing : goal.returns-then-as_slice-gt-LISTED_LIMIT-clause-listing
returns-then-as_slice-gt-LISTED_LIMIT-clause-listing c =
    let course = shown_course c.args.course.now in
    let listed = c.in-Some.listed in
    let bad = c.bad_manifest-then-as_slice-gt-LISTED_LIMIT in
    let is : Some (manifest_view listed) ≡ read_manifest c.args.bytes.now = sym (ap (option_map manifest_view) c.in-Some.is) ∙ c.in_ok-listed.ensures in
    rejected_manifest course c.args.bytes.now bad.result bad.ensures.listing
    (listed_many course c.args.bytes.now (manifest_view listed) is
    (omega (arith, c.if-as_slice-gt-LISTED_LIMIT.true, ap length c.as_slice.ensures, length-map listed.files fact_view)))

pub returns-clause-listing : goal.returns-clause-listing
returns-clause-listing c =
    let course = shown_course c.args.course.now in
    let listed = c.in-Some.listed in
    let is : Some (manifest_view listed) ≡ read_manifest c.args.bytes.now = sym (ap (option_map manifest_view) c.in-Some.is) ∙ c.in_ok-listed.ensures in
    listed_stock course c.args.bytes.now (manifest_view listed) is c.in_ok-from_slice.field-0 c.in_ok-names_of.field-0.items (entries c.new.result)
    (omega (arith, c.if-as_slice-gt-LISTED_LIMIT.false, ap length c.as_slice.ensures, length-map listed.files fact_view))
    c.in_ok-from_slice.ensures
    (c.in_ok-names_of.ensures ∙ ap (map (λ (f : FileFact). f.name)) c.as_slice-2.ensures ∙ sym (map-map (λ f. f.name) fact_view listed.files))
    (ap entries c.new.ensures ∙ none_entered)
