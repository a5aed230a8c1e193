use Rattle.std.proofs.Common.{Some, map, sym, ap, ◌∙◌}
use Rattle.store_files.specs.Manifest.Mismatch.{listed_mismatch, unlisted_mismatch}
use Rattle.manifest.specs.Views.{fact_view}
use Rattle.manifest.specs.Checking.{uploaded, of_file}
use Rattle.manifest.proofs.Uploads.{first-key, first-listed, first-unlisted}
use Rattle.manifest.proofs.checking.check.Goals as goal

pub returns-in-Some-clause-first : goal.returns-in-Some-clause-first
returns-in-Some-clause-first c = first-key c.args.manifest.now c.args.key.now c.args.uploads.now _ (sym c.in-Some.ensures.value)

pub returns-in-Some-first_listed-clause-first : goal.returns-in-Some-first_listed-clause-first
returns-in-Some-first_listed-clause-first c =
    let files = c.as_slice-listed.ensures in
    let ups = uploaded c.args.uploads.now in
    first-listed c.args.manifest.now c.args.key.now c.args.uploads.now (sym c.in_default.ensures.value) _
    (ap (λ fs. listed_mismatch (map fact_view fs) ups) (sym files) ∙ sym c.in-Some-first_listed.ensures.value)
    ∙ ap (λ name. Some (of_file name c.in-Some-first_listed.field)) (sym c.in_ok-clone.ensures.cases)

pub returns-in_default-first_unlisted-clause-first : goal.returns-in_default-first_unlisted-clause-first
returns-in_default-first_unlisted-clause-first c =
    let files = c.as_slice-listed.ensures in
    let ups = uploaded c.args.uploads.now in
    first-unlisted c.args.manifest.now c.args.key.now c.args.uploads.now (sym c.in_default.ensures.value)
    (ap (λ fs. listed_mismatch (map fact_view fs) ups) (sym files) ∙ sym c.in_default-first_listed.ensures.value)
    ∙ ap (λ fs. unlisted_mismatch (map fact_view fs) ups) (sym files) ∙ sym c.in_default-first_unlisted.ensures

pub returns-clause-first : goal.returns-clause-first
returns-clause-first c =
    let files = c.as_slice-listed.ensures in
    let ups = uploaded c.args.uploads.now in
    first-unlisted c.args.manifest.now c.args.key.now c.args.uploads.now (sym c.in_default.ensures.value)
    (ap (λ fs. listed_mismatch (map fact_view fs) ups) (sym files) ∙ sym c.in_default-first_listed.ensures.value)
    ∙ ap (λ fs. unlisted_mismatch (map fact_view fs) ups) (sym files) ∙ sym c.in-Some-first_unlisted.ensures
    ∙ ap (λ name. Some (of_file name 5)) (sym c.in_ok-clone-2.ensures.cases)
