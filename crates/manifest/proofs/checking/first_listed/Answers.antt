use Rattle.std.proofs.Common.{◌<◌, ◌+◌, drop, map, length, sym, ap, ◌∙◌, arith}
use Rattle.std.specs.Option.{option_or}
use Rattle.store_files.specs.Manifest.Mismatch.{listed_mismatch}
use Rattle.manifest.specs.Views.{fact_view}
use Rattle.manifest.specs.Checking.{uploaded}
use Rattle.manifest.proofs.Uploads.{from_place}
use Rattle.manifest.proofs.checking.first_listed.Goals as goal

pub returns-in-Some-clause-value : goal.returns-in-Some-clause-value
returns-in-Some-clause-value c =
    let listed = c.args.listed.now in
    let ups = uploaded c.args.uploads.now in
    let lt : c.loop-file.file-index < length listed = omega arith in
    let at = from_place listed c.loop-file.file-index c.file-item.result lt c.file-item.is in
    sym (sym c.loop-file.invariant ∙ ap (λ fs. listed_mismatch (map fact_view fs) ups) at
    ∙ ap (λ o. option_or o (listed_mismatch (map fact_view (drop (c.loop-file.file-index + 1) listed)) ups)) (sym c.in-Some.ensures.value))

pub loop-file-preserved : goal.loop-file-preserved
loop-file-preserved c =
    let listed = c.args.listed.now in
    let ups = uploaded c.args.uploads.now in
    let lt : c.loop-file.file-index < length listed = omega arith in
    let at = from_place listed c.loop-file.file-index c.file-item.result lt c.file-item.is in
    ap (λ o. option_or o (listed_mismatch (map fact_view (drop (c.loop-file.file-index + 1) listed)) ups)) c.in_default.ensures.value
    ∙ sym (ap (λ fs. listed_mismatch (map fact_view fs) ups) at) ∙ c.loop-file.invariant
