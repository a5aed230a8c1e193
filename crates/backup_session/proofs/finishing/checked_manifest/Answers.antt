use Rattle.std.proofs.Common.{◌≡◌, Some, None, Ok, Err, map, sym, ap, ◌∙◌}
use Rattle.std.proofs.lemmas.Result.{MatchResult-at_ok, MatchResult-at_err}
use Rattle.store_stops.proofs.OutcomeLemmas.{on_cause}
use Rattle.store_files.specs.Manifest.{manifest_of}
use Rattle.store_files.specs.Manifest.Mismatch.{mismatch}
use Rattle.store_model.proofs.ManifestTexts.{cause_fits}
use Rattle.manifest.specs.Checking.{first_mismatch}
use Rattle.manifest.specs.Views.{fact_view, manifest_view, mismatch_view}
use Rattle.backup_session.specs.Finish.{manifest_from}
use Rattle.backup_session.proofs.FinishChecks.{beside_is, from_bad, from_good}
use Rattle.backup_session.proofs.finishing.checked_manifest.Goals as goal

pub returns-in-Err-clause-value : goal.returns-in-Err-clause-value
returns-in-Err-clause-value c =
    let bytes = c.args.bytes.now in
    from_bad c.args.key.now c.args.files.now bytes c.in-Err.fault.cause
    (MatchResult-at_err (λ m. manifest_of bytes ≡ Ok (manifest_view m)) (λ e. manifest_of bytes ≡ Err e.cause) c.in-Err.fault c.in-Err.is c.in_ok-manifest.ensures.exact)

pub returns-in-Err-clause-fits : goal.returns-in-Err-clause-fits
returns-in-Err-clause-fits c =
    let bytes = c.args.bytes.now in
    cause_fits bytes c.in-Err.fault.cause
    (MatchResult-at_err (λ m. manifest_of bytes ≡ Ok (manifest_view m)) (λ e. manifest_of bytes ≡ Err e.cause) c.in-Err.fault c.in-Err.is c.in_ok-manifest.ensures.exact)

pub returns-in-Ok-2-clause-value : goal.returns-in-Ok-2-clause-value
returns-in-Ok-2-clause-value c =
    let bytes = c.args.bytes.now in
    let key = c.args.key.now in
    let files = c.args.files.now in
    let m = c.in-Ok.manifest in
    let told = MatchResult-at_ok (λ x. manifest_of bytes ≡ Ok (manifest_view x)) (λ e. manifest_of bytes ≡ Err e.cause) m c.in-Ok.is c.in_ok-manifest.ensures.exact in
    let checked = MatchResult-at_ok (λ _. first_mismatch m key files ≡ None) (λ e. first_mismatch m key files ≡ Some (mismatch_view e)) c.in-Ok-2.field-0 c.in-Ok-2.is c.in_ok-check.ensures.first in
    from_good key files bytes (manifest_view m) None told (ap (mismatch m.key (map fact_view m.files) key) (sym (beside_is files c.requires)) ∙ checked)

pub returns-in_ok-mismatched-in-Err-2-clause-value : goal.returns-in_ok-mismatched-in-Err-2-clause-value
returns-in_ok-mismatched-in-Err-2-clause-value c =
    let bytes = c.args.bytes.now in
    let key = c.args.key.now in
    let files = c.args.files.now in
    let m = c.in-Ok.manifest in
    let x = c.in-Err-2.mismatch in
    let told = MatchResult-at_ok (λ y. manifest_of bytes ≡ Ok (manifest_view y)) (λ e. manifest_of bytes ≡ Err e.cause) m c.in-Ok.is c.in_ok-manifest.ensures.exact in
    let checked = MatchResult-at_err (λ _. first_mismatch m key files ≡ None) (λ e. first_mismatch m key files ≡ Some (mismatch_view e)) x c.in-Err-2.is c.in_ok-check.ensures.first in
    on_cause (λ cause. manifest_from key files bytes ≡ Err cause) c.in_ok-mismatched-in-Err-2.field-0
    (from_good key files bytes (manifest_view m) (Some (mismatch_view x)) told (ap (mismatch m.key (map fact_view m.files) key) (sym (beside_is files c.requires)) ∙ checked)
    ∙ ap (λ r. Err r) (sym c.in_ok-mismatched-in-Err-2.ensures.value))
