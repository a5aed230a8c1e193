use Rattle.std.proofs.Common.{◌≡◌, true, false, sym, ap, subst, ◌∙◌}
use Rattle.std.specs.Prelude.{IfOk}
use Rattle.store_types.specs.FileNames.{is_fixed_name, is_dynamic_name}
use Rattle.store_model.specs.VerifyJob.{Judged, without_entries}
use Rattle.job_steps.specs.Visits.{shown_judged, blob_fault_of}
use Rattle.store_model.proofs.VerifyLemmas.{judged_fixed, judged_dynamic, judged_blob}
use Rattle.job_steps.proofs.judging.judge.Goals as goal

pub returns-then-is_fixed : goal.returns-then-is_fixed
returns-then-is_fixed c =
    let row = c.args.row.now in
    let named = c.in_ok-name.ensures ∙ c.as_slice.ensures in
    let fixed : is_fixed_name row.file ≡ true = ap is_fixed_name (sym named) ∙ sym c.is_fixed.ensures ∙ c.if-is_fixed.true in
    subst (λ (x : Judged). IfOk c.fixed_judged.result (λ given. shown_judged given ≡ x)) (judged_fixed c.args.snapshot.now c.args.bytes.now row fixed) c.fixed_judged.ensures

pub returns-then-is_dynamic : goal.returns-then-is_dynamic
returns-then-is_dynamic c =
    let row = c.args.row.now in
    let named = c.in_ok-name.ensures ∙ c.as_slice.ensures in
    let other : is_fixed_name row.file ≡ false = ap is_fixed_name (sym named) ∙ sym c.is_fixed.ensures ∙ c.if-is_fixed.false in
    let dynamic : is_dynamic_name row.file ≡ true = ap is_dynamic_name (sym named) ∙ sym c.is_dynamic.ensures ∙ c.if-is_dynamic.true in
    subst (λ (x : Judged). IfOk c.dynamic_judged.result (λ given. shown_judged given ≡ x)) (judged_dynamic c.args.snapshot.now c.args.bytes.now row other dynamic)
    c.dynamic_judged.ensures

pub returns : goal.returns
returns c =
    let row = c.args.row.now in
    let snapshot = c.args.snapshot.now in
    let bytes = c.args.bytes.now in
    let named = c.in_ok-name.ensures ∙ c.as_slice.ensures in
    let other : is_fixed_name row.file ≡ false = ap is_fixed_name (sym named) ∙ sym c.is_fixed.ensures ∙ c.if-is_fixed.false in
    let neither : is_dynamic_name row.file ≡ false = ap is_dynamic_name (sym named) ∙ sym c.is_dynamic.ensures ∙ c.if-is_dynamic.false in
    c.without_entries.ensures ∙ ap without_entries (c.in_ok-fault.ensures.fault ∙ ap (λ n. blob_fault_of snapshot n row bytes) named) ∙ judged_blob snapshot bytes row other neither
