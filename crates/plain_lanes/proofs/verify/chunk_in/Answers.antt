use Rattle.std.proofs.Common.{◌≡◌, None, Some, sym, ap, ◌∙◌}
use Rattle.store_model.specs.VerifyJob.{chunk_fault}
use Rattle.plain_lanes.specs.Visits.{chunk_judged, chunk_told}
use Rattle.plain_lanes.proofs.VerifyLemmas.{fault_judged, none_judged}
use Rattle.plain_lanes.proofs.verify.chunk_in.Goals as goal

pub returns-in-Ok-clause-fault : goal.returns-in-Ok-clause-fault
returns-in-Ok-clause-fault c =
    let p = c.args.piece in
    ap (λ r. chunk_judged r p) c.in-Ok.ensures ∙ ap (λ f. Some f) (sym (c.chunk_fault.ensures.fault ∙ ap (chunk_fault p) c.as_slice.ensures))

pub returns-in-Some-clause-fault : goal.returns-in-Some-clause-fault
returns-in-Some-clause-fault c =
    let p = c.args.piece in
    let told : chunk_told c.args.reply p.digest ≡ Some c.in-Some.fault = ap (λ r. chunk_told r p.digest) (sym c.in-Err.ensures.1) ∙ sym c.chunk_told.ensures.fault ∙ c.in-Some.is in
    fault_judged c.args.reply p c.in-Some.fault told

pub returns-in-None-clause-fault : goal.returns-in-None-clause-fault
returns-in-None-clause-fault c =
    let p = c.args.piece in
    let told : chunk_told c.args.reply p.digest ≡ None = ap (λ r. chunk_told r p.digest) (sym c.in-Err.ensures.1) ∙ sym c.chunk_told.ensures.fault ∙ c.in-None.is in
    (none_judged c.args.reply p c.in-Err.ensures.0 told, c.in-Err.ensures.1)
