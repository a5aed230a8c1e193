use Rattle.std.proofs.Common.{◌≡◌, length, Option, None, Some, sym, ap, subst, ◌∙◌, rules}
use Rattle.std.specs.Prelude.{IfOk}
use Rattle.std.specs.Option.{option_or}
use Rattle.sha2.specs.Sha256.{sha256}
use Rattle.wire_commands.specs.declared.rows.FileFault.{FileFault}
use Rattle.store_model.specs.VerifyJob.{compared, blob_fault}
use Rattle.job_steps.proofs.judging.listed_fault.Goals as goal

pub returns-in-Some-clause-fault : goal.returns-in-Some-clause-fault
returns-in-Some-clause-fault c =
    let row = c.args.row.now in
    let bytes = c.args.bytes.now in
    let digest : c.digest.result ≡ sha256 bytes = search rules in
    let told : compared row (length bytes) (sha256 bytes) ≡ Some c.in-Some.fault = ap (compared row (length bytes)) (sym digest) ∙ sym c.compared.ensures.fault ∙ c.in-Some.is in
    ap (λ o. option_or o (blob_fault c.args.snapshot.now c.args.name.now bytes)) (sym told)

pub returns-in-None-clause-fault : goal.returns-in-None-clause-fault
returns-in-None-clause-fault c =
    let row = c.args.row.now in
    let bytes = c.args.bytes.now in
    let digest : c.digest.result ≡ sha256 bytes = search rules in
    let told : compared row (length bytes) (sha256 bytes) ≡ None = ap (compared row (length bytes)) (sym digest) ∙ sym c.compared.ensures.fault ∙ c.in-None.is in
    let says = ap (λ o. option_or o (blob_fault c.args.snapshot.now c.args.name.now bytes)) (sym told) in
    subst (λ (x : Option FileFault). IfOk c.blob_fault.result (λ given. given ≡ x)) says c.blob_fault.ensures.fault
