use Rattle.std.proofs.Common.{◌≡◌, Option, sym, subst, ◌∙◌}
use Rattle.std.specs.Prelude.{IfOk}
use Rattle.wire_commands.specs.declared.rows.FileFault.{FileFault}
use Rattle.store_model.proofs.VerifyLemmas.{blob_manifest, blob_other}
use Rattle.job_steps.proofs.judging.blob_fault.Goals as goal

pub returns-then-is_manifest-clause-fault : goal.returns-then-is_manifest-clause-fault
returns-then-is_manifest-clause-fault c =
    let says = blob_manifest c.args.snapshot.now c.args.name.now c.args.bytes.now c.in-Ok.contents.now c.in-Ok.ensures (sym c.is_manifest.ensures ∙ c.if-is_manifest.true) in
    subst (λ (x : Option FileFault). IfOk c.manifest_fault.result (λ given. given ≡ x)) says c.manifest_fault.ensures.fault

pub returns-clause-fault : goal.returns-clause-fault
returns-clause-fault c =
    blob_other c.args.snapshot.now c.args.name.now c.args.bytes.now c.in-Ok.contents.now c.in-Ok.ensures (sym c.is_manifest.ensures ∙ c.if-is_manifest.false)
