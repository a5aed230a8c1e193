use Rattle.std.proofs.Common.{◌+◌, List, Option, ap, sym, ◌∙◌}
use Rattle.wire_commands.specs.declared.rows.FaultRow.{FaultRow}
use Rattle.wire_commands.specs.declared.rows.FileFault.{FileFault}
use Rattle.store_model.specs.Job.{Visit}
use Rattle.store_model.specs.VerifyJob.{with_fault}
use Rattle.job_steps.specs.Visits.{shown_visit}
use Rattle.job_steps.proofs.visit.Visit.count_file.Goals as goal

pub returns-in_default-clause-counts : goal.returns-in_default-clause-counts
returns-in_default-clause-counts c =
    let v = shown_visit c.args.self.now in
    let counted : Visit = record v { files = v.files + 1 } in
    ap (λ (o : Option FileFault). with_fault c.args.row o counted) (sym c.in_default.is)

pub returns-clause-counts : goal.returns-clause-counts
returns-clause-counts c =
    let v = shown_visit c.args.self.now in
    let counted : Visit = record v { files = v.files + 1 } in
    ap (λ (rows : List FaultRow). (let y : Visit = record v { files = v.files + 1; faults = rows } in y)) c.push_reserved.ensures.items
    ∙ ap (λ (o : Option FileFault). with_fault c.args.row o counted) (sym c.in-Some.is)
