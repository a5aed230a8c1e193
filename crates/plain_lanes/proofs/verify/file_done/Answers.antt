use Rattle.std.proofs.Common.{◌≡◌, ◌+◌, List, sym, ap, ◌∙◌, arith, rules}
use Rattle.wire_commands.specs.declared.rows.FaultRow.{FaultRow}
use Rattle.store_model.specs.Job.{Visit}
use Rattle.store_model.specs.VerifyJob.{file_done, next_file}
use Rattle.plain_lanes.specs.Visits.{shown_visit}
use Rattle.plain_lanes.proofs.VerifyLemmas.{fault_pushed}
use Rattle.plain_lanes.proofs.verify.file_done.Goals as goal

pub returns-clause-job : goal.returns-clause-job
unfolding file_done
returns-clause-job c =
    let v = shown_visit c.args.visit in
    let files : c.in_ok-files.files ≡ v.files + 1 = search (rules, arith) in
    let counted = ap (λ n. (let y : Visit = record v { files = n; faults = c.in_ok-faults.faults.items } in y)) files in
    let told = ap (λ (fs : List FaultRow). (let y : Visit = record v { files = v.files + 1; faults = fs } in y)) c.in_ok-faults.ensures.faults in
    c.next_file.ensures.job ∙ ap (λ (x : Visit). next_file x v.later) (counted ∙ told ∙ sym (fault_pushed v c.args.row c.args.fault))
