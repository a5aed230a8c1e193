use Rattle.std.proofs.Common.{◌≡◌, length, ap, subst, ◌∙◌, arith}
use Rattle.std.specs.Prelude.{IfOk}
use Rattle.store_model.specs.Job.{Visit, Job}
use Rattle.store_model.specs.VerifyJob.{next_chunk, file_read}
use Rattle.plain_lanes.specs.Jobs.{shown_job}
use Rattle.plain_lanes.specs.Visits.{shown_visit, counted_of}
use Rattle.plain_lanes.proofs.verify.file_read.Goals as goal

pub returns-clause-job : goal.returns-clause-job
unfolding file_read
returns-clause-job c =
    let v = shown_visit c.args.visit in
    let j = c.args.judged in
    let many : c.len.result ≡ length j.entries.items = omega (arith, c.len.ensures) in
    let counted = c.in_ok-visit.ensures ∙ ap (λ n. counted_of v n j.bytes) many in
    let told = ap (λ (x : Visit). next_chunk x c.args.row j.fault 0 j.entries.items) counted in
    subst (λ (x : Job). IfOk c.next_chunk.result (λ job. shown_job job ≡ x)) told c.next_chunk.ensures.job
