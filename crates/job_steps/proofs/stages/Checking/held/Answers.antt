use Rattle.std.proofs.Common.{sym, ap, ◌∙◌}
use Rattle.store_model.specs.VerifyJob.{chunk_fault}
use Rattle.job_steps.specs.Checks.{found_by}
use Rattle.job_steps.specs.Visits.{next_piece}
use Rattle.job_steps.proofs.BatchLemmas.{fault_of_other, left_more, left_stays}
use Rattle.job_steps.proofs.VerifyLemmas.{found_so}
use Rattle.job_steps.proofs.stages.Checking.held.Goals as goal

pub returns-then-not-is_as_long-clause-job : goal.returns-then-not-is_as_long-clause-job
returns-then-not-is_as_long-clause-job g c =
    let s = c.args.self in
    c.damaged.ensures.job
    ∙ ap (found_by s) (sym (fault_of_other (next_piece s.chunks) c.args.blob (sym c.is_as_long.ensures ∙ c.if-not-is_as_long.true)))

pub returns-clause-job : goal.returns-clause-job
returns-clause-job g c =
    let s = c.args.self in
    c.next_chunk.ensures.job
    ∙ found_so s _ _ _ (chunk_fault (next_piece s.chunks) c.args.blob) (c.settle-fault.ensures.fault ∙ c.put.ensures.fault)
    (c.settle-fault.ensures.stays.place ∙ c.put.ensures.reads.place)
    (left_stays c.put.new.self c.settle-fault.new.self c.settle-fault.ensures.stays ∙ left_more s.chunks c.put.new.self c.put.ensures.reads)
