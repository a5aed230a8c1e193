use Rattle.std.proofs.Common.{drop, ◌+◌, Some, ap, ◌∙◌}
use Rattle.std.specs.Option.{option_or}
use Rattle.wire_commands.specs.declared.rows.FileFault.TheVariants as faults
use Rattle.job_steps.specs.Checks.{fault_of}
use Rattle.store_types.specs.declared.piece.Piece.{Piece}
use Rattle.job_steps.specs.Visits.{next_piece}
use Rattle.job_steps.proofs.BatchLemmas.{fault_settled, left_more, left_stays}
use Rattle.job_steps.proofs.VerifyLemmas.{found_so}
use Rattle.job_steps.proofs.stages.Checking.damaged.Goals as goal

pub skip-requires-clause-none : goal.skip-requires-clause-none
skip-requires-clause-none g c = c.test.ensures.tests.settled.1

pub returns-clause-job : goal.returns-clause-job
returns-clause-job g c =
    let s = c.args.self in
    c.next_chunk.ensures.job
    ∙ found_so s _ _ _ (Some (faults.Damaged (next_piece s.chunks).digest))
    (c.skip.ensures.fault c.first_of-fault.result ∙ fault_settled c.first_of-fault.result c.test.new.self c.test.ensures.tests.settled
    ∙ c.first_of-fault.ensures.first
    ∙ ap (λ f. option_or f (Some (faults.Damaged c.next-piece.result.digest))) (c.first_of-before.ensures.first ∙ c.test.ensures.fault s.fault)
    ∙ ap (λ (p : Piece). option_or (fault_of s) (Some (faults.Damaged p.digest))) c.next-piece.ensures)
    (c.skip.ensures.reads.place ∙ ap (λ n. n + 1) c.test.ensures.tests.stays.place)
    (left_more c.test.new.self c.skip.new.self c.skip.ensures.reads ∙ ap (drop 1) (left_stays s.chunks c.test.new.self c.test.ensures.tests.stays))

pub next_chunk-requires-clause-ends : goal.next_chunk-requires-clause-ends
next_chunk-requires-clause-ends g c = λ read. (c.skip.ensures.handed ∙ c.test.ensures.tests.settled.0, c.skip.ensures.none)
