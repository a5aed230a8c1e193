use Rattle.std.proofs.Common.{◌∙◌}
use Rattle.job_steps.proofs.BatchLemmas.{fault_settled}
use Rattle.job_steps.proofs.chunks.Chunks.settle.Goals as goal

pub returns-then-has_ended-clause-fault : goal.returns-then-has_ended-clause-fault
returns-then-has_ended-clause-fault g c =
    fault_settled c.first_of.result c.test.new.self c.test.ensures.tests.settled ∙ c.first_of.ensures.first ∙ c.test.ensures.fault c.args.fault
