use Rattle.std.proofs.Common.{length, ap, ◌∙◌}
use Rattle.std.specs.Prelude.{is_none}
use Rattle.store_model.specs.VerifyJob.{chunk_fault}
use Rattle.job_steps.proofs.BatchLemmas.{tested_is}
use Rattle.job_steps.proofs.testing.test_one.Goals as goal

pub returns-clause-tested : goal.returns-clause-tested
returns-clause-tested c =
    let w = c.args.waiting.now in
    c.is_ok-waiting.ensures.value ∙ tested_is w.piece c.as_slice.result.now (ap length c.as_slice.ensures ∙ w.sized) c.test.result c.test.ensures.tests ∙ ap (λ b. is_none (chunk_fault w.piece b)) c.as_slice.ensures
