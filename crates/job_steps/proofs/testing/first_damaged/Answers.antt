use Rattle.std.proofs.Common.{◌≡◌, ◌<◌, false, true, length, sym, ap, ◌∙◌, arith}
use Rattle.std.specs.Prelude.{is_none, not}
use Rattle.store_model.specs.VerifyJob.{chunk_fault}
use Rattle.job_steps.proofs.BatchLemmas.{damaged_there, tested_is, whole_there}
use Rattle.job_steps.proofs.testing.first_damaged.Goals as goal

pub returns-then-is_err-clause-first : goal.returns-then-is_err-clause-first
returns-then-is_err-clause-first c =
    let ws = c.args.waiting.now in
    let w = c.one-item.result in
    let lt : c.loop-one.one-index < length ws = omega arith in
    let told : is_none (chunk_fault w.piece w.blob) ≡ false
    = sym (tested_is w.piece c.as_slice.result.now (ap length c.as_slice.ensures ∙ w.sized) c.test.result c.test.ensures.tests ∙ ap (λ b. is_none (chunk_fault w.piece b)) c.as_slice.ensures)
    ∙ c.is_err.ensures.negation ∙ ap not c.if-is_err.true in
    sym (damaged_there ws c.loop-one.one-index w lt c.one-item.is told) ∙ c.loop-one.invariant

pub loop-one-preserved : goal.loop-one-preserved
loop-one-preserved c =
    let ws = c.args.waiting.now in
    let w = c.one-item.result in
    let lt : c.loop-one.one-index < length ws = omega arith in
    let told : is_none (chunk_fault w.piece w.blob) ≡ true
    = sym (tested_is w.piece c.as_slice.result.now (ap length c.as_slice.ensures ∙ w.sized) c.test.result c.test.ensures.tests ∙ ap (λ b. is_none (chunk_fault w.piece b)) c.as_slice.ensures)
    ∙ c.is_err.ensures.negation ∙ ap not c.if-is_err.false in
    sym (whole_there ws c.loop-one.one-index w lt c.one-item.is told) ∙ c.loop-one.invariant
