use Rattle.std.proofs.Common.{◌≡◌, subst}
use Rattle.std.specs.Prelude.{IfOk}
use Rattle.store_model.specs.declared.step.Step.{Step}
use Rattle.store_model.specs.JobSteps.{step_outcome}
use Rattle.store_model.specs.Steps.{answered}
use Rattle.plain_store.proofs.JobLemmas.{fits_by}
use Rattle.plain_store.proofs.plain.Plain.do_step.Goals as goal

pub returns-clause-step : goal.returns-clause-step
returns-clause-step c =
    let s = c.args.self.now in
    subst (λ (x : Step). IfOk c.answer_step-told.result (λ r. (c.answer_step-told.new.self, r) ≡ answered s (step_outcome s c.args.lane c.args.moment x))) c.in_ok-step.ensures
    c.answer_step-told.ensures.step

pub returns-clause-fits : goal.returns-clause-fits
returns-clause-fits c =
    let s = c.args.self.now in
    let told =
    subst (λ (x : Step). IfOk c.answer_step-told.result (λ r. (c.answer_step-told.new.self, r) ≡ answered s (step_outcome s c.args.lane c.args.moment x))) c.in_ok-step.ensures
    c.answer_step-told.ensures.step in
    fits_by c.answer_step-told.result s c.answer_step-told.new.self c.args.lane c.args.moment c.args.asking.now c.answer_step-told.ensures.spelled told
