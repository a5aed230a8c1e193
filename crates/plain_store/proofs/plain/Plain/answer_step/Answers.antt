use Rattle.store_model.specs.JobSteps.{step_outcome}
use Rattle.plain_store.proofs.Spelled.{refusal_spelled}
use Rattle.plain_store.proofs.JobLemmas.{outcome_told, outcome_refused}
use Rattle.plain_store.proofs.plain.Plain.answer_step.Goals as goal

pub returns-in-Ok-clause-step : goal.returns-in-Ok-clause-step
returns-in-Ok-clause-step c =
    let s = c.args.self.now in
    outcome_told s c.step_outcome.new.self (step_outcome s c.args.lane c.args.moment c.args.step.now) c.in-Ok.reply c.in-Ok.ensures.does

pub returns-in-Err-Refused-clause-step : goal.returns-in-Err-Refused-clause-step
returns-in-Err-Refused-clause-step c =
    let s = c.args.self.now in
    let does = (rw c.in-Err-Refused.field-0-is at c.in-Err-Refused.ensures.does) in
    outcome_refused s c.step_outcome.new.self (step_outcome s c.args.lane c.args.moment c.args.step.now) c.in-Err-Refused.refusal does.0 does.1

pub returns-in-Err-Refused-clause-spelled : goal.returns-in-Err-Refused-clause-spelled
returns-in-Err-Refused-clause-spelled c =
    refusal_spelled c.in-Err-Refused.refusal (rw c.in-Err-Refused.field-0-is at c.in-Err-Refused.ensures.spelled)
