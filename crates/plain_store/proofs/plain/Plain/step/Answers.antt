use Rattle.plain_store.proofs.Spelled.{refusal_spelled}
use Rattle.plain_store.proofs.Answering.{step_done, step_refused}
use Rattle.plain_store.proofs.plain.Plain.step.Goals as goal

pub returns-in-Ok-clause-step : goal.returns-in-Ok-clause-step
returns-in-Ok-clause-step c =
    step_done c.args.self.now c.outcome.new.self c.args.lane c.args.moment c.args.command.now c.in-Ok.reply c.in-Ok.ensures.does

pub returns-in-Err-Refused-clause-step : goal.returns-in-Err-Refused-clause-step
returns-in-Err-Refused-clause-step c =
    let does = (rw c.in-Err-Refused.field-0-is at c.in-Err-Refused.ensures.does) in
    step_refused c.args.self.now c.outcome.new.self c.args.lane c.args.moment c.args.command.now c.in-Err-Refused.refusal does.0 does.1

pub returns-in-Err-Refused-clause-spelled : goal.returns-in-Err-Refused-clause-spelled
returns-in-Err-Refused-clause-spelled c =
    refusal_spelled c.in-Err-Refused.refusal (rw c.in-Err-Refused.field-0-is at c.in-Err-Refused.ensures.spelled)
