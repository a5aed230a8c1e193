use Rattle.std.proofs.Common.{sym, ◌∙◌}
use Rattle.job_steps.proofs.VerifyLemmas.{fault_read, ended_read}
use Rattle.job_steps.proofs.stages.Reading.unread.Goals as goal

pub returns-in_default-clause-job : goal.returns-in_default-clause-job
returns-in_default-clause-job c = c.ended.ensures.job ∙ ended_read c.args.self c.args.reply (sym c.fault_told.ensures.fault ∙ c.in_default.is)

pub returns-clause-job : goal.returns-clause-job
returns-clause-job c = c.done.ensures.job ∙ fault_read c.args.self c.args.reply c.in-Some.fault (sym c.fault_told.ensures.fault ∙ c.in-Some.is)
