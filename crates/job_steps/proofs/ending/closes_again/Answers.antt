use Rattle.std.proofs.Common.{sym, ◌∙◌}
use Rattle.store_model.specs.Job.{closing}
use Rattle.store_model.proofs.EndingLemmas.{again_first, again_refused}
use Rattle.job_steps.proofs.ending.closes_again.Goals as goal

pub returns-then-is_refused-clause-job : goal.returns-then-is_refused-clause-job
returns-then-is_refused-clause-job c = again_first closing c.args.report c.args.reply c.requires.again (sym c.is_refused.ensures ∙ c.if-is_refused.true)

pub returns-clause-job : goal.returns-clause-job
returns-clause-job c = again_refused closing c.args.report c.args.reply c.requires.again (sym c.is_refused.ensures ∙ c.if-is_refused.false)
