use Rattle.std.proofs.Common.{sym, ◌∙◌}
use Rattle.store_model.specs.Job.{closing}
use Rattle.store_model.proofs.EndingLemmas.{ends_at_once, ends_first}
use Rattle.job_steps.proofs.ending.ended.Goals as goal

pub returns-then-closes_first-clause-job : goal.returns-then-closes_first-clause-job
returns-then-closes_first-clause-job c = ends_first closing c.args.reply (sym c.closes_first.ensures ∙ c.if-closes_first.true)

pub returns-clause-job : goal.returns-clause-job
returns-clause-job c = ends_at_once closing c.args.reply (sym c.closes_first.ensures ∙ c.if-closes_first.false)
