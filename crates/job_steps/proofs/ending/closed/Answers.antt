use Rattle.std.proofs.Common.{sym, ◌∙◌}
use Rattle.store_model.specs.Job.{closing}
use Rattle.store_model.proofs.EndingLemmas.{closed_over, closed_refused, closed_told}
use Rattle.job_steps.proofs.ending.closed.Goals as goal

pub returns-then-is_refused-clause-job : goal.returns-then-is_refused-clause-job
returns-then-is_refused-clause-job c =
    closed_refused closing c.args.report c.args.reply (sym c.leaves_open.ensures ∙ c.if-leaves_open.false) (sym c.is_refused.ensures ∙ c.if-is_refused.true)

pub returns-then-not-is_refused-clause-job : goal.returns-then-not-is_refused-clause-job
returns-then-not-is_refused-clause-job c =
    closed_told closing c.args.report c.args.reply (sym c.is_refused.ensures ∙ c.if-is_refused.false) (sym c.is_refused-2.ensures ∙ c.if-not-is_refused.true)

pub returns-clause-job : goal.returns-clause-job
returns-clause-job c =
    closed_over closing c.args.report c.args.reply (sym c.leaves_open.ensures ∙ c.if-leaves_open.false) (sym c.is_refused.ensures ∙ c.if-is_refused.false)
    (sym c.is_refused-2.ensures ∙ c.if-not-is_refused.false)
