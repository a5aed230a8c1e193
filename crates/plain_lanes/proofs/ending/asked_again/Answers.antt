use Rattle.std.proofs.Common.{sym, ◌∙◌}
use Rattle.plain_lanes.specs.Closes.{asked_by}
use Rattle.store_model.proofs.EndingLemmas.{again_first, again_refused}
use Rattle.plain_lanes.proofs.ending.asked_again.Goals as goal

pub returns-then-is_refused-clause-job : goal.returns-then-is_refused-clause-job
returns-then-is_refused-clause-job c =
    c.asked.ensures.job ∙ again_first (asked_by c.args.close) c.args.report c.args.reply c.requires.again (sym c.is_refused.ensures ∙ c.if-is_refused.true)

pub returns-clause-job : goal.returns-clause-job
returns-clause-job c =
    c.asked-2.ensures.job ∙ again_refused (asked_by c.args.close) c.args.report c.args.reply c.requires.again (sym c.is_refused.ensures ∙ c.if-is_refused.false)
