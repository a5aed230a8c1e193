use Rattle.std.proofs.Common.{sym, ◌∙◌}
use Rattle.plain_lanes.specs.Closes.{asked_by}
use Rattle.store_model.proofs.EndingLemmas.{ends_first, ends_at_once}
use Rattle.plain_lanes.proofs.ending.ended.Goals as goal

pub returns-then-closes_first-clause-job : goal.returns-then-closes_first-clause-job
returns-then-closes_first-clause-job c =
    c.asked.ensures.job ∙ ends_first (asked_by c.args.close) c.args.reply (sym c.closes_first.ensures ∙ c.if-closes_first.true)

pub returns-clause-job : goal.returns-clause-job
returns-clause-job c = ends_at_once (asked_by c.args.close) c.args.reply (sym c.closes_first.ensures ∙ c.if-closes_first.false)
