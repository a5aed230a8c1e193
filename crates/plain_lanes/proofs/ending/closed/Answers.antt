use Rattle.std.proofs.Common.{sym, ◌∙◌}
use Rattle.plain_lanes.specs.Closes.{asked_by}
use Rattle.store_model.proofs.EndingLemmas.{closed_refused, closed_told, closed_over}
use Rattle.plain_lanes.proofs.ending.closed.Goals as goal

pub returns-then-is_refused-clause-job : goal.returns-then-is_refused-clause-job
returns-then-is_refused-clause-job c =
    closed_refused (asked_by c.args.close) c.args.report c.args.reply (sym c.leaves_open.ensures ∙ c.if-leaves_open.false) (sym c.is_refused.ensures ∙ c.if-is_refused.true)

pub returns-then-not-is_refused-clause-job : goal.returns-then-not-is_refused-clause-job
returns-then-not-is_refused-clause-job c =
    closed_told (asked_by c.args.close) c.args.report c.args.reply (sym c.is_refused.ensures ∙ c.if-is_refused.false) (sym c.is_refused-2.ensures ∙ c.if-not-is_refused.true)

pub returns-clause-job : goal.returns-clause-job
returns-clause-job c =
    closed_over (asked_by c.args.close) c.args.report c.args.reply (sym c.leaves_open.ensures ∙ c.if-leaves_open.false) (sym c.is_refused.ensures ∙ c.if-is_refused.false)
    (sym c.is_refused-2.ensures ∙ c.if-not-is_refused.false)
