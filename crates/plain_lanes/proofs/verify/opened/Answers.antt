use Rattle.std.proofs.Common.{sym, ◌∙◌}
use Rattle.plain_lanes.proofs.VerifyLemmas.{opens_done, opens_not}
use Rattle.plain_lanes.proofs.verify.opened.Goals as goal

pub returns-then-is_done-clause-job : goal.returns-then-is_done-clause-job
returns-then-is_done-clause-job c = opens_done c.args.snapshot c.args.reply (sym c.is_done.ensures ∙ c.if-is_done.true)

pub returns-clause-job : goal.returns-clause-job
returns-clause-job c = opens_not c.args.snapshot c.args.reply (sym c.is_done.ensures ∙ c.if-is_done.false)
