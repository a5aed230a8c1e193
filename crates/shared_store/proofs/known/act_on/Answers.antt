use Rattle.std.proofs.Common.{◌∙◌, sym}
use Rattle.shared_store.proofs.Listing.{acted_not}
use Rattle.shared_store.proofs.known.act_on.Goals as goal

pub returns-else-is_done-clause-next : goal.returns-else-is_done-clause-next
returns-else-is_done-clause-next g c =
    acted_not c.args.core.now c.apply-answer.new.core c.args.lane c.args.act c.apply-answer.result c.apply-answer.ensures.keeps.listed (sym c.is_done.ensures ∙ c.if-is_done.false)
