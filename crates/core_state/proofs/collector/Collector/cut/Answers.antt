use Rattle.std.proofs.Common.{◌∙◌, sym}
use Rattle.core_state.proofs.Collecting.{cut_before, cut_now}
use Rattle.core_state.proofs.collector.Collector.cut.Goals as goal

pub returns-then-is_some : goal.returns-then-is_some
returns-then-is_some c = cut_before c.args.self.now (sym c.is_some.ensures ∙ c.if-is_some.true)

pub returns : goal.returns
returns c = cut_now c.args.self.now _ (sym c.is_some.ensures ∙ c.if-is_some.false)
