use Rattle.std.proofs.Common.{sym, subst, ◌∙◌}
use Rattle.pull_steps.specs.Indexes.{GivesIndex}
use Rattle.pull_steps.proofs.Entered.{by_dynamic, by_fixed}
use Rattle.pull_steps.proofs.index.index_in.Goals as goal

pub returns-then-is_fixed : goal.returns-then-is_fixed
returns-then-is_fixed c =
    subst (GivesIndex c.fixed_in.result) (by_fixed c.args.name.now c.args.bytes.now (sym c.is_fixed.ensures ∙ c.if-is_fixed.true)) c.fixed_in.ensures

pub returns-else-is_fixed : goal.returns-else-is_fixed
returns-else-is_fixed c =
    subst (GivesIndex c.dynamic_in.result) (by_dynamic c.args.name.now c.args.bytes.now (sym c.is_fixed.ensures ∙ c.if-is_fixed.false)) c.dynamic_in.ensures
