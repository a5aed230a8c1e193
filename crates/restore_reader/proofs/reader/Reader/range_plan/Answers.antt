use Rattle.restore_reader.proofs.Plainly.{plan_plainly}
use Rattle.restore_reader.proofs.reader.Reader.range_plan.Goals as goal

pub returns-clause-plain : goal.returns-clause-plain
returns-clause-plain c = λ files r shows.
    plan_plainly files r c.args.self.now c.args.name.now c.args.offset c.args.length c.plan.result shows c.plan.ensures.does
