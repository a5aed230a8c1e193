use Rattle.core_collect.proofs.StartLemmas.{opening_stops}
use Rattle.core_collect.proofs.starting.opening.Goals as goal

pub returns-in_err-may_open-clause-value : goal.returns-in_err-may_open-clause-value
returns-in_err-may_open-clause-value g c =
    opening_stops c.args.parts.now c.args.collector.now c.args.at c.in_err-may_open.field-0.0 _ c.from_residual.ensures.1 c.in_err-may_open.ensures
