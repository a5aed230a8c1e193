use Rattle.std.proofs.Common.{◌∙◌}
use Rattle.store_model.proofs.VerifyLemmas.{dynamic_read}
use Rattle.plain_lanes.proofs.JudgingLemmas.{last_same}
use Rattle.plain_lanes.proofs.judging.dynamic_judged.Goals as goal

pub returns-clause-judged : goal.returns-clause-judged
returns-clause-judged c =
    dynamic_read c.args.row.now c.args.bytes.now c.compared.result c.size-total.result c.csum.result.0 c.from_vec.result.items c.compared.ensures.fault
    c.in-Ok.view c.in-Ok.ensures.exact (c.size-total.ensures ∙ last_same c.in-Ok.view.entries) c.csum.ensures (c.from_vec.ensures.items ∙ c.in_ok-pieces.ensures)
