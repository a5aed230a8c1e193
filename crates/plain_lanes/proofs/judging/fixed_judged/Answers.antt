use Rattle.std.proofs.Common.{◌∙◌}
use Rattle.store_model.proofs.VerifyLemmas.{fixed_read}
use Rattle.plain_lanes.proofs.JudgingLemmas.{has_pieces}
use Rattle.plain_lanes.proofs.judging.fixed_judged.Goals as goal

pub fixed_pieces-requires : goal.fixed_pieces-requires
fixed_pieces-requires c = has_pieces c.in-Ok.view c.args.bytes.now c.in-Ok.ensures.exact

pub returns-clause-judged : goal.returns-clause-judged
returns-clause-judged c =
    fixed_read c.args.row.now c.args.bytes.now c.compared.result c.size-total.result c.csum.result.0 c.from_vec.result.items c.compared.ensures.fault
    c.in-Ok.view c.in-Ok.ensures.exact c.size-total.ensures c.csum.ensures (c.from_vec.ensures.items ∙ c.in_ok-pieces.ensures)
