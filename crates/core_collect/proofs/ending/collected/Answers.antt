use Rattle.std.proofs.Common.{arith}
use Rattle.core_collect.proofs.EndLemmas.{collected_has_text}
use Rattle.core_collect.proofs.ending.collected.Goals as goal

pub returns-clause-text : goal.returns-clause-text
returns-clause-text c =
    collected_has_text c.args.start c.args.cutoff c.args.used c.args.pending c.args.removed (omega arith, omega arith, omega arith, omega arith, omega arith)
