use Rattle.scenarios.proofs.Rereading.{what_is_read_keeps_rules}
use Rattle.scenarios.proofs.rules.read.Goals as goal

pub returns : goal.returns
returns c = what_is_read_keeps_rules c.args.lanes c.args.file.now c.read_order.result c.what_is_read_has_one_spelling.ensures c.read_order.ensures
