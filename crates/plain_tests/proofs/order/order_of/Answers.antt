use Rattle.plain_tests.proofs.Rereading.{read_keeps_rules}
use Rattle.plain_tests.proofs.order.order_of.Goals as goal

pub returns : goal.returns
returns g c = read_keeps_rules c.args.lanes c.deref.result.now c.read_order.result c.must-read.result c.expect.result c.what_is_read_has_one_spelling.ensures c.read_order.ensures c.must-read.ensures c.expect.ensures
