use Rattle.std.proofs.Common.{arith}
use Rattle.pull_steps.proofs.Entered.{dynamic_few, dynamic_read}
use Rattle.pull_steps.proofs.index.dynamic_in.Goals as goal

pub invariant_of-result : goal.invariant_of-result
invariant_of-result c =
    let es = c.in_ok-entries.entries in
    record { limit = omega (arith, dynamic_few c.args.bytes.now c.in-Ok.view es.items c.in-Ok.ensures.exact c.in_ok-entries.ensures, es.ok.0) }

pub returns : goal.returns
returns c =
    dynamic_read c.args.name.now c.args.bytes.now c.in-Ok.view c.in_ok-clone.field-0 c.in_ok-entries.entries.items c.size.result c.csum.result c.in-Ok.ensures.exact
    c.in_ok-clone.ensures.cases c.in_ok-entries.ensures c.size.ensures c.csum.ensures
