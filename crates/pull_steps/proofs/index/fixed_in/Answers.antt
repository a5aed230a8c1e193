use Rattle.std.proofs.Common.{arith}
use Rattle.pull_steps.proofs.Entered.{fixed_few}
use Rattle.pull_steps.proofs.index.fixed_in.Goals as goal

pub invariant_of-result : goal.invariant_of-result
invariant_of-result c =
    let es = c.in_ok-entries.entries in
    record { limit = omega (arith, fixed_few c.args.bytes.now c.in-Ok.view es.items c.in-Ok.ensures.exact c.in_ok-entries.ensures, es.ok.0) }
