use Rattle.std.proofs.Common.{option_map}
use Rattle.replay.proofs.Beginning.{begins}
use Rattle.replay.proofs.comparison.replay.Goals as goal

pub returns : goal.returns
returns c =
    begins c.args.store.now.snapshots (option_map (λ p. p.now.snapshots) c.args.remote) c.args.order.now c.args.inputs.now c.requires.rules c.requires.faultless
    c.requires.lanes _ c.in_ok-replayed.replayed c.first_of-endings.ensures c.in_ok-replayed.ensures
