use Rattle.std.proofs.Common.{arith}
use Rattle.store_model.specs.declared.ending.Ending.TheVariants as endings
use Rattle.pbs_server.proofs.Remembered.{remembered}
use Rattle.pbs_server.proofs.summing.remember.Goals as goal

pub loop-lane-preserved : goal.loop-lane-preserved
loop-lane-preserved c =
    remembered c.args.lanes.now c.loop-lane.lanes c.loop-lane.lane-index (record { taken = 0; given = 0; ending = endings.Clean }) c.in_memory-lane.result
    (let below = c.loop-lane-test.true in let same = c.loop-lane.auto.lanes in omega (arith, below, same)) c.loop-lane.invariant c.in_memory-lane.ensures
