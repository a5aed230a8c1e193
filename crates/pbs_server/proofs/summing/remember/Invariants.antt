use Rattle.std.proofs.Common.{◌≡◌, ◌++◌, drop, take}
use Rattle.pbs_server.specs.Generating.{all_as_memory}
use Rattle.pbs_server.proofs.summing.remember.Given as goal

abbrev pub invariant-loop-lane : goal.invariant-loop-lane
invariant-loop-lane l = l.lanes ≡ all_as_memory (take l.lane-index l.fn.lanes) ++ drop l.lane-index l.fn.lanes
