use Rattle.std.proofs.Common.{◌≡◌, map, take}
use Rattle.store_model.specs.Lanes.{new_lane}
use Rattle.plain_store.proofs.weave.new_lanes.Given as goal

abbrev pub invariant-loop-input : goal.invariant-loop-input
invariant-loop-input l = l.lanes.items ≡ map new_lane (take l.input-index l.inputs)
