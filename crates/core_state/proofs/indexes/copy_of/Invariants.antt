use Rattle.std.proofs.Common.{◌≡◌, take}
use Rattle.core_state.proofs.indexes.copy_of.Given as goal

abbrev pub invariant-loop-name : goal.invariant-loop-name
invariant-loop-name l = l.copy.items ≡ take l.name-index l.names
