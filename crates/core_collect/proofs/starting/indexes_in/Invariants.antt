use Rattle.std.proofs.Common.{◌≡◌, take}
use Rattle.core_collect.specs.Starting.{indexes_in}
use Rattle.core_collect.proofs.starting.indexes_in.Given as goal

abbrev pub invariant-loop-listed : goal.invariant-loop-listed
invariant-loop-listed l = l.indexes.items ≡ indexes_in (take l.listed-index l.catalogue)
