use Rattle.std.proofs.Common.{◌≡◌, length, take}
use Rattle.std.specs.List.{flat_map}
use Rattle.wire_commands.proofs.many.size_of_all.Given as goal

abbrev pub invariant-loop-row : goal.invariant-loop-row
invariant-loop-row g l = l.size ≡ length (flat_map g.R.Row.spelled (take l.row-index l.rows))
