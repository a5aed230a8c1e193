use Rattle.std.proofs.Common.{◌≡◌, ◌-◌}
use Rattle.wire_commands.proofs.ManyLaws.{are_all}
use Rattle.wire_commands.proofs.many.are_values.Given as goal

abbrev pub invariant-loop-place : goal.invariant-loop-place
invariant-loop-place g l = are_all g.R.Row.read l.count l.bytes ≡ are_all g.R.Row.read (l.count - l._place) l.rest
