use Rattle.std.proofs.Common.{◌≡◌, ◌-◌}
use Rattle.wire_commands.specs.Fields.{many_at}
use Rattle.wire_commands.proofs.ManyLaws.{prefixed}
use Rattle.wire_commands.proofs.many.values_in.Given as goal

abbrev pub invariant-loop-place : goal.invariant-loop-place
invariant-loop-place g l = many_at g.R.Row.read l.count l.bytes ≡ prefixed l.rows.items (many_at g.R.Row.read (l.count - l._place) l.rest)
