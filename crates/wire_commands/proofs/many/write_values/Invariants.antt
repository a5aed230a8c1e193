use Rattle.std.proofs.Common.{◌≤◌, take, true}
use Rattle.std.specs.List.{flat_map}
use Rattle.port_traits.specs.Bytes.{WritesCounted}
use Rattle.wire_commands.proofs.many.write_values.Given as goal

abbrev pub invariant-loop-row : goal.invariant-loop-row
invariant-loop-row g l = record {
  bytes : WritesCounted (g.K.Sink.taken l.fn.sink) (g.K.Sink.taken l.sink) l.fn.given l.given (flat_map g.R.Row.spelled (take l.row-index l.rows)) true;
  later : g.K.Sink.faults l.fn.sink ≤ g.K.Sink.faults l.sink;
}
