use Rattle.std.proofs.Common.{◌≡◌, map}
use Rattle.std.specs.List.{range_with_len}
use Rattle.pbs_server.specs.Generating.{port_of}
use Rattle.pbs_server.proofs.generating.ports_of.Given as goal

abbrev pub invariant-loop-k : goal.invariant-loop-k
invariant-loop-k l = l.ports.items ≡ map port_of (range_with_len 0 l.k)
