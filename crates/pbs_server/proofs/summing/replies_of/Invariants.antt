use Rattle.std.proofs.Common.{◌≡◌, take}
use Rattle.pbs_server.specs.Generating.{replies_of}
use Rattle.pbs_server.proofs.summing.replies_of.Given as goal

abbrev pub invariant-loop-port : goal.invariant-loop-port
invariant-loop-port l = l.replies.items ≡ replies_of (take l.port-index l.ports)
