use Rattle.server_tests.specs.Seats.{ComesBackIdle}
use Rattle.server_tests.proofs.hashing.list_often.Given as goal

abbrev pub invariant-loop : goal.invariant-loop
invariant-loop g l = ComesBackIdle l.fn.seat l.seat
