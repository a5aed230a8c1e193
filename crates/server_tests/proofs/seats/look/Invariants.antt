use Rattle.server_tests.specs.Seats.{ComesBackIdle}
use Rattle.server_tests.proofs.seats.look.Given as goal

abbrev pub invariant-loop : goal.invariant-loop
invariant-loop l = ComesBackIdle l.fn.seat l.seat
