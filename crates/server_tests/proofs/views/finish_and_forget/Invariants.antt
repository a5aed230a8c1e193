use Rattle.std.proofs.Common.{◌≡◌}
use Rattle.seat_history.specs.Entered.{OwnRises}
use Rattle.shared_store.specs.Comes.{CanAct}
use Rattle.server_tests.specs.Seats.{ComesBackIdle}
use Rattle.server_tests.proofs.views.finish_and_forget.Given as goal

abbrev pub invariant-loop-number : goal.invariant-loop-number
invariant-loop-number g l = record {
  can : CanAct l.store.turn.id l.seat;
  rises : OwnRises l.seat;
  back : ComesBackIdle l.fn.seat l.seat;
  own : l.seat.turn ≡ l.view.store.now.turn.id;
}
