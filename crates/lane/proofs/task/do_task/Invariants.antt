use Rattle.turn_lock.specs.State.{SeatState}
use Rattle.shared_store.specs.Comes.{CanAct}
use Rattle.store_model.specs.Lanes.{command_next}
use Rattle.store_history.specs.declared.act.Event.{Event}
use Rattle.lane.specs.Acting.{Has}
use Rattle.lane.specs.Tasks.{HasStepped, MayGoOn}
use Rattle.lane.proofs.task.do_task.Given as goal

abbrev pub invariant-loop : goal.invariant-loop
invariant-loop g l =
    ((start : SeatState Event) → HasStepped (Has start l.fn.seat) (Has start l.seat) l.lane (command_next l.command) (g.J.Task.stage l.task) l.last)
    × MayGoOn (g.J.Task.stage l.task) l.last
    × CanAct l.shared.turn.id l.seat
