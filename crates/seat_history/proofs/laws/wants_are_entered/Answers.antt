use Rattle.seat_history.proofs.Wants.{memory_is_entered}
use Rattle.seat_history.proofs.laws.wants_are_entered.Goals as goal

pub returns : goal.returns
returns c = memory_is_entered
