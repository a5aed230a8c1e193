use Rattle.seat_history.proofs.Picking.{grown_more}
use Rattle.seat_history.proofs.laws.acts_grow.Goals as goal

pub returns : goal.returns
returns c = grown_more
