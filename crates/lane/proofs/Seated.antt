-- What a run leaves of its seat.
use Rattle.std.proofs.Common.{◌≡◌, List, [], None, refl}
use Rattle.turn_lock.specs.State.{SeatState}
use Rattle.store_history.specs.declared.act.Event.{Event}
use Rattle.core_state.specs.History.{History, began}
use Rattle.seat_history.specs.Entered.{HasGrown, OwnRises}

-- it has grown, by these events
pub record Grew (old new : SeatState Event) : Type 0 where
  pub events : List Event
  pub grown : HasGrown old new events

-- some history without events
nothing_yet : History
nothing_yet = began (record { snapshots = []; moment = 0; touches = []; calls = 0; chunks = [] }) None None

-- the seat has seen and entered more, and is else as it was
pub same_seat : (old new : SeatState Event) → ((h : History) → h.events ≡ [] → Grew old new) → new ≡ record old { seen = new.seen; mine = new.mine }
unfolding nothing_yet
same_seat old new ran = ((ran nothing_yet refl).grown).same

pub rises_still : (old new : SeatState Event) → ((h : History) → h.events ≡ [] → Grew old new) → OwnRises new
unfolding nothing_yet
rises_still old new ran = ((ran nothing_yet refl).grown).rises
