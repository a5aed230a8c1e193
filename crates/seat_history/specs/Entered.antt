-- What an act tells its seat, and what many tell it.
use Rattle.std.specs.Prelude.{ℕ, ◌≡◌, List, [], ◌∷◌, ◌++◌, length}
use mathlib.Core.List.{IsPrefix}
use Rattle.turn_lock.specs.Places.{RisesWithin}
use Rattle.turn_lock.specs.State.{SeatState}
use Rattle.store_history.specs.declared.act.Act.{Act}
use Rattle.store_history.specs.declared.act.Answer.{Answer}
use Rattle.store_history.specs.declared.act.Event.{Event}
use Rattle.store_history.specs.Seats.{picked}

-- the events at the seat's own places; where these rise, in the order of the history
abbrev pub own_events : SeatState Event → List Event
own_events seat = picked seat.seen seat.mine

-- the seat's own places rise, and it has seen them all
abbrev pub OwnRises : SeatState Event → Type 0
OwnRises seat = RisesWithin 0 (length seat.seen) seat.mine

-- the event of an act, as it was answered at this count of the disk's calls
abbrev pub event_at : Act → Answer → ℕ → Event
event_at act answer calls = record { act = act; answer = answer; calls = calls }

-- By this act, so answered, the seat has seen one history, which begins with all that it had seen before and ends with the act. The act's place
-- is one more of the seat's own: what other seats entered meanwhile is none of it.
pub record HasEntered (act : Act) (answer : Answer) (old new : SeatState Event) : Type 0 where
  -- the history as the act found it
  pub before : List Event
  -- some count of calls: that it is the disk's, and that the history is legal, is said of the core behind the turn
  pub calls : ℕ
  pub seen : IsPrefix old.seen before
  pub now : new ≡ record old { seen = before ++ event_at act answer calls ∷ []; mine = old.mine ++ length before ∷ [] }

-- The seat's own events are those that it had at the start, and then these. It has seen no less, and is else as it was.
pub record HasGrown (start now : SeatState Event) (events : List Event) : Type 0 where
  pub same : now ≡ record start { seen = now.seen; mine = now.mine }
  pub seen : IsPrefix start.seen now.seen
  pub rises : OwnRises now
  pub own : own_events now ≡ own_events start ++ events
