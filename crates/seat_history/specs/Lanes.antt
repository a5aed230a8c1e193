-- Events of several lanes, and seats that have them.
use Rattle.std.specs.Prelude.{ℕ, ◌≡◌, ◌≤◌, ◌<◌, true, List, [], ◌∷◌}
use Rattle.store_types.specs.declared.order.TheConstants.{MEMORY_KIND}
use Rattle.turn_lock.specs.State.{SeatState}
use Rattle.store_history.specs.declared.act.Event.{Event}
use Rattle.store_history.specs.History.{kind, lane, own}
use Rattle.seat_history.specs.Entered.{own_events}

-- every event is of a lane from the first on and below the last
abbrev pub AreWithin : ℕ → ℕ → List Event → Type 0
AreWithin first last [] = Unit {0}
AreWithin first last (e ∷ es) = ((first ≤ lane e) × (lane e < last)) × AreWithin first last es

-- The own events of the seat that two became are of these lanes. Each lane's among them are those of the one seat, below the middle, and of the
-- other from there on.
pub record KeepsLanes (first middle last : ℕ) (one other both : SeatState Event) : Type 0 where
  pub lanes : AreWithin first last (own_events both)
  pub left : (k : ℕ) → first ≤ k → k < middle → own k (own_events both) ≡ own k (own_events one)
  pub right : (k : ℕ) → middle ≤ k → k < last → own k (own_events both) ≡ own k (own_events other)

-- an answer that is marked as the lane's last is one of want of memory
abbrev pub LastsAreWants : List Event → Type 0
LastsAreWants [] = Unit {0}
LastsAreWants (e ∷ es) = ((e.answer).last ≡ true → kind e ≡ MEMORY_KIND) × LastsAreWants es
