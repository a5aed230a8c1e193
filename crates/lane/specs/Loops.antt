-- What a lane's loop keeps.
use Rattle.std.specs.Prelude.{ℕ, ◌≡◌, ◌≤◌, List, [], Option}
use Rattle.turn_lock.specs.State.{SeatState}
use Rattle.store_history.specs.declared.act.Event.{Event}
use Rattle.core_state.specs.History.{History}
use Rattle.lane.specs.declared.input.Input.{Input}
use Rattle.lane.specs.Acting.{Has}
use Rattle.lane.specs.Progress.{HasServed}

-- from a history without events the lane came to where it is
abbrev pub HasBegun : SeatState Event → SeatState Event → ℕ → Option (List ℕ) → Option (List ℕ) → Option (List ℕ) → Option (List ℕ) → Input → ℕ → Type 0
HasBegun first now k left left' taken taken' input given =
    (h : History) → h.events ≡ [] → HasServed (Has first now) (record { history = h; left = left; taken = taken }) k left' taken' input.cutter input.taken given

-- no port's count of faults has fallen
pub record Keeps (source source' sink sink' : ℕ) : Type 0 where
  pub source_later : source ≤ source'
  pub sink_later : sink ≤ sink'
