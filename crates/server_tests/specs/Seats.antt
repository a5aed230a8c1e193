-- Seats that threads hand on.
use Rattle.std.specs.Prelude.{◌≡◌, false}
use Rattle.turn_lock.specs.State.{SeatState}

-- the seat has no turn, and its reach is as it was
abbrev pub ComesBackIdle : {E : Type 0} → SeatState E → SeatState E → Type 0
ComesBackIdle old new = (new.turn ≡ old.turn) × (new.holding ≡ false) × (new.reach ≡ old.reach)
