-- What a command of a lane does, or the whole job of one.
use Rattle.std.specs.Prelude.{ℕ, ◌≡◌, Bool, true, false, List, [], ◌∷◌, ◌++◌, None}
use Rattle.wire_commands.specs.declared.command.Command.{Command}
use Rattle.wire_commands.specs.declared.reply.Reply.{Reply}
use Rattle.store_model.specs.Lanes.{Next, command_next, job_step, sync}
use Rattle.store_history.specs.declared.act.Event.{Event}
use Rattle.store_history.specs.LaneRun.{ahead, Position, next_at, is_stopping, may_want_at, may_step}
use Rattle.store_history.specs.Seats.{AreOf}
use Rattle.store_history.specs.SoFar.{Leads}
use Rattle.core_state.specs.History.{History}
use Rattle.shared_store.specs.Comes.{with_events}
use Rattle.lane.specs.declared.acts.Told.{Told}
use Rattle.turn_lock.specs.State.{SeatState}
use Rattle.lane.specs.Acting.{Has}

-- a step of a job, or a SYNC that has not begun
abbrev pub IsStep : Next → Type 0
IsStep (job_step j left) = Unit {0}
IsStep (sync group left) = Unit {0}
IsStep n = ⊥

-- a step that closes the session of a job that was refused, for which no memory is wanting
abbrev pub is_last_step : Next → Bool
is_last_step (job_step j left) = is_stopping j
is_last_step n = false

-- This is next on a lane, and may come: no answer so far was the last, or it closes a job's session. Where it is another step of a job, memory
-- may be wanting.
pub record IsNext (n : Next) (p : Position) : Type 0 where
  pub on : may_step p ≡ true
  pub next : next_at p ≡ ahead n
  pub wants : IsStep n → is_last_step n ≡ false → may_want_at p ≡ true

-- behind a command, or a whole job, that was told this
abbrev pub answered : Position → List ℕ → Reply → Bool → Position
answered p left r is_spent = record p { left = left; task = None; is_unheld = false; is_spent = is_spent; told = p.told ++ r ∷ [] }

-- Acts of the lane were entered, all of a command or of the job of one. Wherever it is next on the lane, with this left behind it,
-- they lead to where it was told.
pub record Does (before after : History → Type 0) (k : ℕ) (n : List ℕ → Next) (told : Told) : Type 0 where
  pub events : List Event
  pub history : (h : History) → before h → after (with_events h (h.events ++ events))
  pub lanes : AreOf k events
  pub leads : (p : Position) (left : List ℕ) → IsNext (n left) p → Leads p events (answered p left told.reply told.last)

-- so a command did between two states of a seat, whatever it had before
abbrev pub SeatDoes : SeatState Event → SeatState Event → ℕ → Command → Told → Type 0
SeatDoes old new k command told =
    (start : SeatState Event) → Does (Has start old) (Has start new) k (command_next command) told
