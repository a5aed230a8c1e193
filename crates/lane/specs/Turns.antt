-- What a turn of a lane's loop does.
use Rattle.std.specs.Prelude.{ℕ, ◌≡◌, ◌+◌, ◌<◌, List, Option, Some, None}
use Rattle.port_traits.specs.declared.source.Source as sources
use Rattle.port_traits.specs.declared.sink.Sink as sinks
use Rattle.store_types.specs.declared.refusal.Refusal.{Refusal}
use Rattle.store_types.specs.declared.refusal.Refusal.TheVariants.{BadFrame}
use Rattle.wire_commands.specs.declared.reply.Reply.TheVariants.{Refused}
use Rattle.store_model.specs.declared.ending.Ending.{Ending}
use Rattle.store_model.specs.declared.ending.Ending.TheVariants as endings
use Rattle.core_state.specs.History.{History}
use Rattle.turn_lock.specs.State.{SeatState}
use Rattle.store_history.specs.declared.act.Event.{Event}
use Rattle.lane.specs.declared.ending.Last.{Last}
use Rattle.lane.specs.declared.input.Input.{Input}
use Rattle.store_history.specs.declared.port.Port.{Port}
use Rattle.lane.specs.declared.run.Progress.{Progress}
use Rattle.lane.specs.Acting.{Has}
use Rattle.lane.specs.Causes.{HasCauses}
use Rattle.lane.specs.Progress.{Start, HasServed, HasStopped}

abbrev pub ending_of : Option Last → Option Ending
ending_of None = None
ending_of (Some last) = Some last.ending

-- the lane goes on, or its commands have come to an end
abbrev pub HasDone : (History → Type 0) → Start → ℕ → Option (List ℕ) → Option (List ℕ) → Input → ℕ → Option Last → Type 0
HasDone stands start k left taken input given None = HasServed stands start k left taken input.cutter input.taken given
HasDone stands start k left taken input given (Some last) = HasStopped stands start k left taken input.taken given last.ending last.words

-- what the lane did so far, and this turn, is what it did
abbrev pub GoesOn : (History → Type 0) → (History → Type 0) → ℕ → Option (List ℕ) → Option (List ℕ) → Option (List ℕ) → Option (List ℕ) → Input → Input → ℕ → ℕ → Option Last → Type 0
GoesOn before after k left left' taken taken' old new given given' outcome =
    (start : Start) → HasServed before start k left taken old.cutter old.taken given → HasDone after start k left' taken' new given' outcome

-- The end of an input: between two frames it is clean, else the last frame is cut.
pub data HasEnded (input : Input) (last : Last) : Type 0 where
  between : input.front ≡ input.taken → last ≡ record { ending = endings.Clean; words = None } → HasEnded input last
  within_frame : (input.front ≡ input.taken → ⊥) → last ≡ record { ending = endings.Broken input.front; words = Some (Refused (BadFrame input.front)) } → HasEnded input last

-- ---- of seats and ports

-- whatever the seat had before
abbrev pub SeatGoesOn : {S K : Type 0} → sources.Ghosts S → sinks.Ghosts K → SeatState Event → SeatState Event → ℕ → Port S K → Port S K → Progress → Progress → Option Last → Type 0
SeatGoesOn source sink old new k port later did further outcome =
    (start : SeatState Event) → GoesOn (Has start old) (Has start new) k
    (source.left port.source) (source.left later.source) (sink.taken port.sink) (sink.taken later.sink)
    did.input further.input did.given further.given outcome

-- the cause of how its commands come to an end
abbrev pub TurnHasCauses : {S K : Type 0} → sources.Ghosts S → sinks.Ghosts K → Port S K → Port S K → Progress → Option Last → Type 0
TurnHasCauses source sink port later did outcome =
    HasCauses (source.faults port.source) (source.faults later.source) (sink.faults port.sink) (sink.faults later.sink) (did.input).taken (ending_of outcome)

-- more of the input was taken, or its front has moved
abbrev pub IsFurther : Input → Input → Type 0
IsFurther old new = old.taken + old.front < new.taken + new.front

-- the end at a frame that is refused
abbrev pub broken_at : ℕ → Refusal → Last
broken_at place refusal = record { ending = endings.Broken place; words = Some (Refused refusal) }
