-- What a lane did between two states of its seat.
use Rattle.std.specs.Prelude.{ℕ, ◌≡◌, List, [], length, Option}
use Rattle.port_traits.specs.declared.source.Source as sources
use Rattle.port_traits.specs.declared.sink.Sink as sinks
use Rattle.port_traits.specs.Bytes.{WritesCounted}
use Rattle.turn_lock.specs.State.{SeatState}
use Rattle.wire_commands.specs.declared.reply.Reply.{Reply}
use Rattle.store_history.specs.declared.act.Event.{Event}
use Rattle.store_history.specs.LaneRun.{text, LaneRan}
use Rattle.store_history.specs.Seats.{AreOf}
use Rattle.core_state.specs.History.{History}
use Rattle.shared_store.specs.Comes.{with_events}
use Rattle.store_history.specs.declared.port.LaneReport.{LaneReport}
use Rattle.store_history.specs.declared.port.Port.{Port}
use Rattle.lane.specs.Acting.{Has}
use Rattle.lane.specs.AtOnce.{gave_all, EndsAtOnce}
use Rattle.lane.specs.Ran.{Took, EndsRead}

-- A lane's events are a run of its program on the input that its source gave, and its sink was given the replies, or a front of
-- them where it failed.
pub record RanAlone (stands : History → Type 0) (h : History) (k : ℕ) (left left' taken taken' : Option (List ℕ)) (report : LaneReport) : Type 0 where
  pub events : List Event
  pub input : List ℕ
  pub told : List Reply
  pub stands_for : stands (with_events h events)
  pub lanes : AreOf k events
  pub ran : LaneRan input report.ending events told
  pub size_is : length input ≡ report.taken
  pub took : Took report.ending left left' input
  pub gave : WritesCounted taken taken' 0 report.given (text told) (gave_all report.ending)
  pub read_out : EndsRead report.ending input events left'
  pub at_once : EndsAtOnce report.ending input events report.given

-- so it ran between two states of its seat, by what the seat has of its own since the first
abbrev pub SeatRan : {S K : Type 0} → sources.Ghosts S → sinks.Ghosts K → SeatState Event → SeatState Event → ℕ → Port S K → Port S K → LaneReport → Type 0
SeatRan source sink old new k port later report =
    (h : History) → h.events ≡ [] → RanAlone (Has old new) h k (source.left port.source) (source.left later.source) (sink.taken port.sink) (sink.taken later.sink) report
