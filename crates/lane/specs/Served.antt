-- What lanes that run at once do.
use Rattle.disk_trait.specs.declared.disk.Disk.{Ghosts}
use Rattle.std.specs.Prelude.{ℕ, ◌≡◌, ◌≤◌, ◌+◌, ◌^◌, false, List, [], ◌∷◌, length}
use Rattle.port_traits.specs.Bytes.{WritesCounted}
use Rattle.port_traits.specs.declared.clock.Clock as clocks
use Rattle.port_traits.specs.declared.source.Source as sources
use Rattle.port_traits.specs.declared.sink.Sink as sinks
use Rattle.turn_lock.specs.State.{SeatState, TableId}
use Rattle.wire_commands.specs.declared.reply.Reply.{Reply}
use Rattle.store_history.specs.declared.act.Event.{Event}
use Rattle.store_history.specs.History.{own}
use Rattle.store_history.specs.LaneRun.{LaneRan, text}
use Rattle.store_history.specs.Seats.{AreOf}
use Rattle.seat_history.specs.Entered.{HasGrown, OwnRises, own_events}
use Rattle.seat_history.specs.Lanes.{AreWithin}
use Rattle.store_history.specs.declared.port.LaneReport.{LaneReport}
use Rattle.store_history.specs.declared.port.Port.{Port}
use Rattle.lane.specs.AtOnce.{gave_all, EndsAtOnce}
use Rattle.lane.specs.Causes.{LaneHasCauses}
use Rattle.lane.specs.Ran.{EndsRead, Took}

-- what a lane's source gave, and what the lane told
pub record Run : Type 0 where
  pub input : List ℕ
  pub told : List Reply

-- A seat that serves so many lanes, from the first on, is of this turn and does not have it, can be split into as many, and has entered nothing.
pub record CanServe (turn : TableId) (seat : SeatState Event) (first n : ℕ) : Type 0 where
  pub own : seat.turn ≡ turn
  pub idle : seat.holding ≡ false
  pub none : seat.mine ≡ []
  pub some : 1 ≤ n
  pub reach : n ≤ seat.reach
  pub lanes : first + n ≤ 64

-- ---- lanes of any kind, of which `ran` says that one ran by these events of its own

module _ {U : Type 0} (ran : U → U → LaneReport → Run → List Event → Type 0) where
  -- a lane ran, and its seat's own events grew by the lane's
  pub record OneRan (k : ℕ) (old new : U) (report : LaneReport) (before after : SeatState Event) : Type 0 where
    pub events : List Event
    pub run : Run
    pub grown : HasGrown before after events
    pub lanes : AreOf k events
    pub so : ran old new report run events

  -- Each of the lanes from k on ran, by its own among these events, in their order.
  abbrev pub EachRan : ℕ → List U → List U → List LaneReport → List Run → List Event → Type 0
  EachRan k [] [] [] [] es = Unit {0}
  EachRan k (o ∷ os) (n ∷ ns) (r ∷ rs) (x ∷ xs) es = ran o n r x (own k es) × EachRan (k + 1) os ns rs xs es
  EachRan k _ _ _ _ es = ⊥

  -- These lanes were served with a seat that has seen and entered more, and is else as it was: its own events are those of these lanes.
  pub record AreServed (first : ℕ) (old new : List U) (reports : List LaneReport) (before after : SeatState Event) : Type 0 where
    pub runs : List Run
    pub same : after ≡ record before { seen = after.seen; mine = after.mine }
    pub rises : OwnRises after
    pub lanes : AreWithin first (first + length old) (own_events after)
    pub each : EachRan first old new reports runs (own_events after)

-- ---- lanes with a source and a sink

-- A lane's own events are a run of its program on what its source gave, to the ending that is reported, which has its cause. Its sink was given
-- what it told, or a front of it where the sink failed, and then it made no act more but its end.
pub record RanAs {S K : Type 0} (source : sources.Ghosts S) (sink : sinks.Ghosts K) (old new : Port S K) (report : LaneReport) (run : Run) (events : List Event) : Type 0 where
  pub ran : LaneRan run.input report.ending events run.told
  pub size_is : length run.input ≡ report.taken
  pub took : Took report.ending (source.left old.source) (source.left new.source) run.input
  pub gave : WritesCounted (sink.taken old.sink) (sink.taken new.sink) 0 report.given (text run.told) (gave_all report.ending)
  pub read_out : EndsRead report.ending run.input events (source.left new.source)
  pub at_once : EndsAtOnce report.ending run.input events report.given
  pub causes : LaneHasCauses source sink old new report
  pub budget : report.taken ≤ 2 ^ 40
