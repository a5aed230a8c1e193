-- What lanes that run at once do to the core.
use Rattle.std.specs.Prelude.{List, length}
use Rattle.disk_trait.specs.declared.disk.Disk.{Ghosts}
use Rattle.port_traits.specs.declared.clock.Clock as clocks
use Rattle.port_traits.specs.declared.source.Source as sources
use Rattle.port_traits.specs.declared.sink.Sink as sinks
use Rattle.store_history.specs.declared.act.Event.{Event}
use Rattle.store_history.specs.Woven.{AreLanes}
use Rattle.core_state.specs.declared.state.Core.{Core}
use Rattle.shared_store.specs.Comes.{ComesTo}
use Rattle.store_history.specs.declared.port.LaneReport.{LaneReport}
use Rattle.store_history.specs.declared.port.Port.{Port}
use Rattle.lane.specs.Served.{EachRan, RanAs, Run}

-- Lanes were served at once on a core that came of such a first one: it came to one history, each lane's own events in it are a run of its
-- program, and it has no others.
pub record RanTogether {D E C S K : Type 0} (d : Ghosts D) (e : Ghosts E) (clock : clocks.Ghosts C) (source : sources.Ghosts S) (sink : sinks.Ghosts K) (is_first : Core D E C → Type 0)
    (old new : List (Port S K)) (core : Core D E C) (reports : List LaneReport) : Type 0 where
  pub events : List Event
  pub runs : List Run
  pub comes : ComesTo d e clock is_first core events
  pub lanes : AreLanes (length old) events
  pub each : EachRan (RanAs source sink) 0 old new reports runs events
