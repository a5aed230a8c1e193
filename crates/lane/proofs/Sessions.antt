-- A session, as `run_with` tells it, is one of the lanes that run at once.
use Rattle.std.proofs.Common.{◌≤◌, ◌^◌, ℕ, [], None, refl}
use Rattle.port_traits.specs.declared.source.Source as sources
use Rattle.port_traits.specs.declared.sink.Sink as sinks
use Rattle.turn_lock.specs.State.{SeatState}
use Rattle.store_history.specs.declared.act.Event.{Event}
use Rattle.core_state.specs.History.{History, began}
use Rattle.store_history.specs.declared.port.LaneReport.{LaneReport}
use Rattle.store_history.specs.declared.port.Port.{Port}
use Rattle.lane.specs.Causes.{LaneHasCauses}
use Rattle.lane.specs.RanAlone.{SeatRan}
use Rattle.lane.specs.Served.{OneRan, RanAs}

-- some history without events
abbrev nothing_yet : History
nothing_yet = began (record { snapshots = []; moment = 0; touches = []; calls = 0; chunks = [] }) None None

pub one_ran : {S K : Type 0} (source : sources.Ghosts S) (sink : sinks.Ghosts K) (k : ℕ) (old new : Port S K) (report : LaneReport) (before after : SeatState Event)
    → SeatRan source sink before after k old new report → LaneHasCauses source sink old new report → report.taken ≤ 2 ^ 40
    → OneRan (RanAs source sink) k old new report before after
one_ran source sink k old new report before after ran causes budget =
    let r = ran nothing_yet refl in
    record {
      events = r.events;
      run = record { input = r.input; told = r.told };
      grown = r.stands_for;
      lanes = r.lanes;
      so = record {
        ran = r.ran;
        size_is = r.size_is;
        took = r.took;
        gave = r.gave;
        read_out = r.read_out;
        at_once = r.at_once;
        causes = causes;
        budget = budget;
      };
    }
