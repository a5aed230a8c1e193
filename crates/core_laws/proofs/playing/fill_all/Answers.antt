use Rattle.std.proofs.Common.{◌∙◌}
use Rattle.core_laws.proofs.Filling.{filled_more, none_filled, same_core}
use Rattle.core_laws.proofs.playing.fill_all.Goals as goal

pub loop-lane-init : goal.loop-lane-init
loop-lane-init g c = record { same = same_core c.args.core.now; whole = none_filled c.args.core.now }

pub loop-lane-preserved : goal.loop-lane-preserved
loop-lane-preserved g c =
    let is = c.loop-lane.invariant.same in
    let filled = c.in_ok-fill.ensures in record {
      same = record {
        parts = is.parts;
        remote = is.remote;
        clock = is.clock;
        entries = record { entries = (filled.same).entries ∙ (is.entries).entries; calls = (filled.same).calls ∙ (is.entries).calls };
        upkeep = is.upkeep;
        collector = is.collector;
        last = is.last;
        fault = is.fault;
      };
      whole = filled_more c.loop-lane.core.journal _ c.loop-lane.lane c.loop-lane.invariant.whole filled.ok;
    }
