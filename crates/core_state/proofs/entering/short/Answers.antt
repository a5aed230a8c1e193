use Rattle.std.proofs.Common.{refl}
use Rattle.core_state.proofs.Clocks.{entered_for, is_begun}
use Rattle.core_state.proofs.entering.short.Goals as goal

pub returns : goal.returns
returns g c = let at = c.next_place-at.ensures in record {
  moment = _;
  between = _;
  begun = is_begun g.C.Clock.readings _ _ _ _ _ at refl refl refl refl refl refl refl
      c.fill.ensures.same c.fill.ensures.more c.fill.ensures.none_lost c.fill.ensures.filled c.fill.ensures.whole c.fill.ensures.others;
  entered = entered_for g.D.Disk _ _ _ _ c.next_place-at.result _ _ at.lane_is c.enter.ensures;
}
