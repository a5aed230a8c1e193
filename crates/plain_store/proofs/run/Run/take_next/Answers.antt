use Rattle.std.proofs.Common.{◌<◌, ◌∙◌, ap, sym, set, length, arith}
use Rattle.std.specs.Prelude.{option_map}
use Rattle.store_model.specs.Lanes.{Lane, Run, lane_at, lane_next}
use Rattle.plain_lanes.specs.Nexts.{left_by}
use Rattle.plain_store.specs.Runs.{run_left}
use Rattle.plain_store.proofs.RunLemmas.{at_lane, next_apart}
use Rattle.plain_store.proofs.run.Run.take_next.Goals as goal

pub returns-clause-next : goal.returns-clause-next
returns-clause-next c =
    let k = c.args.lane in
    let inside = c.self.inside in
    let r : Run = record { store = inside.store; remote = option_map (λ p. p.now.snapshots) inside.remote; lanes = inside.lanes.items; collecting = inside.collecting; fault = inside.fault } in
    let within : k < length inside.lanes.items = omega (arith, ap (λ (x : Run). length x.lanes) c.self.view_is, c.requires.lane) in
    let here = at_lane r k c.index_mut-lane.result.now within c.index_mut-lane.ensures.value in
    c.in_ok-next.ensures.next ∙ ap lane_next here ∙ ap (λ (x : Run). lane_next (lane_at x k)) c.self.view_is
    ∙ sym (next_apart c.args.self.now k c.requires.apart)

pub returns-clause-left : goal.returns-clause-left
returns-clause-left c =
    let k = c.args.lane in
    let n = c.in_ok-next.next in
    let inside = c.self.inside in
    let r : Run = record { store = inside.store; remote = option_map (λ p. p.now.snapshots) inside.remote; lanes = inside.lanes.items; collecting = inside.collecting; fault = inside.fault } in
    let within : k < length inside.lanes.items = omega (arith, ap (λ (x : Run). length x.lanes) c.self.view_is, c.requires.lane) in
    let here = at_lane r k c.index_mut-lane.result.now within c.index_mut-lane.ensures.value in
    ap (λ (x : Lane). (let y : Run = record r { lanes = set inside.lanes.items k x } in y)) (c.in_ok-next.ensures.lane ∙ ap (left_by n) here)
    ∙ ap (λ (x : Run). run_left n x k) c.self.view_is
