use Rattle.std.proofs.Common.{◌≡◌, ◌<◌, ◌∙◌, ap, sym, subst, length, arith}
use Rattle.std.specs.Prelude.{option_map, IfOk}
use Rattle.store_model.specs.Lanes.{Run, Next, lane_at, lane_next}
use Rattle.plain_lanes.specs.Nexts.{is_sync_next}
use Rattle.plain_store.proofs.RunLemmas.{at_lane, next_apart}
use Rattle.plain_store.proofs.run.Run.next_is_sync.Goals as goal

pub returns : goal.returns
returns c =
    let k = c.args.lane in
    let inside = c.self.inside in
    let r : Run = record { store = inside.store; remote = option_map (λ p. p.now.snapshots) inside.remote; lanes = inside.lanes.items; collecting = inside.collecting; fault = inside.fault } in
    let within : k < length inside.lanes.items = omega (arith, ap (λ (x : Run). length x.lanes) c.self.view_is, c.requires.lane) in
    let here = at_lane r k c.index.result.now within c.index.ensures in
    let stands = ap lane_next here ∙ ap (λ (x : Run). lane_next (lane_at x k)) c.self.view_is ∙ sym (next_apart c.args.self.now k c.requires.apart) in
    subst (λ (n : Next). IfOk c.next_is_sync.result (λ is_one. is_one ≡ is_sync_next n)) stands c.next_is_sync.ensures
