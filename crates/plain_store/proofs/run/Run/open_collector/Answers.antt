use Rattle.std.proofs.Common.{◌<◌, ◌∙◌, ap, set, length, Some, false, arith}
use Rattle.std.specs.Prelude.{option_map}
use Rattle.store_model.specs.Lanes.{Lane, Run}
use Rattle.store_model.specs.Weave.{open_collector}
use Rattle.plain_store.proofs.RunLemmas.{at_lane}
use Rattle.plain_store.proofs.run.Run.open_collector.Goals as goal

pub returns-clause-opened : goal.returns-clause-opened
unfolding open_collector
returns-clause-opened c =
    let k = c.args.lane in
    let left = c.args.left.now in
    let inside = c.self.inside in
    let r : Run = record { store = inside.store; remote = option_map (λ p. p.now.snapshots) inside.remote; lanes = inside.lanes.items; collecting = inside.collecting; fault = inside.fault } in
    let within : k < length inside.lanes.items = omega (arith, ap (λ (x : Run). length x.lanes) c.self.view_is, c.requires) in
    let here = at_lane r k c.index_mut-own.result.now within c.index_mut-own.ensures.value in
    ap (λ (x : Lane). (let y : Run = record r { lanes = set inside.lanes.items k x; collecting = Some (record { lane = k; is_out_of_memory = false }) } in y))
    (c.set_left.ensures ∙ ap (λ (x : Lane). (let y : Lane = record x { left = left } in y)) here)
    ∙ ap (λ (x : Run). open_collector x k left) c.self.view_is
