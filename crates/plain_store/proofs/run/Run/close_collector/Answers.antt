use Rattle.std.proofs.Common.{◌<◌, ◌∙◌, ap, set, length, None, arith}
use Rattle.std.specs.Prelude.{option_map}
use Rattle.store_model.specs.Lanes.{Lane, Run, say}
use Rattle.store_model.specs.Weave.{tell, close_collector}
use Rattle.plain_store.proofs.RunLemmas.{at_lane}
use Rattle.plain_store.proofs.run.Run.close_collector.Goals as goal

pub returns-clause-closed : goal.returns-clause-closed
unfolding close_collector tell
returns-clause-closed c =
    let k = c.args.lane in
    let reply = c.args.reply in
    let inside = c.self.inside in
    let r : Run = record { store = inside.store; remote = option_map (λ p. p.now.snapshots) inside.remote; lanes = inside.lanes.items; collecting = None; fault = inside.fault } in
    let within : k < length inside.lanes.items = omega (arith, ap (λ (x : Run). length x.lanes) c.self.view_is, c.requires.lane) in
    let here = at_lane r k c.index_mut-own.result.now within c.index_mut-own.ensures.value in
    ap (λ (x : Lane). (let y : Run = record r { lanes = set inside.lanes.items k x } in y)) (c.in_ok-tell_here.ensures ∙ ap (λ (x : Lane). say reply (record x { job = None })) here)
    ∙ ap (λ (x : Run). close_collector x k reply) c.self.view_is
