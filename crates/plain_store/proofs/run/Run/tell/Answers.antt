use Rattle.std.proofs.Common.{◌<◌, ◌∙◌, ap, set, length, None, arith}
use Rattle.std.specs.Prelude.{option_map}
use Rattle.store_model.specs.Lanes.{Lane, Run, say}
use Rattle.store_model.specs.Weave.{tell}
use Rattle.plain_store.proofs.RunLemmas.{at_lane}
use Rattle.plain_store.proofs.run.Run.tell.Goals as goal

pub returns-clause-told : goal.returns-clause-told
unfolding tell
returns-clause-told c =
    let k = c.args.lane in
    let left = c.args.left.now in
    let reply = c.args.reply in
    let inside = c.self.inside in
    let r : Run = record { store = inside.store; remote = option_map (λ p. p.now.snapshots) inside.remote; lanes = inside.lanes.items; collecting = inside.collecting; fault = inside.fault } in
    let within : k < length inside.lanes.items = omega (arith, ap (λ (x : Run). length x.lanes) c.self.view_is, c.requires.lane) in
    let here = at_lane r k c.index_mut-lane.result.now within c.index_mut-lane.ensures.value in
    ap (λ (x : Lane). (let y : Run = record r { lanes = set inside.lanes.items k x } in y)) (c.in_ok-tell.ensures ∙ ap (λ (x : Lane). say reply (record x { left = left; job = None })) here)
    ∙ ap (λ (x : Run). tell x k left reply) c.self.view_is
