use Rattle.std.proofs.Common.{◌<◌, ◌∙◌, ap, sym, set, length, Some, arith}
use Rattle.std.specs.Prelude.{option_map}
use Rattle.store_model.specs.Job.{asking}
use Rattle.store_model.specs.Lanes.{Lane, Run}
use Rattle.store_model.specs.Weave.{go_on}
use Rattle.plain_lanes.specs.Jobs.{shown_job}
use Rattle.plain_store.proofs.RunLemmas.{at_lane}
use Rattle.plain_store.proofs.run.Run.go_on.Goals as goal

pub returns-in-Asking-clause-goes : goal.returns-in-Asking-clause-goes
unfolding go_on
returns-in-Asking-clause-goes c =
    let k = c.args.lane in
    let left = c.args.left.now in
    let a = c.in-Asking.asking in
    let inside = c.self.inside in
    let r : Run = record { store = inside.store; remote = option_map (λ p. p.now.snapshots) inside.remote; lanes = inside.lanes.items; collecting = inside.collecting; fault = inside.fault } in
    let within : k < length inside.lanes.items = omega (arith, ap (λ (x : Run). length x.lanes) c.self.view_is, c.requires.lane) in
    let here = at_lane r k c.index_mut-lane.result.now within c.index_mut-lane.ensures.value in
    ap (λ (x : Lane). (let y : Run = record r { lanes = set inside.lanes.items k x } in y))
    (c.set_job.ensures ∙ ap (λ (x : Lane). (let y : Lane = record x { left = left; job = Some a } in y)) here)
    ∙ ap (λ (x : Run). go_on x k left (asking a)) c.self.view_is
    ∙ ap (λ j. go_on c.args.self.now k left (shown_job j)) (sym c.in-Asking.is)
