use Rattle.std.proofs.Common.{◌≡◌, ap, ◌∙◌}
use Rattle.std.specs.Prelude.{option_map}
use Rattle.store_model.specs.Lanes.{Run}
use Rattle.store_model.specs.Steps.{step}
use Rattle.store_model.specs.Weave.{with_store}
use Rattle.plain_store.specs.Runs.{begun_at}
use Rattle.plain_store.proofs.RunLemmas.{command_begun}
use Rattle.plain_store.proofs.run.Run.begin_command.Goals as goal

pub returns-in_ok-tell-in-Plain-clause-enters : goal.returns-in_ok-tell-in-Plain-clause-enters
unfolding with_store
returns-in_ok-tell-in-Plain-clause-enters c =
    let r = c.args.self.now in
    let k = c.args.lane in
    let moment = c.args.moment in
    let command = c.in-Plain.command in
    let left = c.args.left.now in
    let inside = c.self.inside in
    let s = c.step-told.new.self in
    let told : Run = record { store = s; remote = option_map (λ p. p.now.snapshots) inside.remote; lanes = inside.lanes.items; collecting = inside.collecting; fault = inside.fault } in
    let stored : inside.store ≡ r.store = ap (λ (x : Run). x.store) c.self.view_is in
    let done = c.in_ok-reply-in-Plain.ensures.step ∙ ap (λ x. step x k moment command) stored in
    ap (λ a. begun_at r k moment a left) c.in-Plain.is
    ∙ command_begun r k moment left command s c.in_ok-reply-in-Plain.reply told c.tell.new.self done (ap (λ (x : Run). with_store x s) c.self.view_is) c.in_ok-tell-in-Plain.ensures.told
