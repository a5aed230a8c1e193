use Rattle.std.proofs.Common.{◌≡◌, ◌∙◌, ap, rules}
use Rattle.std.specs.Prelude.{option_map}
use Rattle.store_model.specs.Store.{Store}
use Rattle.store_model.specs.Heads.{after_in}
use Rattle.store_model.specs.AdminSteps.{listed}
use Rattle.wire_commands.specs.declared.reply.Reply.TheVariants.{Listing}
use Rattle.plain_store.proofs.Stopping.{does_stop, stop_fits}
use Rattle.plain_store.proofs.AdminLemmas.{list_refused, list_goes}
use Rattle.plain_store.proofs.plain.Plain.list.Goals as goal

pub returns-in_err-after-clause-does : goal.returns-in_err-after-clause-does
returns-in_err-after-clause-does c =
    does_stop (λ key. key) _ c.from_residual.result c.in_err-after.field-0.0 (after_in c.args.self.now c.args.lane c.args.after.now) _ c.from_residual.ensures.1 c.in_err-after.ensures.gives (list_refused c.args.self.now c.args.lane c.args.after.now)

pub returns-in_err-after-clause-spelled : goal.returns-in_err-after-clause-spelled
returns-in_err-after-clause-spelled c =
    stop_fits c.from_residual.result c.in_err-after.field-0.0 c.from_residual.ensures.1 c.in_err-after.ensures.fits

pub returns-clause-does : goal.returns-clause-does
returns-clause-does c =
    let s = c.args.self.now in
    let after = c.in_ok-after.after in
    let told = c.in_ok-list_reply.ensures.reply in
    let snapshots = c.deref.ensures.value ∙ ap (λ (x : Store). x.snapshots) c.self.view_is in
    let shown : option_map (λ key. key.now) c.map-after.result ≡ after = search rules in
    list_goes s c.args.lane c.args.after.now after c.in_ok-list_reply.field-0 c.in_ok-after.ensures.gives
    (told ∙ ap (λ o. Listing (listed c.deref.result.now o)) shown ∙ ap (λ xs. Listing (listed xs after)) snapshots)
