use Rattle.std.proofs.Common.{◌≡◌, ◌∙◌, ap}
use Rattle.wire_commands.specs.declared.reply.Reply.TheVariants.{Keys}
use Rattle.store_model.specs.Store.{Store}
use Rattle.store_model.specs.Heads.{group_in}
use Rattle.store_model.specs.AdminSteps.{group_texts}
use Rattle.plain_store.proofs.Stopping.{does_stop, stop_fits}
use Rattle.plain_store.proofs.AdminLemmas.{group_refused, group_goes}
use Rattle.plain_store.proofs.plain.Plain.group.Goals as goal

pub returns-in_err-group-clause-does : goal.returns-in_err-group-clause-does
returns-in_err-group-clause-does c =
    let s = c.args.self.now in
    does_stop (λ group. group) s c.from_residual.result c.in_err-group.field-0.0 (group_in s c.args.lane c.args.group.now) _ c.from_residual.ensures.1 c.in_err-group.ensures.gives
    (group_refused s c.args.lane c.args.group.now)

pub returns-in_err-group-clause-spelled : goal.returns-in_err-group-clause-spelled
returns-in_err-group-clause-spelled c =
    stop_fits c.from_residual.result c.in_err-group.field-0.0 c.from_residual.ensures.1 c.in_err-group.ensures.fits

pub returns-clause-does : goal.returns-clause-does
returns-clause-does c =
    let g = c.in_ok-group.group in
    let snapshots = c.deref.ensures.value ∙ ap (λ (x : Store). x.snapshots) c.self.view_is in
    group_goes c.args.self.now c.args.lane c.args.group.now g c.in_ok-keys_reply.field-0 c.in_ok-group.ensures.gives (c.in_ok-keys_reply.ensures.reply ∙ ap (λ xs. Keys (group_texts g xs)) snapshots)
