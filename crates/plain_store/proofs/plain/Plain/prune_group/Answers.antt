use Rattle.std.proofs.Common.{◌≡◌, ◌∙◌, ap, refl, sym}
use Rattle.wire_commands.specs.declared.reply.Reply.TheVariants.{Keys}
use Rattle.store_model.specs.Store.{Store}
use Rattle.store_model.specs.Heads.{idle_group}
use Rattle.store_model.specs.AdminSteps.{group_texts}
use Rattle.plain_store.proofs.Stopping.{does_stop, stop_fits}
use Rattle.plain_store.proofs.AdminLemmas.{prune_refused, prune_too_many, prune_goes}
use Rattle.plain_store.proofs.plain.Plain.prune_group.Goals as goal

pub returns-in_err-group-clause-does : goal.returns-in_err-group-clause-does
returns-in_err-group-clause-does c =
    let s = c.args.self.now in
    does_stop (λ group. group) s c.from_residual.result c.in_err-group.field-0.0 (idle_group s c.args.lane c.args.group.now) _ c.from_residual.ensures.1 c.in_err-group.ensures.gives
    (prune_refused s c.args.lane c.args.group.now c.args.keep.now)

pub returns-in_err-group-clause-spelled : goal.returns-in_err-group-clause-spelled
returns-in_err-group-clause-spelled c =
    stop_fits c.from_residual.result c.in_err-group.field-0.0 c.from_residual.ensures.1 c.in_err-group.ensures.fits

pub returns-then-not-counts_fit-clause-does : goal.returns-then-not-counts_fit-clause-does
returns-then-not-counts_fit-clause-does c =
    (prune_too_many c.args.self.now c.args.lane c.args.group.now c.args.keep.now c.in_ok-group.group c.in_ok-group.ensures.gives (sym c.counts_fit.ensures ∙ c.if-not-counts_fit.true), refl)

pub returns-clause-does : goal.returns-clause-does
returns-clause-does c =
    let snapshots = c.deref.ensures.value ∙ ap (λ (x : Store). x.snapshots) c.self.view_is in
    let g = c.in_ok-group.group in
    prune_goes c.args.self.now c.args.lane c.args.group.now c.args.keep.now g c.in_ok-group.ensures.gives c.in_ok-keys_reply.field-0 (sym c.counts_fit.ensures ∙ c.if-not-counts_fit.false)
    (c.in_ok-keys_reply.ensures.reply ∙ ap (λ xs. Keys (group_texts g xs)) snapshots)
