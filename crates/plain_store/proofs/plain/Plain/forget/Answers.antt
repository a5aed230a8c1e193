use Rattle.std.proofs.Common.{◌≡◌, ◌∙◌, ap, Ok, Err, rules}
use Rattle.store_model.specs.Store.{without_snapshot}
use Rattle.store_model.specs.Heads.{idle_key}
use Rattle.store_model.specs.AdminSteps.{want_free}
use Rattle.plain_store.proofs.Spelled.{done_spelled}
use Rattle.plain_store.proofs.Stopping.{does_refuse, does_stop, refusal_fits, stop_fits}
use Rattle.plain_store.proofs.AdminLemmas.{forget_refused, forget_not_free, forget_as}
use Rattle.plain_store.proofs.plain.Plain.forget.Goals as goal

pub returns-in_err-key-clause-does : goal.returns-in_err-key-clause-does
returns-in_err-key-clause-does c =
    let s = c.args.self.now in
    does_stop (λ key. key) s c.from_residual.result c.in_err-key.field-0.0 (idle_key s c.args.lane c.args.snapshot.now) _ c.from_residual.ensures.1 c.in_err-key.ensures.gives
    (forget_refused s c.args.lane c.args.snapshot.now)

pub returns-in_err-key-clause-spelled : goal.returns-in_err-key-clause-spelled
returns-in_err-key-clause-spelled c =
    stop_fits c.from_residual.result c.in_err-key.field-0.0 c.from_residual.ensures.1 c.in_err-key.ensures.fits

pub returns-in_err-want_free-clause-does : goal.returns-in_err-want_free-clause-does
returns-in_err-want_free-clause-does c =
    let s = c.args.self.now in
    let r = c.in_err-want_free.field-0.0 in
    let key = c.in_ok-key.key in
    let busy : want_free s key ≡ Err r = search rules in
    does_refuse _ c.from_residual-in_err-want_free.result r _ c.from_residual-in_err-want_free.ensures.1 (forget_not_free s c.args.lane c.args.snapshot.now key c.in_ok-key.ensures.gives r busy)

pub returns-in_err-want_free-clause-spelled : goal.returns-in_err-want_free-clause-spelled
returns-in_err-want_free-clause-spelled c =
    refusal_fits c.from_residual-in_err-want_free.result c.in_err-want_free.field-0.0 c.from_residual-in_err-want_free.ensures.1 c.in_err-want_free.ensures.fits

pub returns-clause-does : goal.returns-clause-does
returns-clause-does c =
    let s = c.args.self.now in
    let key = c.in_ok-key.key in
    let free : want_free s key ≡ Ok tt = search rules in
    let before = c.self.inside.snapshots.items in
    let gone = c.remove_snapshot.ensures ∙ ap (λ k. without_snapshot k before) c.as_key-2.ensures in
    forget_as s c.args.lane c.args.snapshot.now key c.in_ok-key.ensures.gives free before c.remove_snapshot.new.snapshots.items c.self.inside.sessions.items c.self.view_is gone

pub returns-clause-spelled : goal.returns-clause-spelled
returns-clause-spelled c = done_spelled
