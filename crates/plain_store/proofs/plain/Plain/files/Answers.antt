use Rattle.std.proofs.Common.{◌≡◌, ◌∙◌, ap, refl, sym}
use Rattle.std.specs.Prelude.{option_map}
use Rattle.store_model.specs.Store.{Store, snapshot_named}
use Rattle.store_model.specs.Heads.{key_in}
use Rattle.plain_store.proofs.Stopping.{does_stop, stop_fits}
use Rattle.plain_store.proofs.AdminLemmas.{files_refused, files_no_snapshot, files_goes}
use Rattle.plain_store.proofs.plain.Plain.files.Goals as goal

pub returns-in_err-key-clause-does : goal.returns-in_err-key-clause-does
returns-in_err-key-clause-does c =
    let s = c.args.self.now in
    does_stop (λ key. key) s c.from_residual.result c.in_err-key.field-0.0 (key_in s c.args.lane c.args.snapshot.now) _ c.from_residual.ensures.1 c.in_err-key.ensures.gives
    (files_refused s c.args.lane c.args.snapshot.now)

pub returns-in_err-key-clause-spelled : goal.returns-in_err-key-clause-spelled
returns-in_err-key-clause-spelled c =
    stop_fits c.from_residual.result c.in_err-key.field-0.0 c.from_residual.ensures.1 c.in_err-key.ensures.fits

pub returns-in_default-clause-does : goal.returns-in_default-clause-does
returns-in_default-clause-does c =
    let key = c.in_ok-key.key in
    let listed = c.deref.ensures.value ∙ ap (λ (x : Store). x.snapshots) c.self.view_is in
    let asked = c.snapshot_named.ensures ∙ ap (λ k. snapshot_named k c.deref.result.now) c.as_key.ensures ∙ ap (snapshot_named key) listed in
    let none = sym asked ∙ ap (option_map (λ x. x.now)) c.in_default.is in
    (files_no_snapshot c.args.self.now c.args.lane c.args.snapshot.now key c.in_ok-key.ensures.gives none, refl)

pub returns-in_default-clause-spelled : goal.returns-in_default-clause-spelled
returns-in_default-clause-spelled c = tt

pub returns-clause-does : goal.returns-clause-does
returns-clause-does c =
    let key = c.in_ok-key.key in
    let listed = c.deref.ensures.value ∙ ap (λ (x : Store). x.snapshots) c.self.view_is in
    let asked = c.snapshot_named.ensures ∙ ap (λ k. snapshot_named k c.deref.result.now) c.as_key.ensures ∙ ap (snapshot_named key) listed in
    let found = sym asked ∙ ap (option_map (λ x. x.now)) c.in-Some.is in
    files_goes c.args.self.now c.args.lane c.args.snapshot.now key c.in-Some.found.now c.in_ok-files_reply.field-0 c.in_ok-key.ensures.gives found c.in_ok-files_reply.ensures.reply
