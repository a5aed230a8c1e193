use Rattle.std.proofs.Common.{◌≡◌, ◌∙◌, ap, refl, sym}
use Rattle.std.specs.Prelude.{option_map}
use Rattle.store_model.specs.Store.{Store, snapshot_named}
use Rattle.store_model.specs.Heads.{idle_key}
use Rattle.plain_store.proofs.Spelled.{done_spelled}
use Rattle.plain_store.proofs.Stopping.{does_stop, stop_fits}
use Rattle.plain_store.proofs.WriterLemmas.{is_there, is_absent}
use Rattle.plain_store.proofs.ReaderLemmas.{open_refused, open_no_snapshot, open_goes}
use Rattle.plain_store.proofs.plain.Plain.open_reader.Goals as goal

pub returns-in_err-key-clause-does : goal.returns-in_err-key-clause-does
returns-in_err-key-clause-does c =
    let s = c.args.self.now in
    does_stop (λ key. key) s c.from_residual.result c.in_err-key.field-0.0 (idle_key s c.args.lane c.args.snapshot.now) _ c.from_residual.ensures.1 c.in_err-key.ensures.gives
    (open_refused s c.args.lane c.args.snapshot.now)

pub returns-in_err-key-clause-spelled : goal.returns-in_err-key-clause-spelled
returns-in_err-key-clause-spelled c =
    stop_fits c.from_residual.result c.in_err-key.field-0.0 c.from_residual.ensures.1 c.in_err-key.ensures.fits

pub returns-then-is_none-clause-does : goal.returns-then-is_none-clause-does
returns-then-is_none-clause-does c =
    let key = c.in_ok-key.key in
    let listed = c.deref.ensures.value ∙ ap (λ (x : Store). x.snapshots) c.self.view_is in
    let asked = c.snapshot_named.ensures ∙ ap (λ k. snapshot_named k c.deref.result.now) c.as_key.ensures ∙ ap (snapshot_named key) listed in
    let none = sym asked ∙ ap (option_map (λ x. x.now)) (is_absent c.snapshot_named.result c.if-is_none.ensures) in
    (open_no_snapshot c.args.self.now c.args.lane c.args.snapshot.now key c.in_ok-key.ensures.gives none, refl)

pub returns-then-is_none-clause-spelled : goal.returns-then-is_none-clause-spelled
returns-then-is_none-clause-spelled c = tt

pub returns-clause-does : goal.returns-clause-does
returns-clause-does c =
    let key = c.in_ok-key.key in
    let listed = c.deref.ensures.value ∙ ap (λ (x : Store). x.snapshots) c.self.view_is in
    let asked = c.snapshot_named.ensures ∙ ap (λ k. snapshot_named k c.deref.result.now) c.as_key.ensures ∙ ap (snapshot_named key) listed in
    let there = is_there c.snapshot_named.result c.if-is_none.ensures in
    let found = sym asked ∙ ap (option_map (λ x. x.now)) there.1 in
    open_goes c.args.self.now c.args.lane c.args.snapshot.now key there.0.now c.new-r.result c.set_held.new.self c.in_ok-key.ensures.gives found c.new-r.ensures c.set_held.ensures

pub returns-clause-spelled : goal.returns-clause-spelled
returns-clause-spelled c = done_spelled
