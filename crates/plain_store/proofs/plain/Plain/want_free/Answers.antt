use Rattle.std.proofs.Common.{◌∙◌, ap, sym}
use Rattle.std.specs.Prelude.{option_map, position}
use Rattle.store_types.specs.Chain.Refusing.{if_none}
use Rattle.store_types.specs.declared.refusal.Refusal.TheVariants.{SnapshotBusy}
use Rattle.store_model.specs.Store.{Store, snapshot_named, holds_snapshot}
use Rattle.plain_store.proofs.WriterLemmas.{is_there, is_absent}
use Rattle.plain_store.proofs.AdminLemmas.{free_no_snapshot, free_of_holders}
use Rattle.plain_store.proofs.plain.Plain.want_free.Goals as goal

pub returns-then-is_none-clause-test : goal.returns-then-is_none-clause-test
returns-then-is_none-clause-test c =
    let key = c.args.key.now in
    let listed = c.deref.ensures.value ∙ ap (λ (x : Store). x.snapshots) c.self.view_is in
    let none = sym (c.snapshot_named.ensures ∙ ap (snapshot_named key) listed) ∙ ap (option_map (λ x. x.now)) (is_absent c.snapshot_named.result c.if-is_none.ensures) in
    sym (free_no_snapshot c.args.self.now key none)

pub returns-clause-test : goal.returns-clause-test
returns-clause-test c =
    let key = c.args.key.now in
    let listed = c.deref.ensures.value ∙ ap (λ (x : Store). x.snapshots) c.self.view_is in
    let there = is_there c.snapshot_named.result c.if-is_none.ensures in
    let found = sym (c.snapshot_named.ensures ∙ ap (snapshot_named key) listed) ∙ ap (option_map (λ x. x.now)) there.1 in
    let sessions = c.deref-2.ensures.value ∙ ap (λ (x : Store). x.sessions) c.self.view_is in
    c.want_unheld.ensures.test ∙ ap (λ xs. if_none SnapshotBusy (position (holds_snapshot key) xs)) sessions ∙ sym (free_of_holders c.args.self.now key there.0.now found)
