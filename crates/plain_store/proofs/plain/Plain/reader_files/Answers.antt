use Rattle.std.proofs.Common.{◌∙◌, ap, sym}
use Rattle.std.specs.Prelude.{option_map}
use Rattle.store_files.specs.Archive.{Snapshot}
use Rattle.store_model.specs.Store.{Store, snapshot_named}
use Rattle.plain_store.proofs.ReaderLemmas.{files_none, files_some}
use Rattle.plain_store.proofs.plain.Plain.reader_files.Goals as goal

pub returns-in-Some : goal.returns-in-Some
returns-in-Some c =
    let key = c.args.r.now.key in
    let listed = c.deref.ensures.value ∙ ap (λ (x : Store). x.snapshots) c.self.view_is in
    let asked = c.snapshot_named.ensures ∙ ap (λ k. snapshot_named k c.deref.result.now) (c.as_key.ensures ∙ c.key.ensures) ∙ ap (snapshot_named key) listed in
    let found = sym asked ∙ ap (option_map (λ x. x.now)) c.in-Some.is in
    c.deref-in-Some.ensures.value ∙ ap (λ (x : Snapshot). x.files) c.snapshot.view_is
    ∙ sym (files_some c.args.self.now c.args.r.now c.in-Some.snapshot.now found)

pub returns-in-None : goal.returns-in-None
returns-in-None c =
    let key = c.args.r.now.key in
    let listed = c.deref.ensures.value ∙ ap (λ (x : Store). x.snapshots) c.self.view_is in
    let asked = c.snapshot_named.ensures ∙ ap (λ k. snapshot_named k c.deref.result.now) (c.as_key.ensures ∙ c.key.ensures) ∙ ap (snapshot_named key) listed in
    sym (files_none c.args.self.now c.args.r.now (sym asked ∙ ap (option_map (λ x. x.now)) c.in-None.is))
