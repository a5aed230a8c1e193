use Rattle.std.proofs.Common.{◌≡◌, sym, ap, subst, ◌∙◌}
use Rattle.std.specs.Prelude.{OnOk}
use Rattle.store_model.specs.Lanes.{Run}
use Rattle.store_model.specs.SyncJob.{to_pull}
use Rattle.store_model.specs.Weave.{go_on}
use Rattle.plain_store.proofs.RunLemmas.{pulls_begun, pulls_refused}
use Rattle.plain_store.proofs.run.Run.begin_sync.Goals as goal

pub returns-in-Ok-clause-begun : goal.returns-in-Ok-clause-begun
returns-in-Ok-clause-begun c =
    let r = c.args.self.now in
    let k = c.args.lane in
    let group = c.args.group.now in
    let left = c.args.left.now in
    let pulled = ap (λ (x : Run). to_pull x.remote x.store k group) (sym c.self.view_is) ∙ c.in-Ok.ensures.gives in
    let told = ap (go_on r k left) c.pull_all-job.ensures.job ∙ pulls_begun r k group left c.in-Ok.snapshots.items pulled in
    subst (λ (x : Run). OnOk c.go_on.result (c.go_on.new.self ≡ x)) told c.go_on.ensures.goes

pub returns-in-Err-Refused-clause-begun : goal.returns-in-Err-Refused-clause-begun
returns-in-Err-Refused-clause-begun c =
    let r = c.args.self.now in
    let k = c.args.lane in
    let group = c.args.group.now in
    let given = (rw c.in-Err-Refused.field-0-is at c.in-Err-Refused.ensures.gives) in
    let pulled = ap (λ (x : Run). to_pull x.remote x.store k group) (sym c.self.view_is) ∙ given in
    let told = pulls_refused r k group c.args.left.now c.in-Err-Refused.refusal pulled in
    subst (λ (x : Run). OnOk c.tell.result (c.tell.new.self ≡ x)) told c.tell.ensures.told
