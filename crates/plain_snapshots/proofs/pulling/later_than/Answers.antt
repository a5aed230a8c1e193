use Rattle.std.proofs.Common.{◌≡◌, ◌∙◌, ◌++◌, ◌∷◌, [], sym, ap, arith, rules}
use Rattle.std.specs.Prelude.{option_map}
use Rattle.store_model.specs.SyncJob.{is_later}
use Rattle.plain_snapshots.proofs.PullLemmas.{kept_more, kept_still}
use Rattle.plain_snapshots.proofs.pulling.later_than.Goals as goal
use Rattle.plain_snapshots.proofs.pulling.later_than.Goals.{then-is_later+in_ok-clone+in_ok-push, else-is_later}

pub loop-snapshot-preserved : goal.loop-snapshot-preserved
loop-snapshot-preserved c =
    let test = is_later (option_map (λ key. key.now) c.args.newest) in
    let xs = c.args.members.now in
    let i = c.loop-snapshot.snapshot-index in
    let x = c.snapshot-item.result in
    elim c.if-is_later.branch [
      | then-is_later+in_ok-clone+in_ok-push w ↦
          let same : w.in_ok-clone.field-0 ≡ x = search rules in
          kept_more test xs i x (omega arith) c.snapshot-item.is _ _ c.loop-snapshot.invariant (sym c.is_later.ensures ∙ w.if-is_later.true)
          (ap (λ v. v.items) w.later-is ∙ w.in_ok-push.ensures.items ∙ ap (λ y. c.loop-snapshot.later.items ++ y ∷ []) same)
      | else-is_later w ↦ kept_still test xs i x (omega arith) c.snapshot-item.is _ _ c.loop-snapshot.invariant (sym c.is_later.ensures ∙ w.if-is_later.false) (ap (λ v. v.items) w.later-is)
    ]
