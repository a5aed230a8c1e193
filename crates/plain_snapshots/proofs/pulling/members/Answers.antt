use Rattle.std.proofs.Common.{◌≡◌, ◌∙◌, ◌++◌, ◌∷◌, [], ap, arith, rules}
use Rattle.plain_snapshots.proofs.Order.{is_in}
use Rattle.plain_snapshots.proofs.PullLemmas.{kept_more, kept_still}
use Rattle.plain_snapshots.proofs.pulling.members.Goals as goal
use Rattle.plain_snapshots.proofs.pulling.members.Goals.{then-is_of+in_ok-clone+in_ok-push, else-is_of}

pub loop-snapshot-preserved : goal.loop-snapshot-preserved
loop-snapshot-preserved c =
    let test = is_in c.args.group.now in
    let xs = c.args.snapshots.now in
    let i = c.loop-snapshot.snapshot-index in
    let x = c.snapshot-item.result in
    let tested : test x ≡ c.is_of.result = search rules in
    elim c.if-is_of.branch [
      | then-is_of+in_ok-clone+in_ok-push w ↦
          let same : w.in_ok-clone.field-0 ≡ x = search rules in
          kept_more test xs i x (omega arith) c.snapshot-item.is _ _ c.loop-snapshot.invariant (tested ∙ w.if-is_of.true)
          (ap (λ v. v.items) w.found-is ∙ w.in_ok-push.ensures.items ∙ ap (λ y. c.loop-snapshot.found.items ++ y ∷ []) same)
      | else-is_of w ↦ kept_still test xs i x (omega arith) c.snapshot-item.is _ _ c.loop-snapshot.invariant (tested ∙ w.if-is_of.false) (ap (λ v. v.items) w.found-is)
    ]
