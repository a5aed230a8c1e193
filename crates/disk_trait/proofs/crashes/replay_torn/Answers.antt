use Rattle.std.proofs.Common.{◌∙◌, ap, subst}
use Rattle.disk_trait.specs.Remade.{IsTorn}
use Rattle.disk_trait.proofs.Remaking.{torn_along, none_along}
use Rattle.disk_trait.proofs.crashes.replay_torn.Goals as goal
use Rattle.disk_trait.proofs.crashes.replay_torn.Goals.{in-Some+in_ok-push-in-Some, in-None}

pub loop-logged-preserved : goal.loop-logged-preserved
loop-logged-preserved c =
    let old = c.args.into.now.items in let mid = c.loop-logged.into.items in let log = c.args.log.now in
    let i = c.loop-logged.logged-index in let e = c.logged-item.result in
    elim c.match-branch-2.branch [
      | in-Some+in_ok-push-in-Some w ↦
          torn_along old mid log i e c.loop-logged-test.true c.logged-item.is c.match-branch-2.into.items w.in-Some.step c.loop-logged.invariant
          (subst (IsTorn e.step) w.in-Some.is c.in_ok-step.ensures) (ap (λ v. v.items) w.into-is ∙ w.in_ok-push-in-Some.ensures.items)
      | in-None w ↦
          rw w.into-is (none_along old mid log i e c.loop-logged-test.true c.logged-item.is c.loop-logged.invariant (subst (IsTorn e.step) w.in-None.is c.in_ok-step.ensures))
    ]
