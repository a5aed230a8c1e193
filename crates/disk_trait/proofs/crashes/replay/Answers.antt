use Rattle.disk_trait.proofs.Remaking.{copy_along}
use Rattle.disk_trait.proofs.crashes.replay.Goals as goal

pub loop-logged-preserved : goal.loop-logged-preserved
loop-logged-preserved c =
    copy_along c.args.into.now.items c.loop-logged.into.items c.args.log.now c.loop-logged.logged-index c.logged-item.result c.loop-logged-test.true c.logged-item.is
    c.push.new.self.items c.in_ok-copied.field-0 c.loop-logged.invariant c.in_ok-copied.ensures c.in_ok-push.ensures.items
