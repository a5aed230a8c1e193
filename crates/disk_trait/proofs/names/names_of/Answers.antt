use Rattle.std.proofs.Common.{sym, subst, take}
use Rattle.std.specs.FinMap.{empty}
use Rattle.disk_trait.specs.Replay.{played, done}
use Rattle.disk_trait.specs.Replayed.{played_more}
use Rattle.disk_trait.specs.Named.{Names}
use Rattle.disk_trait.specs.declared.step_log.LoggedStep.{LoggedStep}
use Rattle.disk_trait.proofs.NameSets.{names_empty}
use Rattle.disk_trait.proofs.names.names_of.Goals as goal

pub loop-logged-init : goal.loop-logged-init
loop-logged-init c = names_empty c.new-names.result c.new-names.ensures.empty

pub loop-logged-preserved : goal.loop-logged-preserved
loop-logged-preserved c =
    subst (λ m. Names c.update.new.names m) (sym (played_more c.args.log.now c.loop-logged.logged-index c.logged-item.result c.loop-logged-test.true))
    (subst (λ (e : LoggedStep). Names c.update.new.names (done (played empty (take c.loop-logged.logged-index c.args.log.now)) e.step)) c.logged-item.is
    (c.in_ok-update.ensures (played empty (take c.loop-logged.logged-index c.args.log.now)) c.loop-logged.invariant))
