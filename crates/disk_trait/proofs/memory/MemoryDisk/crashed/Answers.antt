use Rattle.std.proofs.Common.{subst}
use Rattle.disk_trait.specs.Remade.{IsLeft}
use Rattle.disk_trait.proofs.CrashLemmas.{image_now, image_of_early}
use Rattle.disk_trait.proofs.memory.MemoryDisk.crashed.Goals as goal

pub returns-clause-image : goal.returns-clause-image
returns-clause-image c = λ below.
    let left = subst (λ log. IsLeft c.args.choice log c.in_ok-crash_log.field-0.items) c.deref.ensures.value c.in_ok-crash_log.ensures in
    image_now c.args.self.now.calls c.args.self.now.log.items _ c.args.self.now.done below left.image

pub returns-clause-firm : goal.returns-clause-firm
returns-clause-firm c = λ t f i. c.in_ok-crash_log.ensures.firm f (image_of_early _ t f c.in_ok-crash_log.ensures.early i)
