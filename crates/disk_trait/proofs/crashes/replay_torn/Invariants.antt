use Rattle.std.proofs.Common.{take}
use Rattle.disk_trait.specs.CrashImage.{torn}
use Rattle.disk_trait.specs.Remade.{Remakes}
use Rattle.disk_trait.proofs.crashes.replay_torn.Given as goal

abbrev pub invariant-loop-logged : goal.invariant-loop-logged
invariant-loop-logged l = Remakes l.initial.into.items l.into.items (take l.logged-index l.log) (λ files. torn files (take l.logged-index l.log))
