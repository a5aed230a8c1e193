use Rattle.std.proofs.Common.{take}
use Rattle.disk_trait.specs.Replay.{played}
use Rattle.disk_trait.specs.Remade.{Remakes}
use Rattle.disk_trait.proofs.crashes.replay.Given as goal

abbrev pub invariant-loop-logged : goal.invariant-loop-logged
invariant-loop-logged l = Remakes l.initial.into.items l.into.items (take l.logged-index l.log) (λ files. played files (take l.logged-index l.log))
