use Rattle.std.proofs.Common.{take}
use Rattle.std.specs.FinMap.{empty}
use Rattle.disk_trait.specs.Replay.{played}
use Rattle.disk_trait.specs.Named.{Names}
use Rattle.disk_trait.proofs.names.names_of.Given as goal

abbrev pub invariant-loop-logged : goal.invariant-loop-logged
invariant-loop-logged l = Names l.names (played empty (take l.logged-index l.log))
