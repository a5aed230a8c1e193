use Rattle.std.proofs.Common.{◌≡◌, map, take}
use Rattle.store_model.specs.ArchiveSteps.{named}
use Rattle.core_writer.proofs.archives.pairs_of.Given as goal

abbrev pub invariant-loop-entry : goal.invariant-loop-entry
invariant-loop-entry l = l.pairs.items ≡ map named (take l.entry-index l.entries)
