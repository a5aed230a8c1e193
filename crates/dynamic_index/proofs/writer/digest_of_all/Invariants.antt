use Rattle.std.proofs.Common.{take}
use Rattle.sha2.specs.Hashers.{Holds256}
use Rattle.dynamic_index.specs.Entries.{spelled}
use Rattle.dynamic_index.proofs.writer.digest_of_all.Given as goal

abbrev pub invariant-loop-entry : goal.invariant-loop-entry
invariant-loop-entry l = Holds256 l.hasher (spelled (take l.entry-index l.entries))
