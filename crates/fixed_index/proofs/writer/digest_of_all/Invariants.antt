use Rattle.std.proofs.Common.{take}
use Rattle.sha2.specs.Hashers.{Holds256}
use Rattle.fixed_index.proofs.Joining.{joined}
use Rattle.fixed_index.proofs.writer.digest_of_all.Given as goal

abbrev pub invariant-loop-digest : goal.invariant-loop-digest
invariant-loop-digest l = Holds256 l.hasher (joined (take l.digest-index l.digests))
