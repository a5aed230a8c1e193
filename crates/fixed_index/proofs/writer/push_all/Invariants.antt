use Rattle.std.proofs.Common.{◌≡◌, ◌++◌, take}
use Rattle.fixed_index.proofs.Joining.{joined}
use Rattle.fixed_index.proofs.writer.push_all.Given as goal

abbrev pub invariant-loop-digest : goal.invariant-loop-digest
invariant-loop-digest l = l.text.items ≡ l.fn.text.items ++ joined (take l.digest-index l.digests)
