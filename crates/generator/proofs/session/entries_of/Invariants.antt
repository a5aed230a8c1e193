use Rattle.std.proofs.Common.{◌≡◌, ◌*◌, ◌≤◌, ◌++◌, drop}
use Rattle.generator.specs.Archives.{entries_from}
use Rattle.generator.proofs.session.entries_of.Given as goal

abbrev pub invariant-loop-fact : goal.invariant-loop-fact
invariant-loop-fact l = record {
  so_far : l.entries.items ++ entries_from l.offset (drop l.fact-index l.made) ≡ entries_from 0 l.made;
  limit : l.offset ≤ l.fact-index * 4_294_967_296;
}
