use Rattle.std.proofs.Common.{◌≡◌, length}
use Rattle.paged_indexes.specs.Steps.{entries_of, stepped}
use Rattle.paged_indexes.proofs.Handed.{HandsRest}
use Rattle.paged_indexes.proofs.steps.hand_on.Given as goal

abbrev pub invariant-loop-rest : goal.invariant-loop-rest
invariant-loop-rest g l = record {
  value : stepped l.end (entries_of l.rest) ≡ stepped l.fn.start (entries_of l.fn.bytes);
  hands : HandsRest g.T.TakesEntries.taken l.fn.start (entries_of l.fn.bytes) l.initial.taker l.end (entries_of l.rest) l.taker;
}

abbrev pub decreases-loop-rest : goal.decreases-loop-rest
decreases-loop-rest g l = length l.rest
