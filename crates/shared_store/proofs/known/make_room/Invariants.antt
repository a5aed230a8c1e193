use Rattle.shared_store.specs.Comes.{SameCore}
use Rattle.shared_store.proofs.known.make_room.Given as goal

abbrev pub invariant-loop : goal.invariant-loop
invariant-loop g l = SameCore l.fn.core l.core
