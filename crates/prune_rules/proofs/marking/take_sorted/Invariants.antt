use Rattle.std.proofs.Common.{length}
use Rattle.prune_rules.specs.Slots.{choice, slot_in}
use Rattle.prune_rules.proofs.Rising.{Before}
use Rattle.prune_rules.proofs.marking.take_sorted.Given as goal

abbrev pub invariant-loop-end : goal.invariant-loop-end
invariant-loop-end l =
    Before (choice l.period l.count) (length l.items) (slot_in l.items l.fn.covered l.fn.into) l.order
    (λ k. (slot_in l.items l.covered l.into k).kept) (λ k. (slot_in l.items l.covered l.into k).covered) l.left l.end

abbrev pub decreases-loop-end : goal.decreases-loop-end
decreases-loop-end l = l.end
