use Rattle.std.proofs.Common.{ℕ, ◌^◌, length, Option, Some, None}
use Rattle.prune_rules.specs.Slots.{choice, slot_in}
use Rattle.prune_rules.proofs.Taking.{Reached}
use Rattle.prune_rules.proofs.marking.take_any.Given as goal

abbrev pub invariant-loop-left : goal.invariant-loop-left
invariant-loop-left l =
    Reached (choice l.period l.count) (length l.items) (slot_in l.items l.fn.covered l.fn.into)
    (λ k. (slot_in l.items l.covered l.into k).kept) (λ k. (slot_in l.items l.covered l.into k).covered) l.bound l.left

-- no bound is above each number
abbrev height : Option ℕ → ℕ
height None = 2 ^ 64
height (Some bound) = bound

abbrev pub decreases-loop-left : goal.decreases-loop-left
decreases-loop-left l = height l.bound
