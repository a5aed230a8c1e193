use Rattle.std.proofs.Common.{◌≡◌, ℕ, ◌<◌, ◌≤◌}
use Rattle.prune_rules.specs.Slots.{number_in}
use Rattle.prune_rules.proofs.marking.run_start.Given as goal

abbrev pub invariant-loop-start : goal.invariant-loop-start
invariant-loop-start l =
    (l.start < l.fn.end) × ((k : ℕ) → l.start ≤ k → k < l.fn.end → number_in l.period l.items l.order k ≡ l.number)

abbrev pub decreases-loop-start : goal.decreases-loop-start
decreases-loop-start l = l.start
