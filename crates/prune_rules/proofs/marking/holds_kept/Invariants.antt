use Rattle.std.proofs.Common.{◌≡◌, ℕ, ◌<◌, ◌≤◌, false}
use Rattle.prune_rules.specs.Slots.{keeps_at, place_of}
use Rattle.prune_rules.proofs.marking.holds_kept.Given as goal

abbrev pub invariant-loop-k : goal.invariant-loop-k
invariant-loop-k l = (k : ℕ) → l.fn.from ≤ k → k < l.k → keeps_at l.period l.items l.into l.number (place_of l.order k) ≡ false
