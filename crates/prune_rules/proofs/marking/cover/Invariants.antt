use Rattle.std.proofs.Common.{false}
use Rattle.prune_rules.specs.Slots.{is_finished_in}
use Rattle.prune_rules.proofs.Turning.{Turned}
use Rattle.prune_rules.proofs.marking.cover.Given as goal

abbrev pub invariant-loop-k : goal.invariant-loop-k
invariant-loop-k l = Turned (λ b. b) false (is_finished_in l.period l.items l.number) l.fn.covered l.covered l.order l.fn.from l.k
