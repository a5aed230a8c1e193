use Rattle.prune_rules.specs.Slots.{is_open, number_at, time_at, FirstOf}
use Rattle.prune_rules.proofs.marking.newest_open.Given as goal

abbrev pub invariant-loop-k : goal.invariant-loop-k
invariant-loop-k l =
    FirstOf (is_open l.period l.items l.covered l.bound) (number_at l.period l.items) (time_at l.items) l.order l.fn.from l.k l.newest
