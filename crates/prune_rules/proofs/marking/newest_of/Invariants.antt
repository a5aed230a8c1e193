use Rattle.prune_rules.specs.Slots.{NewestOf}
use Rattle.prune_rules.proofs.marking.newest_of.Given as goal

abbrev pub invariant-loop-i : goal.invariant-loop-i
invariant-loop-i l = NewestOf l.items l.i l.newest
