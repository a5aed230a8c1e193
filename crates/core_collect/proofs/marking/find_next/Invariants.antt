use Rattle.gc_plan.specs.Plan.{left_of}
use Rattle.core_collect.proofs.Settling.{HasPassed}
use Rattle.core_collect.proofs.marking.find_next.Given as goal

abbrev pub invariant-loop-alloc : goal.invariant-loop-alloc
invariant-loop-alloc g l = HasPassed g.D.Disk l.fn.parts l.parts l.fn.collector l.collector

abbrev pub decreases-loop-alloc : goal.decreases-loop-alloc
decreases-loop-alloc g l = left_of l.collector.plan
