use Rattle.std.proofs.Common.{◌||◌, []}
use Rattle.prune_rules.specs.declared.Mark.TheVariants.{Removed}
use Rattle.prune_rules.specs.Slots.{is_kept, runs_at}
use Rattle.prune_rules.proofs.Turning.{Turned}
use Rattle.prune_rules.proofs.marking.keep_others.Given as goal

abbrev pub invariant-loop-i : goal.invariant-loop-i
invariant-loop-i l = Turned is_kept Removed (λ k. l.all || runs_at l.items k) l.fn.into l.into [] 0 l.i
