use Rattle.core_laws.specs.Playing.{ArePlayable}
use Rattle.core_tests.proofs.acts.acts_of.Given as goal

abbrev pub invariant-loop-row : goal.invariant-loop-row
invariant-loop-row g l = record { playable : ArePlayable l.acts.items }
