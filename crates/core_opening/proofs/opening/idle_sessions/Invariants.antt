use Rattle.std.proofs.Common.{◌≡◌, ◌≤◌, ◌-◌, replicate, vec_len}
use Rattle.core_state.specs.declared.kept.Session.TheVariants.{Idle}
use Rattle.core_opening.proofs.opening.idle_sessions.Given as goal

abbrev pub invariant-loop-sessions : goal.invariant-loop-sessions
invariant-loop-sessions l = (l.sessions.items ≡ replicate (vec_len l.sessions) Idle) × (vec_len l.sessions ≤ 64)

abbrev pub decreases-loop-sessions : goal.decreases-loop-sessions
decreases-loop-sessions l = 64 - vec_len l.sessions
