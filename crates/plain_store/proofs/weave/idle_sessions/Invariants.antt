use Rattle.std.proofs.Common.{◌≡◌, ◌≤◌, ◌-◌, replicate, vec_len}
use Rattle.store_model.specs.Store.{none}
use Rattle.plain_store.proofs.weave.idle_sessions.Given as goal

abbrev pub invariant-loop-sessions : goal.invariant-loop-sessions
invariant-loop-sessions l = (l.sessions.items ≡ replicate (vec_len l.sessions) none) × (vec_len l.sessions ≤ 64)

abbrev pub decreases-loop-sessions : goal.decreases-loop-sessions
decreases-loop-sessions l = 64 - vec_len l.sessions
