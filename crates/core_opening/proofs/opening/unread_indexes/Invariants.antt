use Rattle.std.proofs.Common.{◌≡◌, ◌≤◌, ◌-◌, replicate, vec_len}
use Rattle.core_state.specs.declared.indexes.Indexes.TheVariants.{Unread}
use Rattle.core_opening.proofs.opening.unread_indexes.Given as goal

abbrev pub invariant-loop-indexes : goal.invariant-loop-indexes
invariant-loop-indexes l = (l.indexes.items ≡ replicate (vec_len l.indexes) Unread) × (vec_len l.indexes ≤ 64)

abbrev pub decreases-loop-indexes : goal.decreases-loop-indexes
decreases-loop-indexes l = 64 - vec_len l.indexes
