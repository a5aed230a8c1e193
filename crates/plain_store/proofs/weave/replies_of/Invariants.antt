use Rattle.std.proofs.Common.{◌≡◌, map}
use Rattle.plain_store.proofs.weave.replies_of.Given as goal

abbrev pub invariant-loop-lane : goal.invariant-loop-lane
invariant-loop-lane l = l.replies.items ≡ map (λ lane. lane.told) l.yielded
