use Rattle.std.proofs.Common.{rules}
use Rattle.sha2.specs.Sha256.{hash_after}
use Rattle.hash_states.specs.States.{state_after}
use Rattle.hash_states.proofs.state.HashState.new.Goals as goal

pub returns : goal.returns
unfolding state_after hash_after
returns c = search rules
