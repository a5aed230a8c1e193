use Rattle.std.proofs.Common.{◌≡◌}
use Rattle.sha2.specs.Sha256.{hash_after}
use Rattle.hash_states.proofs.blocks.after_blocks.Given as goal

abbrev pub invariant-blocks-2 : goal.invariant-blocks-2
invariant-blocks-2 l = l.value ≡ hash_after l.fn.value l.bytes l.i
