use Rattle.std.proofs.Common.{arith}
use Rattle.hash_states.proofs.Rotating.{rotated-three}
use Rattle.hash_states.proofs.rounds.big_sigma0.Goals as goal

pub returns : goal.returns
returns g c j lt =
    rw (
      c.rotate-3.ensures.value j lt,
      c.xor-2.ensures.value j lt,
      c.rotate-2.ensures.value j lt,
      c.xor.ensures.value j lt,
      c.rotate.ensures.value j lt,
    )
    (rotated-three _ 2 11 9 (c.rotate.ensures.small j lt) (omega arith) (omega arith) (omega arith) (omega arith))
