use Rattle.std.proofs.Common.{ℕ, ◌/◌, ◌^◌, bit_xor, ap, arith}
use Rattle.hash_states.proofs.Rotating.{rotated-two}
use Rattle.hash_states.proofs.rounds.small_sigma0.Goals as goal

pub returns : goal.returns
returns g c j lt =
    rw (
      c.xor-2.ensures.value j lt,
      c.rotate-2.ensures.value j lt,
      c.xor.ensures.value j lt,
      c.rotate.ensures.value j lt,
      c.shift.ensures j lt,
    )
    (ap (λ (y : ℕ). bit_xor y (g.W.Word.lane c.args.x j / 2 ^ 3))
    (rotated-two _ 7 11 (c.rotate.ensures.small j lt) (omega arith) (omega arith) (omega arith)))
