use Rattle.hash_states.proofs.Choosing.{chosen}
use Rattle.hash_states.proofs.rounds.choose.Goals as goal

pub returns : goal.returns
returns g c j lt =
    rw (c.xor-2.ensures.value j lt, c.and.ensures.value j lt, c.xor.ensures.value j lt)
    (chosen _ _ _ (c.and.ensures.small j lt) (c.xor-2.ensures.small j lt))
