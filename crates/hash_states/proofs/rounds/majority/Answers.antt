use Rattle.hash_states.proofs.Choosing.{major}
use Rattle.hash_states.proofs.rounds.majority.Goals as goal

pub returns : goal.returns
returns g c j lt =
    rw (
      c.xor-3.ensures.value j lt,
      c.and.ensures.value j lt,
      c.xor.ensures.value j lt,
      c.xor-2.ensures.value j lt,
    )
    (major (g.W.Word.lane c.args.x j) (g.W.Word.lane c.args.y j) (g.W.Word.lane c.args.z j))
