use Rattle.replay.proofs.Beginning.{finds_replies}
use Rattle.replay.proofs.Pieces.{reads_as}
use Rattle.replay.proofs.comparison.Comparison.found_by.Goals as goal

pub returns-in_ok-unequal-in-Ok-clause-out : goal.returns-in_ok-unequal-in-Ok-clause-out
returns-in_ok-unequal-in-Ok-clause-out g c =
    reads_as _ _ _ _ _ _ c.in_ok-unequal-in-Ok.ensures.difference
    (λ kept is. finds_replies c.args.self.now c.in-Ok.replayed c.as_slice.result.now c.replies_of-replies.result.now kept c.in_ok-unequal-in-Ok.unequal c.or.result
    c.in-Ok.is c.as_slice.ensures.value c.replies_of-replies.ensures is c.or.ensures)
