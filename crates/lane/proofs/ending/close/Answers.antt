use Rattle.lane.proofs.Closings.{closed_quietly, closed, closed_in_fault}
use Rattle.lane.proofs.ending.close.Goals as goal

pub returns-in_default-clause-closes : goal.returns-in_default-clause-closes
returns-in_default-clause-closes g c = λ seat start left size s. closed_quietly _ _ start c.args.lane left _ size _ _ _ (c.end.ensures.ends seat) c.in_default.is s

pub returns-in-Ok-clause-closes : goal.returns-in-Ok-clause-closes
returns-in-Ok-clause-closes g c = λ seat start left size s.
    closed _ _ start c.args.lane left _ _ size _ _ _ _ c.in-Some.words (c.end.ensures.ends seat) c.in-Some.is s c.in-Ok.ensures.bytes

pub returns-clause-closes : goal.returns-clause-closes
returns-clause-closes g c = λ seat start left size s.
    closed_in_fault _ _ start c.args.lane left _ _ size _ _ _ _ c.in-Some.words (c.end.ensures.ends seat) c.in-Some.is s c.in-Err.ensures.bytes
