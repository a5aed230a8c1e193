use Rattle.std.proofs.Common.{Some, ap, ◌∙◌}
use Rattle.replay.specs.declared.difference.Unequal.{Unequal}
use Rattle.replay.specs.Comparing.{outcome}
use Rattle.replay.proofs.Steps.{none_of, moves, differs}
use Rattle.replay.proofs.comparing.Comparing.take.Goals as goal

pub returns-then-meets : goal.returns-then-meets
returns-then-meets c =
    moves c.args.self.now (none_of c.args.self.now.found cc) c.byte_of-replayed.result c.args.kept c.byte_of-replayed.ensures cc

pub returns : goal.returns
returns c = λ rest.
    ap (λ (u : Unequal). outcome (record c.args.self.now { found = Some u }) rest) c.difference.ensures
    ∙ differs c.args.self.now (none_of c.args.self.now.found cc) c.byte_of-replayed.result c.args.kept c.byte_of-replayed.ensures (cc) rest
