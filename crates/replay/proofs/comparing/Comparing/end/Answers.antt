use Rattle.std.proofs.Common.{Some, ap, ◌∙◌}
use Rattle.replay.specs.declared.difference.Unequal.{Unequal}
use Rattle.replay.proofs.Steps.{none_of, is_shorter, is_equal}
use Rattle.replay.proofs.comparing.Comparing.end.Goals as goal

pub returns-in-Some : goal.returns-in-Some
returns-in-Some c =
    ap (λ (u : Unequal). Some u) c.difference.ensures ∙ is_shorter c.args.self.now (none_of c.args.self.now.found cc) c.in-Some.byte cc

pub returns-in-None : goal.returns-in-None
returns-in-None c = is_equal c.args.self.now (none_of c.args.self.now.found cc) cc
