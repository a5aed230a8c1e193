use Rattle.std.proofs.Common.{◌∙◌}
use Rattle.lane.proofs.Acting.{short_is}
use Rattle.lane.proofs.Caused.{short_causes}
use Rattle.lane.proofs.run.short.Goals as goal

pub returns-clause-causes : goal.returns-clause-causes
returns-clause-causes g c = λ source size. short_causes source source _ _ size c.give.result c.unwrap_or.result c.unwrap_or.ensures (c.give.ensures.causes source size)

pub returns-clause-answers : goal.returns-clause-answers
returns-clause-answers g c = λ seat. record {
  told = c.ask-told.result;
  stop = c.give.result;
  did = c.ask-told.ensures.did seat;
  tells = c.ask-told.ensures.tells;
  gives = c.give.ensures.gives;
  ending_is = c.unwrap_or.ensures ∙ short_is c.give.result;
}
