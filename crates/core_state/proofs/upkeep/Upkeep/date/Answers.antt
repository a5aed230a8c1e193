use Rattle.std.proofs.Common.{ap, ◌∙◌}
use Rattle.atime_book.specs.Present.{is_among}
use Rattle.core_state.specs.Upkeeps.{touched_in}
use Rattle.core_state.proofs.upkeep.Upkeep.date.Goals as goal

pub returns : goal.returns
returns c = record {
  last = λ d. c.touch_each.ensures d ∙ ap (λ ds. touched_in c.args.self.now.book ds c.args.moment d) c.deref.ensures.value;
  undated = λ d. ap (is_among d) c.clear.ensures.items;
}
