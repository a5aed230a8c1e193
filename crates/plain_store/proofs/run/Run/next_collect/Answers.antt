use Rattle.std.proofs.Common.{◌∙◌, ap}
use Rattle.plain_lanes.specs.Nexts.{left_of_collect}
use Rattle.plain_store.proofs.RunLemmas.{none_open}
use Rattle.plain_store.proofs.run.Run.next_collect.Goals as goal

pub returns-clause-left : goal.returns-clause-left
returns-clause-left c = c.behind_collect-left.ensures ∙ ap left_of_collect c.in_ok-next.ensures.next

pub returns-clause-same : goal.returns-clause-same
returns-clause-same c = c.in_ok-next.ensures.left ∙ none_open c.args.self.now c.args.lane c.in_ok-next.next c.requires.idle
