use Rattle.std.proofs.Common.{ap, ◌∙◌}
use Rattle.store_history.specs.Pulling.{time_in, time_of}
use Rattle.pull_steps.proofs.Chosen.{last_got}
use Rattle.pull_steps.proofs.starting.newest_in.Goals as goal

pub returns : goal.returns
returns c = c.time_in.ensures.value ∙ ap time_in c.as_slice.ensures ∙ ap time_of (c.in_ok-text.ensures.value ∙ last_got c.args.here.now)
