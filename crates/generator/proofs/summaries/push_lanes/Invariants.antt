use Rattle.std.proofs.Common.{◌≡◌, ◌+◌, ◌++◌, drop}
use Rattle.generator.specs.Summaries.{lane_lines}
use Rattle.generator.proofs.summaries.push_lanes.Given as goal

abbrev pub invariant-loop-i : goal.invariant-loop-i
invariant-loop-i l = l.text.items ++ lane_lines (l.i + 1) (drop l.i l.replies) ≡ l.fn.text.items ++ lane_lines 1 l.replies
