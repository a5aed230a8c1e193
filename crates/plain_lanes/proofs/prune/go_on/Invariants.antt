use Rattle.std.proofs.Common.{◌≡◌, ◌≤◌, ◌+◌, length}
use Rattle.std.specs.Prelude.{All}
use Rattle.wire_commands.specs.HasText.{FitsPruneRow}
use Rattle.store_model.specs.PruneJob.{go_on}
use Rattle.plain_lanes.proofs.prune.go_on.Given as goal

abbrev pub invariant-loop-row : goal.invariant-loop-row
invariant-loop-row l = record {
  same : go_on l.before.items l.later.items ≡ go_on l.initial.before.items l.initial.later.items;
  count : length l.before.items + length l.later.items ≤ 4096;
  done : All FitsPruneRow l.before.items;
  to_come : All FitsPruneRow l.later.items;
}

abbrev pub decreases-loop-row : goal.decreases-loop-row
decreases-loop-row l = length l.later.items
