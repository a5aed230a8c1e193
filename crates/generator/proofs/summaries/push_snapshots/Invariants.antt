use Rattle.std.proofs.Common.{◌≡◌, ◌++◌, take}
use Rattle.std.specs.List.{flat_map}
use Rattle.generator.specs.Summaries.{snapshot_line}
use Rattle.generator.proofs.summaries.push_snapshots.Given as goal

abbrev pub invariant-loop-row : goal.invariant-loop-row
invariant-loop-row l = l.text.items ≡ l.fn.text.items ++ flat_map snapshot_line (take l.row-index l.rows)
