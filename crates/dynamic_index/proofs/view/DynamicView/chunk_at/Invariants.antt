use Rattle.std.proofs.Common.{◌-◌, ◌<◌, ◌≤◌, length}
use Rattle.dynamic_index.specs.Pieces.{start_of}
use Rattle.dynamic_index.proofs.view.DynamicView.chunk_at.Given as goal

abbrev pub invariant-loop-high : goal.invariant-loop-high
invariant-loop-high l =
    (l.low < l.high) × (l.high ≤ length l.self.entries)
    × (start_of l.self l.low ≤ l.offset) × (l.offset < start_of l.self l.high)

abbrev pub decreases-loop-high : goal.decreases-loop-high
decreases-loop-high l = l.high - l.low
