use Rattle.std.proofs.Common.{◌≡◌, [], length}
use Rattle.order_file.specs.Progress.{begun, entries_at, joined}
use Rattle.order_file.proofs.reading.entries_in.Given as goal

abbrev pub invariant-loop-rest : goal.invariant-loop-rest
invariant-loop-rest l =
    joined l.progress l.entries.items (entries_at l.rest) ≡ joined (begun l.lanes) [] (entries_at l.fn.bytes)

abbrev pub decreases-loop-rest : goal.decreases-loop-rest
decreases-loop-rest l = length l.rest
