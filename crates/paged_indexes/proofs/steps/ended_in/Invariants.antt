use Rattle.std.proofs.Common.{◌≡◌, ◌+◌, ◌*◌, ◌≤◌, length}
use Rattle.paged_indexes.specs.Steps.{ended_before, entries_of}
use Rattle.paged_indexes.proofs.steps.ended_in.Given as goal

abbrev pub invariant-loop-rest : goal.invariant-loop-rest
invariant-loop-rest l = record {
  value : l.count + ended_before l.offset (entries_of l.rest) ≡ ended_before l.offset (entries_of l.fn.bytes);
  limit : l.count * 40 + length l.rest ≤ length l.fn.bytes;
}

abbrev pub decreases-loop-rest : goal.decreases-loop-rest
decreases-loop-rest l = length l.rest
