use Rattle.std.proofs.Common.{◌≡◌, map}
use Rattle.plain_lanes.proofs.PruneLemmas.{row_of}
use Rattle.plain_lanes.proofs.prune.rows_meant.Given as goal

abbrev pub invariant-loop-snapshot : goal.invariant-loop-snapshot
invariant-loop-snapshot l = record {
  can_next : (goal.iterator-loop-snapshot).can_next l.snapshot-iterator;
  finite : (goal.iterator-loop-snapshot).is_finite l.snapshot-iterator;
  pushed : l.rows.items ≡ map row_of l.yielded;
}
