use Rattle.std.proofs.Common.{◌≡◌, ◌+◌, ◌++◌, length, map, vec_len, vec_capacity}
use Rattle.job_steps.specs.Rows.{row_of}
use Rattle.job_steps.proofs.prune.push_rows.Given as goal

abbrev pub invariant-loop-snapshot : goal.invariant-loop-snapshot
invariant-loop-snapshot l = record {
  can_next : (goal.iterator-loop-snapshot).can_next l.snapshot-iterator;
  finite : (goal.iterator-loop-snapshot).is_finite l.snapshot-iterator;
  pushed : l.rows.items ≡ l.fn.rows.items ++ map (λ p. row_of (p.0, p.1.now)) l.yielded;
  long : vec_len l.rows ≡ vec_len l.fn.rows + length l.yielded;
  room : vec_capacity l.rows ≡ vec_capacity l.fn.rows;
}
