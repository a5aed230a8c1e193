use Rattle.std.proofs.Common.{◌≡◌, ◌+◌, ◌++◌, map, take, vec_len, vec_capacity}
use Rattle.store_model.specs.PruneJob.{item_of}
use Rattle.job_steps.proofs.prune.push_items.Given as goal

abbrev pub invariant-loop-snapshot : goal.invariant-loop-snapshot
invariant-loop-snapshot l = record {
  pushed : l.items.items ≡ l.fn.items.items ++ map item_of (take l.snapshot-index l.snapshots);
  long : vec_len l.items ≡ vec_len l.fn.items + l.snapshot-index;
  room : vec_capacity l.items ≡ vec_capacity l.fn.items;
}
