use Rattle.std.proofs.Common.{◌≡◌, ap, rules}
use Rattle.std.specs.Ordering.{is_lt}
use Rattle.std.proofs.lemmas.List.Sorted.{answers_always, ranks_by}
use Rattle.store_types.specs.KeyOrder.{key_cmp_total}
use Rattle.store_types.specs.Names.{key_cmp, key_lt}
use Rattle.store_types.specs.declared.names.SnapshotKey.{SnapshotKey}
use Rattle.snapshot_files.proofs.grouping.ordered.Goals as goal

pub returns : goal.returns
returns c = record {
  same = c.sort_unstable_by.ensures.permutation;
  rising =
      c.sort_unstable_by.ensures.sorted key_lt (ranks_by key_cmp_total (λ (x : SnapshotKey). x))
      (answers_always _ _ _ (λ f a r q k. let e : r ≡ key_cmp a.0.now a.1.0.now = search rules in ap is_lt e));
}
