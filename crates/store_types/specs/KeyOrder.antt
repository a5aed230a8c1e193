-- The orders of groups and snapshots are total.
use Rattle.std.specs.Cmp.{IsTotalOrder, IsEquivalence, then_total, on_total, nat_cmp_total, eq_by_cmp_equiv}
use Rattle.std.specs.Cmp.Lexicographic.{nat_list_cmp_total}
use Rattle.store_types.specs.declared.names.GroupKey.{GroupKey}
use Rattle.store_types.specs.declared.names.SnapshotKey.{SnapshotKey}
use Rattle.store_types.specs.Names.{kind_rank, group_of_key, group_cmp, same_group, key_cmp, same_key}

pub group_cmp_total : IsTotalOrder group_cmp
group_cmp_total = then_total (on_total (λ (g : GroupKey). kind_rank g.kind) nat_cmp_total) (on_total (λ (g : GroupKey). g.id) nat_list_cmp_total)

pub key_cmp_total : IsTotalOrder key_cmp
key_cmp_total = then_total (on_total group_of_key group_cmp_total) (on_total (λ (k : SnapshotKey). k.time) nat_cmp_total)

pub same_group_equiv : IsEquivalence same_group
same_group_equiv = eq_by_cmp_equiv group_cmp_total

pub same_key_equiv : IsEquivalence same_key
same_key_equiv = eq_by_cmp_equiv key_cmp_total
