use Rattle.std.proofs.Common.{◌≡◌, ◌∙◌, ◌-◌, true, false, length, take, drop, filter, List, sym, ap, subst, rules}
use Rattle.std.specs.List.{list_all}
use Rattle.std.specs.List.Sorted.{IsPartitionPoint, IsPartitionedBy}
use Rattle.std.specs.Prelude.{AllPairs}
use Rattle.std.proofs.lemmas.List.Sorted.{IsPartitionPoint-from_clause}
use Rattle.core_state.specs.declared.kept.Listed.{Listed}
use Rattle.core_state.specs.Catalogued.{NotBehind}
use Rattle.core_state.specs.Named.{is_named_snapshot}
use Rattle.core_state.proofs.OrderLemmas.{before, group_is, groups_divide, in_group, rest_divides, slice_named}
use Rattle.core_state.proofs.Partitions.{tail_is}
use Rattle.core_state.proofs.catalogue.Catalogue.group.Goals as goal

pub returns-clause-value : goal.returns-clause-value
returns-clause-value c =
    let group = c.args.group.now in
    let xs = c.as_slice-listed.result.now in
    let start = c.partition_point-start.result in
    let count = c.partition_point-count.result in
    let up = subst (AllPairs NotBehind) (sym c.as_slice-listed.ensures.value) c.self.invariant.order in
    let point = IsPartitionPoint-from_clause (before group) xs start c.partition_point-start.ensures.partitioned (groups_divide group xs up) (λ a r q k. search rules) in
    let tail = tail_is start xs in
    let inner =
    IsPartitionPoint-from_clause (in_group group) (take (length xs - start) (drop start xs)) count c.partition_point-count.ensures.partitioned
    (subst (IsPartitionedBy (in_group group)) (sym tail) (rest_divides group xs start up point)) (λ a r q k. search rules) in
    ap (take count) tail
    ∙ sym (group_is group xs start up point count (subst (λ (l : List Listed). IsPartitionPoint (λ x. in_group group x ≡ true) (λ x. in_group group x ≡ false) l count) tail inner))
    ∙ ap (filter (in_group group)) (c.as_slice-listed.ensures.value ∙ ap (λ v. v.listed) c.self.view_is)

pub returns-clause-named : goal.returns-clause-named
returns-clause-named c =
    let group = c.args.group.now in
    slice_named (in_group group) c.args.self.now.listed _ (returns-clause-value c)
    (subst (λ v. list_all is_named_snapshot v.listed ≡ true) c.self.view_is c.self.invariant.named)
