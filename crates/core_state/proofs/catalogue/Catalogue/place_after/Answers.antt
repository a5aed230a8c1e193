use Rattle.std.proofs.Common.{◌≡◌, ◌∙◌, not, ap, drop, filter, List, sym, subst, rules}
use Rattle.std.specs.Prelude.{AllPairs}
use Rattle.std.proofs.lemmas.List.Sorted.{IsPartitionPoint-from_clause}
use Rattle.std.specs.List.{position_or_len}
use Rattle.store_types.specs.Names.{key_lt}
use Rattle.core_state.specs.declared.kept.Listed.{Listed}
use Rattle.core_state.specs.Catalogued.{NotBehind}
use Rattle.core_state.proofs.OrderLemmas.{behind_is, keys_divide, place_at}
use Rattle.core_state.proofs.catalogue.Catalogue.place_after.Goals as goal

pub returns-clause-value : goal.returns-clause-value
returns-clause-value c =
    let key = c.args.key.now in
    let xs = c.as_slice-listed.result.now in
    let up = subst (AllPairs NotBehind) (sym c.as_slice-listed.ensures.value) c.self.invariant.order in
    let point = IsPartitionPoint-from_clause (λ (x : Listed). not (key_lt key (x.kept).key)) xs c.partition_point.result c.partition_point.ensures.partitioned (keys_divide key xs up) (λ a r q k. search rules) in
    place_at key xs c.partition_point.result c.partition_point.ensures.bound point
    ∙ ap (position_or_len (λ (x : Listed). key_lt key (x.kept).key)) (c.as_slice-listed.ensures.value ∙ ap (λ v. v.listed) c.self.view_is)

pub returns-clause-rest : goal.returns-clause-rest
returns-clause-rest c =
    let key = c.args.key.now in
    let xs = c.as_slice-listed.result.now in
    let up = subst (AllPairs NotBehind) (sym c.as_slice-listed.ensures.value) c.self.invariant.order in
    let point = IsPartitionPoint-from_clause (λ (x : Listed). not (key_lt key (x.kept).key)) xs c.partition_point.result c.partition_point.ensures.partitioned (keys_divide key xs up) (λ a r q k. search rules) in
    subst (λ (l : List Listed). drop c.partition_point.result l ≡ filter (λ (x : Listed). key_lt key (x.kept).key) l)
    (c.as_slice-listed.ensures.value ∙ ap (λ v. v.listed) c.self.view_is)
    (sym (behind_is key xs c.partition_point.result point))
