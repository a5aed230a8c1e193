use Rattle.std.proofs.Common.{ℕ, nat_le, sym, rules, arith}
use Rattle.std.proofs.lemmas.List.Sorted.{IsPartitionedBy-leb, IsPartitionPoint-from_clause}
use Rattle.paged_indexes.proofs.Halving.{no_page, page_there}
use Rattle.paged_indexes.proofs.steps.page_with.Goals as goal

pub returns-then-place-ends-clause-value : goal.returns-then-place-ends-clause-value
returns-then-place-ends-clause-value c =
    let ends = c.args.ends.now in
    let offset = c.args.offset in
    let i = c.partition_point-place.result in
    let point = IsPartitionPoint-from_clause (λ x. nat_le x offset) ends i c.partition_point-place.ensures.partitioned
    (IsPartitionedBy-leb (λ (n : ℕ). n) ends offset c.requires) (λ a r q k. search rules) in
    sym (no_page offset ends i c.if-place-ends.true (record { low = λ k d below. point.0 k d (omega arith) below; high = point.1 }))

pub returns-clause-value : goal.returns-clause-value
returns-clause-value c =
    let ends = c.args.ends.now in
    let offset = c.args.offset in
    let i = c.partition_point-place.result in
    let point = IsPartitionPoint-from_clause (λ x. nat_le x offset) ends i c.partition_point-place.ensures.partitioned
    (IsPartitionedBy-leb (λ (n : ℕ). n) ends offset c.requires) (λ a r q k. search rules) in
    sym (page_there offset ends i (omega arith) (record { low = λ k d below. point.0 k d (omega arith) below; high = point.1 }))
