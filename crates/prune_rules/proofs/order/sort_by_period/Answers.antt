use Rattle.std.proofs.Common.{rules, length, ◌∙◌}
use Rattle.std.specs.List.{range_with_len}
use Rattle.std.proofs.lemmas.List.Sorted.{IsPermutation-trans, IsNonDecreasingBy-from_sort_by_key, length_permutation}
use Rattle.std.proofs.lemmas.List.FromFn.{length-range_with_len}
use Rattle.prune_rules.specs.Slots.{number_at}
use Rattle.prune_rules.proofs.Ordering.{rises_by}
use Rattle.prune_rules.proofs.order.sort_by_period.Goals as goal

pub returns-clause-order : goal.returns-clause-order
returns-clause-order c = λ some.
    IsPermutation-trans _ _ _ (c.requires.order c.requires.some) c.sort_unstable_by_key.ensures.permutation

pub returns-clause-rises : goal.returns-clause-rises
returns-clause-rises c =
    let n = length c.args.items.now in
    let permuted = IsPermutation-trans _ _ _ (c.requires.order c.requires.some) c.sort_unstable_by_key.ensures.permutation in
    let number = number_at c.args.period c.args.items.now in
    rises_by number n _ (length_permutation (range_with_len 0 n) _ permuted ∙ length-range_with_len 0 n)
    (IsNonDecreasingBy-from_sort_by_key number _ c.sort_unstable_by_key.ensures.sorted (λ a r q k. search rules))
