use Rattle.std.proofs.Common.{◌∙◌, sym, ap, rules, tests}
use Rattle.std.proofs.lemmas.Bool.{false≢true}
use Rattle.std.proofs.lemmas.List.Sorted.{answers_always}
use Rattle.std.specs.FinMap.{is_sorted}
use Rattle.std.specs.Ordering.{is_lt}
use Rattle.store_types.specs.Names.{text_cmp}
use Rattle.plain_snapshots.proofs.Searching.{tested}
use Rattle.plain_snapshots.proofs.stored.Folder.of.Goals as goal

pub invariant_of-t-8 : goal.invariant_of-t-8
invariant_of-t-8 c =
    let by_names = c.is_sorted_by.ensures.cases (λ x y. is_lt (text_cmp x.0 y.0)) (answers_always _ _ _ (λ f a r g called. search (rules, tests))) in
    let told = tested c.deref.result.now c.is_sorted_by.result by_names in
    ap (is_sorted text_cmp) (sym c.deref.ensures.value) ∙ sym told ∙ c.if-is_sorted_by.true

pub returns-else-is_sorted_by : goal.returns-else-is_sorted_by
returns-else-is_sorted_by c = λ h.
    let by_names = c.is_sorted_by.ensures.cases (λ x y. is_lt (text_cmp x.0 y.0)) (answers_always _ _ _ (λ f a r g called. search (rules, tests))) in
    let told = tested c.deref.result.now c.is_sorted_by.result by_names in
    absurd (false≢true (sym c.if-is_sorted_by.false ∙ told ∙ ap (is_sorted text_cmp) c.deref.ensures.value ∙ h))
