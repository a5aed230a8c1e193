use Rattle.std.proofs.Common.{◌≡◌, ◌∙◌, true, drop, sym, ap, subst}
use Rattle.std.specs.List.{list_all}
use Rattle.store_types.specs.Names.{key_lt}
use Rattle.core_state.specs.declared.kept.Listed.{Listed}
use Rattle.core_state.specs.Found.{lent_key}
use Rattle.core_state.specs.Named.{is_named_snapshot}
use Rattle.core_state.proofs.OrderLemmas.{all_behind, slice_named}
use Rattle.core_state.proofs.Partitions.{tail_is}
use Rattle.core_state.proofs.catalogue.Catalogue.after.Goals as goal

pub returns-in-Some-clause-named : goal.returns-in-Some-clause-named
returns-in-Some-clause-named c =
    let start = c.place_after.result in
    let xs = c.deref.result.now in
    slice_named (λ (x : Listed). key_lt c.in-Some.key.now (x.kept).key) c.args.self.now.listed _
    (tail_is start xs ∙ ap (drop start) (c.deref.ensures.value ∙ ap (λ v. v.listed) c.self.view_is) ∙ c.place_after.ensures.rest)
    (subst (λ v. list_all is_named_snapshot v.listed ≡ true) c.self.view_is c.self.invariant.named)

pub returns-in-None-clause-value : goal.returns-in-None-clause-value
returns-in-None-clause-value c =
    c.as_slice.ensures.value ∙ ap (λ v. v.listed) c.self.view_is ∙ sym (all_behind (lent_key c.args.key) c.args.self.now.listed (ap lent_key c.in-None.is))
