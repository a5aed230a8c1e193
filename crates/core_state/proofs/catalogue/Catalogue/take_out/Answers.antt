use Rattle.std.proofs.Common.{◌≡◌, ◌∙◌, rules, not, sym, ap, subst}
use Rattle.std.proofs.lemmas.Fn.{filter_same}
use Rattle.store_types.specs.Names.{same_key}
use Rattle.core_state.specs.declared.kept.Listed.{Listed}
use Rattle.core_state.specs.Catalogue.{without_listed}
use Rattle.core_state.specs.Catalogued.{IsListing}
use Rattle.core_state.proofs.OrderLemmas.{without_listing}
use Rattle.core_state.proofs.catalogue.Catalogue.take_out.Goals as goal

pub invariant_of-self : goal.invariant_of-self
invariant_of-self c =
    let kept : c.retain.new.self.items ≡ without_listed c.args.key.now c.self.inside.listed.items =
    filter_same _ (λ (x : Listed). not (same_key (x.kept).key c.args.key.now)) _ (λ x b f h. search rules) _ _ c.retain.ensures.filtered in
    subst IsListing (sym kept) (without_listing c.args.key.now c.self.inside.listed.items c.self.invariant)

pub returns : goal.returns
returns c =
    filter_same _ (λ (x : Listed). not (same_key (x.kept).key c.args.key.now)) _ (λ x b f h. search rules) _ _ c.retain.ensures.filtered
    ∙ ap (λ v. without_listed c.args.key.now v.listed) c.self.view_is
