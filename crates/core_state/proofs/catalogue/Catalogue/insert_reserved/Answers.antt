use Rattle.std.proofs.Common.{◌≡◌, ◌∙◌, sym, ap, subst, cond}
use Rattle.std.specs.List.{insert, position_or_len}
use Rattle.std.specs.Result.{is_ok}
use Rattle.core_state.specs.Catalogue.{insert_listed}
use Rattle.core_state.specs.Catalogued.{IsListing}
use Rattle.core_state.proofs.CatalogueLemmas.{insert_listed-is, is_after}
use Rattle.core_state.proofs.OrderLemmas.{insert_listing}
use Rattle.core_state.proofs.catalogue.Catalogue.insert_reserved.Goals as goal

pub invariant_of-self : goal.invariant_of-self
invariant_of-self c =
    let x = c.args.listed in
    let xs = c.self.inside.listed.items in
    let new : c.insert.new.self.items ≡ insert_listed x xs = c.insert.ensures.items ∙ ap (λ r. cond (is_ok r) (insert xs c.place_after-place.result x) xs) c.unwrap.ensures
    ∙ ap (λ i. insert xs i x) (c.place_after-place.ensures.value ∙ ap (λ v. position_or_len (is_after x) v.listed) (sym c.self.view_is)) ∙ insert_listed-is x xs in
    subst IsListing (sym new) (insert_listing x xs c.requires.named c.self.invariant)

pub returns : goal.returns
returns c =
    let x = c.args.listed in
    let xs = c.self.inside.listed.items in
    c.insert.ensures.items ∙ ap (λ r. cond (is_ok r) (insert xs c.place_after-place.result x) xs) c.unwrap.ensures
    ∙ ap (λ i. insert xs i x) (c.place_after-place.ensures.value ∙ ap (λ v. position_or_len (is_after x) v.listed) (sym c.self.view_is)) ∙ insert_listed-is x xs ∙ ap (λ v. insert_listed x v.listed) c.self.view_is
