use Rattle.std.proofs.Common.{◌≡◌, ◌∙◌, ◌-◌, length, Some, None, sym, ap, rules}
use Rattle.std.specs.Prelude.{option_map, slice_get}
use Rattle.core_state.specs.declared.kept.Listed.{Listed}
use Rattle.core_state.proofs.CatalogueLemmas.{latest_at}
use Rattle.core_state.proofs.catalogue.Catalogue.latest.Goals as goal

pub returns-in-Some : goal.returns-in-Some
returns-in-Some c =
    let ys = c.group.result.now in
    let found : slice_get ys (length ys - 1) ≡ Some c.in-Some.listed.now = search rules in
    record { value = ap (option_map (λ (y : Listed). (y.kept).key)) (sym found) ∙ latest_at c.args.group.now c.args.self.now.listed ys c.group.ensures.value }

pub returns-in-None : goal.returns-in-None
returns-in-None c =
    let ys = c.group.result.now in
    let found : slice_get ys (length ys - 1) ≡ None = search rules in
    record { value = ap (option_map (λ (y : Listed). (y.kept).key)) (sym found) ∙ latest_at c.args.group.now c.args.self.now.listed ys c.group.ensures.value }
