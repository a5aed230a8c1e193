use Rattle.std.proofs.Common.{◌≡◌, ◌∙◌, Some, is_some, option_map, sym, ap, rules, tests}
use Rattle.std.proofs.lemmas.Iterator.{YieldsList-from_slice}
use Rattle.std.proofs.lemmas.Iterator.Search.{find_from_yields_List}
use Rattle.core_state.specs.Found.{first_unreadable, unreadable_of}
use Rattle.core_state.proofs.CatalogueLemmas.{first_short}
use Rattle.core_state.proofs.catalogue.Catalogue.first_damage.Goals as goal

pub returns-in-Some-clause-value : goal.returns-in-Some-clause-value
returns-in-Some-clause-value c =
    let found = find_from_yields_List (λ x. is_some (x.kept).unreadable) _ _ c.find-found.result c.find-found.ensures.ran (YieldsList-from_slice c.deref.result.now cc) (λ x b q k. search (rules, tests)) in
    let at : option_map (λ x. x.now) c.find-found.result ≡ Some c.in-Some.listed.now = search rules in
    c.as_ref.ensures.value ∙ sym (ap unreadable_of (sym found ∙ at)) ∙ ap first_unreadable c.deref.ensures.value ∙ ap (λ v. first_unreadable v.listed) c.self.view_is

pub returns-in-Some-clause-short : goal.returns-in-Some-clause-short
returns-in-Some-clause-short c =
    let found = find_from_yields_List (λ x. is_some (x.kept).unreadable) _ _ c.find-found.result c.find-found.ensures.ran (YieldsList-from_slice c.deref.result.now cc) (λ x b q k. search (rules, tests)) in
    let at : option_map (λ x. x.now) c.find-found.result ≡ Some c.in-Some.listed.now = search rules in
    let value : option_map (λ name. name.now) c.as_ref.result ≡ first_unreadable c.self.inside.listed.items = c.as_ref.ensures.value ∙ sym (ap unreadable_of (sym found ∙ at)) ∙ ap first_unreadable c.deref.ensures.value in
    λ name is. first_short c.self.inside.listed.items name.now c.self.invariant.named (sym value ∙ ap (option_map (λ name. name.now)) is)

pub returns-in-None-clause-value : goal.returns-in-None-clause-value
returns-in-None-clause-value c =
    let found = find_from_yields_List (λ x. is_some (x.kept).unreadable) _ _ c.find-found.result c.find-found.ensures.ran (YieldsList-from_slice c.deref.result.now cc) (λ x b q k. search (rules, tests)) in
    sym (ap unreadable_of (sym found ∙ ap (option_map (λ x. x.now)) c.in-None.is)) ∙ ap first_unreadable c.deref.ensures.value ∙ ap (λ v. first_unreadable v.listed) c.self.view_is

pub returns-in-None-clause-short : goal.returns-in-None-clause-short
returns-in-None-clause-short c = λ name is. cc
