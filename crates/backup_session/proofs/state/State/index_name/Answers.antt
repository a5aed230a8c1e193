use Rattle.std.proofs.Common.{◌≡◌, ℕ, List, None, Some, rules, sym, ap, subst, ◌∙◌}
use Rattle.std.specs.Prelude.{◌==◌, Bool, Option, option_map, position}
use Rattle.backup_session.specs.declared.state.Begun.{Begun}
use Rattle.backup_session.specs.Steps as steps
use Rattle.backup_session.proofs.Places.{place_first, place_none}
use Rattle.backup_session.proofs.StateSteps.{no_number, number_at}
use Rattle.backup_session.proofs.state.State.index_name.Goals as goal

pub returns-in_default : goal.returns-in_default
returns-in_default c =
    let number = c.args.number in
    let items = c.self.inside.begun.items in
    let passes : Begun → Bool = λ b. b.number == number in
    let none : c.place_of.result ≡ None = search rules in
    let absent = no_number number items (place_none passes items (sym (c.place_of.ensures ∙ ap (position passes) c.deref.ensures.value) ∙ none)) in
    subst (λ w. ◌≡◌ {A = Option (List ℕ)} None (option_map (λ b. b.name) (steps.begun_at number w))) c.self.view_is (sym (ap (option_map (λ b. b.name)) absent))

pub returns : goal.returns
returns c =
    let number = c.args.number in
    let items = c.self.inside.begun.items in
    let passes : Begun → Bool = λ b. b.number == number in
    let first = place_first passes items c.in-Some.place (sym (c.in-Some.ensures ∙ ap (position passes) c.deref.ensures.value)) in
    let b = c.index.result.now in
    let there = number_at number items c.in-Some.place b first (sym c.index.ensures) in
    subst (λ w. ◌≡◌ {A = Option (List ℕ)} (Some b.name) (option_map (λ x. x.name) (steps.begun_at number w))) c.self.view_is (sym (ap (option_map (λ x. x.name)) there))
