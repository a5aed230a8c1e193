use Rattle.std.proofs.Common.{◌≡◌, ◌++◌, ◌∷◌, [], ◌∙◌, List, ap, refl, subst, sym}
use mathlib.Core.List.{IsPrefix}
use Rattle.left_right.specs.Sides.{view}
use Rattle.store_history.specs.declared.act.Event.{Event}
use Rattle.listing_views.proofs.poster.Poster.with_room.Goals as goal

pub show_as-writer-requires-clause-pending : goal.show_as-writer-requires-clause-pending
show_as-writer-requires-clause-pending g c =
    (c.args.again, c.try_put.ensures.put c.if-try_put.true ∙ ap (λ xs. xs ++ c.args.again ∷ []) c.args.self.none, c.requires.none, c.requires.shows)

pub show_as-writer-requires-clause-longer : goal.show_as-writer-requires-clause-longer
show_as-writer-requires-clause-longer g c =
    let none : view c.try_put.new.writer.desk.place ≡ [] = ap (λ d. view d.place) c.try_put.ensures.desk ∙ c.requires.start in
    subst (λ (v : List Event). IsPrefix v []) (sym none) ([], refl)
