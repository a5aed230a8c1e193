use Rattle.std.proofs.Common.{◌≡◌, ◌∙◌, ap, sym, subst, ℕ, List, fold, length}
use mathlib.Core.List.{IsPrefix}
use Rattle.store_history.specs.declared.act.Event.{Event}
use Rattle.listing_views.specs.declared.listed.Listed.{Listed}
use Rattle.listing_views.specs.declared.listing.Listing.{Listing}
use Rattle.listing_views.specs.Listings.{rows}
use Rattle.listing_views.proofs.Stories.{shows}
use Rattle.listing_views.proofs.poster.show_as.Goals as goal

-- the state after some operations
abbrev after : Listing → List Listing → ℕ × List Listed
after x ops = fold (λ (s : ℕ × List Listed) (o : Listing). (o.count, rows o)) (x.count, rows x) ops

pub publish_as-back-requires : goal.publish_as-back-requires
publish_as-back-requires g c next is =
    let x = c.loop.writer.desk.shown.value in
    let op = c.requires.pending.0 in
    let same = c.loop.invariant in
    let to = g.G.Whole.history in
    let state = is ∙ ap (after x) (same.2 ∙ c.requires.pending.1) in
    let count : next.count ≡ op.count = ap (λ (p : ℕ × List Listed). p.0) state in
    let list : rows next ≡ rows op = ap (λ (p : ℕ × List Listed). p.1) state in
    shows g.L.Lawful.is to _ _ x next (ap length same.0 ∙ c.requires.all ∙ sym (ap (λ (z : Listing). z.count) same.1))
    (subst (λ (v : List Event). IsPrefix v to) (sym same.0) c.requires.longer) (c.requires.count ∙ sym c.requires.pending.2 ∙ sym count)
    (subst (λ (xs : List Listed). g.L.Lawful.is to xs) (sym list) c.requires.pending.3)
