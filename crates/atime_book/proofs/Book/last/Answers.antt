use Rattle.std.proofs.Common.{◌≡◌, ◌<◌, length, get_or, Some, ap, subst, sym, ◌∙◌}
use Rattle.store_files.specs.Book.{Book}
use Rattle.atime_book.specs.declared.parts.Touched.{Touched}
use Rattle.atime_book.specs.Parts.{IsRising, StandsAt, GoesTo}
use Rattle.atime_book.specs.Touches.{last_of}
use Rattle.atime_book.proofs.Parting.{part_rises, none_here, some_here}
use Rattle.atime_book.proofs.Book.last.Goals.{After-deref-2}
use Rattle.atime_book.proofs.Book.last.Goals as goal

inside : (c : After-deref-2) → c.number_of.result < length c.self.inside.parts.items
inside c = subst (λ ps. c.number_of.result < length ps) c.deref.ensures.value (c.in_ok-part.ensures.lookup.3).0

is_part : (c : After-deref-2) → c.in_ok-part.part.now ≡ get_or c.self.inside.parts.items c.number_of.result c.in_ok-part.part.now
is_part c = c.in_ok-part.ensures.lookup.1 ∙ ap (λ ps. get_or ps c.number_of.result c.in_ok-part.part.now) c.deref.ensures.value

pub place_of-requires : goal.place_of-requires
place_of-requires c =
    subst IsRising (sym c.deref-2.ensures.value)
    (part_rises c.self.inside.parts.items c.self.inside.count c.self.invariant c.number_of.result c.in_ok-part.part.now (is_part c) (inside c)
    c.args.digest.now.0 (sym c.number_of.ensures.number))

pub returns-in-Ok : goal.returns-in-Ok
returns-in-Ok c =
    let d = c.args.digest.now.0 in
    let before = (goal.at.returns-in-Ok c).After-deref-2 in
    let stands = subst (λ ts. StandsAt ts d c.in-Ok.place) c.deref-2.ensures.value c.in-Ok.ensures in
    ap (λ (t : Touched). Some t.moment) c.index.ensures
    ∙ sym (some_here c.self.inside.parts.items c.self.inside.count c.self.invariant c.number_of.result c.in_ok-part.part.now (is_part before) (inside before)
    d (sym c.number_of.ensures.number) c.in-Ok.place c.index.result.now stands)
    ∙ ap (λ (b : Book). last_of b d) c.self.view_is

pub returns-in-Err : goal.returns-in-Err
returns-in-Err c =
    let d = c.args.digest.now.0 in
    let before = (goal.at.returns-in-Err c).After-deref-2 in
    let goes = subst (λ ts. GoesTo ts d c.in-Err.field-0) c.deref-2.ensures.value c.in-Err.ensures in
    sym (none_here c.self.inside.parts.items c.self.inside.count c.self.invariant c.number_of.result c.in_ok-part.part.now (is_part before) (inside before)
    d (sym c.number_of.ensures.number) c.in-Err.field-0 goes)
    ∙ ap (λ (b : Book). last_of b d) c.self.view_is
