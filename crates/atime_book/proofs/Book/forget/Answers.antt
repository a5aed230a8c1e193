use Rattle.std.proofs.Common.{◌<◌, List, length, set, true, subst, sym, Vec, Global, arith}
use Rattle.store_files.specs.Book.{Book}
use Rattle.atime_book.specs.declared.parts.Touched.{Touched}
use Rattle.atime_book.specs.Parts.{joined, touches_of, IsRising, StandsAt, GoesTo}
use Rattle.atime_book.specs.Touches.{SweptAt}
use Rattle.atime_book.proofs.Orders.{swept_none}
use Rattle.atime_book.proofs.Parting.{part_rises, parts_same, none_here, one_or_more, swept_here, swept_parted}
use Rattle.atime_book.proofs.Book.forget.Goals.{After-deref}
use Rattle.atime_book.proofs.Book.forget.Goals as goal

inside : (c : After-deref) → c.number_of-number.result < length c.self.inside.parts.items
inside c = omega arith

pub place_of-requires : goal.place_of-requires
place_of-requires c =
    subst IsRising (sym c.deref.ensures.value)
    (part_rises c.self.inside.parts.items c.self.inside.count c.self.invariant c.number_of-number.result c.index_mut-part.result.now c.index_mut-part.ensures.value (inside c)
    c.args.digest.now.0 (sym c.number_of-number.ensures.number))

pub overflow_sub-self : goal.overflow_sub-self
overflow_sub-self c =
    let before = (goal.at.overflow_sub-self c).After-deref in
    let d = c.args.digest.now.0 in
    let stands = subst (λ ts. StandsAt ts d c.in-Ok.place) c.deref.ensures.value c.in-Ok.ensures in
    one_or_more c.self.inside.parts.items c.self.inside.count c.self.invariant c.number_of-number.result c.index_mut-part.result.now c.index_mut-part.ensures.value (inside before)
    d (sym c.number_of-number.ensures.number) c.in-Ok.place c.remove.result stands

pub invariant_of-self : goal.invariant_of-self
invariant_of-self c =
    let before = (goal.at.invariant_of-self c).After-deref in
    let d = c.args.digest.now.0 in
    let stands = subst (λ ts. StandsAt ts d c.in-Ok.place) c.deref.ensures.value c.in-Ok.ensures in
    swept_parted c.self.inside.parts.items c.self.inside.count c.self.invariant c.number_of-number.result c.index_mut-part.result.now c.index_mut-part.ensures.value (inside before)
    d (sym c.number_of-number.ensures.number) c.in-Ok.place c.remove.result stands c.remove.new.self c.remove.ensures.items

pub returns-in-Ok : goal.returns-in-Ok
returns-in-Ok c =
    let before = (goal.at.returns-in-Ok c).After-deref in
    let d = c.args.digest.now.0 in
    let stands = subst (λ ts. StandsAt ts d c.in-Ok.place) c.deref.ensures.value c.in-Ok.ensures in
    subst (λ old. SweptAt old (record { moment = c.self.inside.moment; touches = touches_of (joined (set c.self.inside.parts.items c.number_of-number.result c.remove.new.self)) }) d true) c.self.view_is
    (swept_here c.self.inside.parts.items c.self.inside.count c.self.invariant c.number_of-number.result c.index_mut-part.result.now c.index_mut-part.ensures.value (inside before)
    d (sym c.number_of-number.ensures.number) c.in-Ok.place c.remove.result stands c.self.inside.moment c.remove.new.self c.remove.ensures.items)

pub returns-in_default : goal.returns-in_default
returns-in_default c =
    let before = (goal.at.returns-in_default c).After-deref in
    let d = c.args.digest.now.0 in
    let parts = c.self.inside.parts.items in
    let number = c.number_of-number.result in
    let goes = subst (λ ts. GoesTo ts d c.in_default.field-0) c.deref.ensures.value c.in_default.ensures in
    let none = none_here parts c.self.inside.count c.self.invariant number c.index_mut-part.result.now c.index_mut-part.ensures.value (inside before)
    d (sym c.number_of-number.ensures.number) c.in_default.field-0 goes in
    let same = parts_same parts c.self.inside.count c.self.invariant number c.index_mut-part.result.now c.index_mut-part.ensures.value (inside before) d (sym c.number_of-number.ensures.number) in
    let old : Book = record { moment = c.self.inside.moment; touches = touches_of (joined parts) } in
    subst (λ was. SweptAt was (record { moment = c.self.inside.moment; touches = touches_of (joined (set parts number c.index_mut-part.result.now)) }) d true) c.self.view_is
    (subst (λ (ps : List (Vec Touched Global)). SweptAt old (record { moment = c.self.inside.moment; touches = touches_of (joined ps) }) d true) (sym same) (swept_none old d none))
