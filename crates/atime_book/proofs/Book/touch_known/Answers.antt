use Rattle.std.proofs.Common.{◌≡◌, ℕ, ◌<◌, max, List, length, set, Option, Some, None, refl, ap, subst, sym, ◌∙◌, Vec, Global, arith}
use Rattle.std.specs.Prelude.{IsSome}
use Rattle.std.specs.Vec.{with_item}
use Rattle.std.proofs.lemmas.Bool.{false≢true}
use Rattle.store_files.specs.Book.{Book}
use Rattle.atime_book.specs.declared.Book.TheInside.{Inside}
use Rattle.atime_book.specs.declared.parts.Touched.{Touched}
use Rattle.atime_book.specs.Parts.{joined, touches_of, IsRising, IsParted, StandsAt, GoesTo}
use Rattle.atime_book.specs.Touches.{TouchedAt, TouchesKnown, last_of}
use Rattle.atime_book.proofs.Parting.{part_rises, parts_same, parted_same, none_here, some_here, raised_here, raised_parted}
use Rattle.atime_book.proofs.Book.touch_known.Goals.{After-deref, in-Ok, in_default}
use Rattle.atime_book.proofs.Book.touch_known.Goals as goal

inside : (c : After-deref) → c.number_of-number.result < length c.self.inside.parts.items
inside c = omega arith

pub place_of-requires : goal.place_of-requires
place_of-requires c =
    subst IsRising (sym c.deref.ensures.value)
    (part_rises c.self.inside.parts.items c.self.inside.count c.self.invariant c.number_of-number.result c.index_mut-part.result.now c.index_mut-part.ensures.value (inside c)
    c.args.digest.now.0 (sym c.number_of-number.ensures.number))

swapped : (a b : ℕ) → max a b ≡ max b a
swapped a b = omega arith

pub invariant_of-self : goal.invariant_of-self
invariant_of-self c =
    let before = (goal.at.invariant_of-self c).After-deref in
    let d = c.args.digest.now.0 in
    let parts = c.self.inside.parts.items in
    let k = c.number_of-number.result in
    let v = c.index_mut-part.result.now in
    let number = sym c.number_of-number.ensures.number in
    elim c.match-place_of.branch [
      | in-Ok w ↦
          let stands = subst (λ ts. StandsAt ts d w.in-Ok.place) c.deref.ensures.value w.in-Ok.ensures in
          let t = w.index_mut-touched.result.now in
          let u : Touched = record { digest = t.digest; moment = w.max-touched.result } in
          subst (λ (x : Inside). IsParted x.parts.items x.count) (sym w.self-inside-is)
          (raised_parted parts c.self.inside.count c.self.invariant k v c.index_mut-part.ensures.value (inside before) d number w.in-Ok.place t stands u _ refl
          (ap (λ (x : Touched). x.digest) w.index_mut-touched.ensures.value))
      | in_default w ↦
          subst (λ (x : Inside). IsParted x.parts.items x.count) (sym w.self-inside-is)
          (parted_same parts c.self.inside.count c.self.invariant k v c.index_mut-part.ensures.value (inside before) d number)
    ]

abbrev as_book : Inside → Book
as_book x = record { moment = x.moment; touches = touches_of (joined x.parts.items) }

known_one : (old new : Book) (d : List ℕ) (when last : ℕ) → last_of old d ≡ Some last → TouchedAt old new d when → TouchesKnown old new d when
known_one old new d when last there touched = record { known = λ some. touched; unknown = λ none. absurd (never (sym there ∙ none)) }
  where
    never : Some last ≡ None → ⊥
    never e = cc

abbrev nothing : Option ℕ
nothing = None

unknown_one : (old new : Book) (d : List ℕ) (when : ℕ) → last_of old d ≡ None → new ≡ old → TouchesKnown old new d when
unknown_one old new d when absent same = record { known = λ some. absurd (never (subst IsSome absent some)); unknown = λ none. same }
  where
    never : IsSome nothing → ⊥
    never some = false≢true some

pub returns : goal.returns
returns c =
    let before = (goal.at.returns c).After-deref in
    let d = c.args.digest.now.0 in
    let parts = c.self.inside.parts.items in
    let count = c.self.inside.count in
    let moment = c.self.inside.moment in
    let k = c.number_of-number.result in
    let v = c.index_mut-part.result.now in
    let is = c.index_mut-part.ensures.value in
    let number = sym c.number_of-number.ensures.number in
    let old = as_book c.self.inside in
    elim c.match-place_of.branch [
      | in-Ok w ↦
          let place = w.in-Ok.place in
          let stands = subst (λ ts. StandsAt ts d place) c.deref.ensures.value w.in-Ok.ensures in
          let t = w.index_mut-touched.result.now in
          let u : Touched = record { digest = t.digest; moment = w.max-touched.result } in
          let there = some_here parts count c.self.invariant k v is (inside before) d number place t stands in
          let greatest_is = w.max-touched.ensures ∙ swapped c.args.moment t.moment ∙ ap (λ (x : Touched). max x.moment c.args.moment) w.index_mut-touched.ensures.value in
          let raised = raised_here parts count c.self.invariant k v is (inside before) d number place t stands moment c.args.moment u (with_item v place u) refl
          (ap (λ (x : Touched). x.digest) w.index_mut-touched.ensures.value) greatest_is in
          let new : Book = record { moment = moment; touches = touches_of (joined (set parts k (with_item v place u))) } in
          subst (λ (x : Inside). TouchesKnown c.args.self.now (as_book x) d c.args.moment) (sym w.self-inside-is)
          (subst (λ was. TouchesKnown was new d c.args.moment) c.self.view_is (known_one old new d c.args.moment _ there raised))
      | in_default w ↦
          let goes = subst (λ ts. GoesTo ts d w.in_default.field-0) c.deref.ensures.value w.in_default.ensures in
          let none = none_here parts count c.self.invariant k v is (inside before) d number w.in_default.field-0 goes in
          let same = parts_same parts count c.self.invariant k v is (inside before) d number in
          let new : Book = record { moment = moment; touches = touches_of (joined (set parts k v)) } in
          subst (λ (x : Inside). TouchesKnown c.args.self.now (as_book x) d c.args.moment) (sym w.self-inside-is)
          (subst (λ was. TouchesKnown was new d c.args.moment) c.self.view_is
          (unknown_one old new d c.args.moment none (ap (λ (ps : List (Vec Touched Global)). record { moment = moment; touches = touches_of (joined ps) }) same)))
    ]
