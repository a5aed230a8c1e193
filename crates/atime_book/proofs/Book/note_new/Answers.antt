use Rattle.std.proofs.Common.{◌≡◌, ◌⊎◌, inl, inr, ℕ, ◌+◌, ◌<◌, length, set, Option, None, Some, Ok, Err, Result, ap, subst, sym, ◌∙◌, Vec, Global, refl, rules, arith}
use Rattle.std.specs.Prelude.{OnErr}
use Rattle.std.specs.declared.alloc.AllocError.{AllocError}
use Rattle.store_files.specs.Book.{Book}
use Rattle.std.proofs.lemmas.List.{nil_from_length}
use Rattle.atime_book.specs.declared.Book.TheInside.{Inside}
use Rattle.atime_book.specs.declared.parts.Touched.{Touched}
use Rattle.atime_book.specs.Parts.{as_touch, joined, touches_of, IsRising, IsParted, AreEmpty, StandsAt, GoesTo}
use Rattle.atime_book.specs.Touches.{NotesNew, last_of}
use Rattle.atime_book.proofs.Parting.{none_joined, parted_empty, part_rises, parted_kept, joined_kept, some_here, noted_here, noted_parted}
use Rattle.atime_book.proofs.Book.note_new.Goals.{After-deref, then-is_empty+in_ok-self-inside, else-is_empty}
use Rattle.atime_book.proofs.Book.note_new.Goals as goal

-- the parts stand, and the chunks are as they were
record Ready (old now : Inside) : Type 0 where
  moment : now.moment ≡ old.moment
  chunks : joined now.parts.items ≡ joined old.parts.items
  count : now.count ≡ old.count
  parted : IsParted now.parts.items now.count
  all : length now.parts.items ≡ 256

ready_new : (old : Inside) (parts : Vec (Vec Touched Global) Global) → IsParted old.parts.items old.count → length old.parts.items ≡ 0 → AreEmpty parts.items →
    Ready old (record { moment = old.moment; parts = parts; count = old.count })
ready_new old parts parted none empty =
    let before = ap joined (nil_from_length old.parts.items none) in
    let counted = parted.counted ∙ ap length before in
    record {
      moment = refl;
      chunks = none_joined parts.items empty ∙ sym before;
      count = refl;
      parted = subst (IsParted parts.items) (sym counted) (parted_empty parts.items empty);
      all = empty.bytes;
    }

ready_same : (old : Inside) → IsParted old.parts.items old.count → 0 < length old.parts.items → Ready old old
ready_same old parted some = record { moment = refl; chunks = refl; count = refl; parted = parted; all = by_count parted.bytes }
  where
    by_count : (length old.parts.items ≡ 0) ⊎ (length old.parts.items ≡ 256) → length old.parts.items ≡ 256
    by_count (inl none) = absurd (omega (arith, none, some))
    by_count (inr all) = all

ready : (c : After-deref) → Ready c.self.inside c.if-is_empty.self-inside
ready c = elim c.if-is_empty.branch [
  | then-is_empty+in_ok-self-inside w ↦ let none : length c.self.inside.parts.items ≡ 0 = search rules in
      subst (Ready c.self.inside) (sym w.self-inside-is) (ready_new c.self.inside w.in_ok-self-inside.field-0 c.self.invariant none w.in_ok-self-inside.ensures)
  | else-is_empty w ↦ let some : 0 < length c.self.inside.parts.items = search rules in
      subst (Ready c.self.inside) (sym w.self-inside-is) (ready_same c.self.inside c.self.invariant some)
]

inside : (c : After-deref) → c.number_of.result < length c.if-is_empty.self-inside.parts.items
inside c = let all = (ready c).all in let byte = c.number_of.ensures.byte in omega (arith, all, byte)

pub place_of-requires : goal.place_of-requires
place_of-requires c =
    let before = (goal.at.place_of-requires c).After-deref in
    subst IsRising (sym c.deref.ensures.value)
    (part_rises c.if-is_empty.self-inside.parts.items c.if-is_empty.self-inside.count (ready before).parted c.number_of.result c.index_mut-part.result.now c.index_mut-part.ensures.value (inside before)
    c.args.touched.digest.0 (sym c.number_of.ensures.number))

as_book : Inside → Book
as_book x = record { moment = x.moment; touches = touches_of (joined x.parts.items) }

-- the book as it was
before_is : (old now : Inside) → Ready old now → as_book now ≡ as_book old
unfolding as_book
before_is old now is = λ i. record { moment = is.moment i; touches = ap touches_of is.chunks i }

was : (c : After-deref) → as_book c.if-is_empty.self-inside ≡ c.args.self.now
unfolding as_book
was c = before_is c.self.inside c.if-is_empty.self-inside (ready c) ∙ c.self.view_is

on_err : (r : Result (Unit {0}) AllocError) (P : Type 0) → P → OnErr r P
on_err (Ok u) P p = tt
on_err (Err e) P p = p

pub invariant_of-self : goal.invariant_of-self
invariant_of-self c =
    let before = (goal.at.invariant_of-self c).After-deref in
    let now = c.if-is_empty.self-inside in
    parted_kept now.parts.items now.count (ready before).parted c.number_of.result c.index_mut-part.result.now c.index_mut-part.ensures.value (inside before)
    c.args.touched.digest.0 (sym c.number_of.ensures.number) c.insert.new.self c.in_err-insert.ensures.items

pub returns-in_err-insert-clause-err : goal.returns-in_err-insert-clause-err
unfolding as_book
returns-in_err-insert-clause-err c =
    let before = (goal.at.returns-in_err-insert-clause-err c).After-deref in
    let now = c.if-is_empty.self-inside in
    let same = joined_kept now.parts.items now.count (ready before).parted c.number_of.result c.index_mut-part.result.now c.index_mut-part.ensures.value (inside before)
    c.args.touched.digest.0 (sym c.number_of.ensures.number) c.insert.new.self c.in_err-insert.ensures.items in
    on_err _ _ (ap (λ ts. record { moment = now.moment; touches = touches_of ts }) same ∙ was before)

pub invariant_of-self-in-Err : goal.invariant_of-self-in-Err
invariant_of-self-in-Err c =
    let before = (goal.at.invariant_of-self-in-Err c).After-deref in
    let now = c.if-is_empty.self-inside in
    let d = c.args.touched.digest.0 in
    let one : c.in_ok-count.count ≡ c.self.inside.count + 1 = search rules in
    let goes = subst (λ ts. GoesTo ts d c.in-Err.place) c.deref.ensures.value c.in-Err.ensures in
    subst (IsParted (set now.parts.items c.number_of.result c.insert.new.self)) (sym (one ∙ ap (λ n. n + 1) (sym (ready before).count)))
    (noted_parted now.parts.items now.count (ready before).parted c.number_of.result c.index_mut-part.result.now c.index_mut-part.ensures.value (inside before)
    d (sym c.number_of.ensures.number) c.in-Err.place goes c.args.touched c.insert.new.self c.in_ok-insert.ensures.items refl)

pub returns-in_ok-insert-clause-ok : goal.returns-in_ok-insert-clause-ok
unfolding as_book
returns-in_ok-insert-clause-ok c =
    let before = (goal.at.returns-in_ok-insert-clause-ok c).After-deref in
    let now = c.if-is_empty.self-inside in
    let d = c.args.touched.digest.0 in
    let goes = subst (λ ts. GoesTo ts d c.in-Err.place) c.deref.ensures.value c.in-Err.ensures in
    let new : Book = record { moment = now.moment; touches = touches_of (joined (set now.parts.items c.number_of.result c.insert.new.self)) } in
    subst (λ old. NotesNew old new (as_touch c.args.touched)) (was before)
    (noted_here now.parts.items now.count (ready before).parted c.number_of.result c.index_mut-part.result.now c.index_mut-part.ensures.value (inside before)
    d (sym c.number_of.ensures.number) c.in-Err.place goes now.moment c.args.touched c.insert.new.self c.in_ok-insert.ensures.items refl)

never : (m : ℕ) (o : Option ℕ) → o ≡ Some m → o ≡ None → ⊥
never m o some none = let both : Some m ≡ None = sym some ∙ none in cc

pub returns-in_default-clause-ok : goal.returns-in_default-clause-ok
unfolding as_book
returns-in_default-clause-ok c =
    let before = (goal.at.returns-in_default-clause-ok c).After-deref in
    let now = c.if-is_empty.self-inside in
    let d = c.args.touched.digest.0 in
    let stands = subst (λ ts. StandsAt ts d c.in_default.field-0) c.deref.ensures.value c.in_default.ensures in
    let there = some_here now.parts.items now.count (ready before).parted c.number_of.result c.index_mut-part.result.now c.index_mut-part.ensures.value (inside before)
    d (sym c.number_of.ensures.number) c.in_default.field-0 c.args.touched stands in
    absurd (never _ _ there (ap (λ b. last_of b d) (was before) ∙ c.requires))
