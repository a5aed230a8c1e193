use Rattle.std.proofs.Common.{◌≡◌, ◌∷◌, drop, sym, ap, subst, ◌∙◌, Some}
use Rattle.std.specs.Option.{option_map}
use Rattle.store_files.specs.Book.{Book, touch_of}
use Rattle.atime_book.specs.Parts.{as_touch}
use Rattle.atime_book.specs.Reading.{touches_at}
use Rattle.atime_book.proofs.Chunks.{ReadsOn, late, falls, not_yet, reads_more, reads_end, opened, closed}
use Rattle.atime_book.proofs.Whole.{book_with}
use Rattle.atime_book.proofs.reading.touches_in.Goals.{After-touch_of-touched}
use Rattle.atime_book.proofs.reading.touches_in.Goals as goal

-- the chunk of this turn stands before the others
turn : (c : After-touch_of-touched) → ReadsOn c.args.moment (option_map (λ d. d.0) c.loop-rest.before) c.loop-rest.book.touches
    (as_touch c.touch_of-touched.result ∷ touches_at (drop 40 c.loop-rest.rest.now)) (touches_at c.args.bytes.now)
turn c =
    let reads = c.touch_of-touched.ensures ∙ ap touch_of c.split_at.ensures.front in
    opened _ _ _ _ _ _ c.loop-rest.invariant.reads c.loop-rest-test.true reads

pub returns-then-touched-moment : goal.returns-then-touched-moment
returns-then-touched-moment c =
    let here = turn (goal.at.returns-then-touched-moment c).After-touch_of-touched in
    ap (option_map (book_with c.args.moment)) (late _ _ _ _ _ _ here c.if-touched-moment.true)

pub returns-then-not-rises : goal.returns-then-not-rises
returns-then-not-rises c =
    let here = turn (goal.at.returns-then-not-rises c).After-touch_of-touched in
    ap (option_map (book_with c.args.moment)) (falls _ _ _ _ _ _ here (sym c.if-not-rises.ensures))

pub note_new-requires : goal.note_new-requires
note_new-requires c =
    let here = turn (goal.at.note_new-requires c).After-touch_of-touched in
    not_yet _ _ _ (as_touch c.touch_of-touched.result) _ _ here (sym c.if-not-rises.ensures)

pub loop-rest-preserved : goal.loop-rest-preserved
loop-rest-preserved c =
    let here = turn (goal.at.loop-rest-preserved c).After-touch_of-touched in
    let touch = c.touch_of-touched.result in
    let notes = c.in_ok-note_new.ensures.ok in
    let more = reads_more _ _ c.loop-rest.book c.note_new.new.self (as_touch touch) _ _ here c.if-touched-moment.false (sym c.if-not-rises.ensures) notes in
    record {
      read = notes.read ∙ c.loop-rest.invariant.read;
      reads = subst (λ rest. ReadsOn c.args.moment (Some touch.digest.0) c.note_new.new.self.touches (touches_at rest) (touches_at c.args.bytes.now))
          (sym c.split_at.ensures.back) more;
    }

pub returns : goal.returns
returns c =
    let ends = reads_end _ _ _ _ (closed _ _ _ _ _ c.loop-rest.invariant.reads c.loop-rest-test.false) in
    let book = c.loop-rest.book in
    let same : ◌≡◌ {A = Book} book (book_with c.args.moment book.touches) = λ i. record { moment = c.loop-rest.invariant.read i; touches = book.touches } in
    ap Some same ∙ ap (option_map (book_with c.args.moment)) ends
