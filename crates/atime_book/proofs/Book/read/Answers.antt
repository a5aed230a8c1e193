use Rattle.std.proofs.Common.{◌<◌, ◌≤◌, Some, subst, sym, ◌∙◌, le-leb}
use Rattle.std.proofs.lemmas.Bool.{lt-leb}
use Rattle.store_types.specs.Times.{last_moment}
use Rattle.atime_book.proofs.Ordered.{fits_read, none_after_fits}
use Rattle.atime_book.proofs.Whole.{short_is_none, not_passed, too_late, is_read, other_text, same_text}
use Rattle.atime_book.proofs.Book.read.Goals as goal

pub returns-then-bytes-lt56-clause-book : goal.returns-then-bytes-lt56-clause-book
returns-then-bytes-lt56-clause-book c = short_is_none c.args.bytes.now c.if-bytes-lt56.true

pub returns-in_default-clause-book : goal.returns-in_default-clause-book
returns-in_default-clause-book c =
    not_passed c.args.bytes.now c.moment_of-moment.result c.if-bytes-lt56.false c.moment_of-moment.ensures (sym c.in_default.is ∙ c.in_ok-book.ensures)

pub returns-then-moment-gt-LAST_MOMENT-clause-book : goal.returns-then-moment-gt-LAST_MOMENT-clause-book
returns-then-moment-gt-LAST_MOMENT-clause-book c =
    too_late c.args.bytes.now c.if-bytes-lt56.false
    (lt-leb _ _ (subst (λ m. last_moment < m) c.moment_of-moment.ensures c.if-moment-gt-LAST_MOMENT.true))

pub returns-then-ne-clause-book : goal.returns-then-ne-clause-book
returns-then-ne-clause-book c =
    let is = is_read c.args.bytes.now c.moment_of-moment.result c.in-Some.book c.moment_of-moment.ensures (sym c.in-Some.is ∙ c.in_ok-book.ensures) in
    other_text c.args.bytes.now _ c.in-Some.book c.as_slice.result.now c.if-bytes-lt56.false is
    (c.as_slice.ensures.value ∙ c.in_ok-text.ensures.text) c.if-ne.ensures

pub returns-clause-book : goal.returns-clause-book
returns-clause-book c =
    let is = is_read c.args.bytes.now c.moment_of-moment.result c.in-Some.book c.moment_of-moment.ensures (sym c.in-Some.is ∙ c.in_ok-book.ensures) in
    same_text c.args.bytes.now _ c.in-Some.book c.as_slice.result.now c.if-bytes-lt56.false is
    (c.as_slice.ensures.value ∙ c.in_ok-text.ensures.text) c.if-ne.ensures
    (le-leb _ _ (subst (λ m. m ≤ last_moment) c.moment_of-moment.ensures c.if-moment-gt-LAST_MOMENT.false))

pub returns-clause-fits : goal.returns-clause-fits
returns-clause-fits c = fits_read c.args.bytes.now (Some _) (returns-clause-book c)

pub returns-clause-early : goal.returns-clause-early
returns-clause-early c = none_after_fits _ (returns-clause-fits c)
