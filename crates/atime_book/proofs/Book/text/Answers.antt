use Rattle.atime_book.proofs.Ordered.{fits_at, is_read_again, on_ok}
use Rattle.atime_book.proofs.Book.text.Goals as goal

pub returns-clause-fits : goal.returns-clause-fits
returns-clause-fits c =
    λ at. on_ok c.written.result (fits_at c.args.self.now c.args.moment at.in_time at.touches) c.written.ensures.order

pub returns-clause-read_again : goal.returns-clause-read_again
returns-clause-read_again c = λ at. is_read_again c.written.result _ c.written.ensures.text (returns-clause-fits c at)
