use Rattle.atime_book.proofs.Texts.{book_of-book_text}
use Rattle.atime_book.proofs.laws.what_is_written_is_read.Goals as goal

pub returns : goal.returns
returns c = book_of-book_text
