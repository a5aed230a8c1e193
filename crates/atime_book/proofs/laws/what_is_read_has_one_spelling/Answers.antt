use Rattle.atime_book.proofs.Texts.{text-from_book_of}
use Rattle.atime_book.proofs.laws.what_is_read_has_one_spelling.Goals as goal

pub returns : goal.returns
returns c = text-from_book_of
