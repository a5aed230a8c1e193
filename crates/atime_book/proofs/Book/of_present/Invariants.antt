use Rattle.std.proofs.Common.{take}
use Rattle.atime_book.specs.Present.{IsOfPresent}
use Rattle.atime_book.proofs.Book.of_present.Given as goal

abbrev pub invariant-loop-digest : goal.invariant-loop-digest
invariant-loop-digest l = IsOfPresent l.self l.book (take l.digest-index l.present) l.undated.items
