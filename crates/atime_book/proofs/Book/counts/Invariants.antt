use Rattle.std.proofs.Common.{◌≡◌, length, take}
use Rattle.atime_book.specs.Parts.{joined}
use Rattle.atime_book.proofs.Counting.{since}
use Rattle.atime_book.proofs.Book.counts.Given as goal

abbrev pub invariant-loop-part : goal.invariant-loop-part
invariant-loop-part l = l.used ≡ length (since l.start (joined (take l.part-index l.part-items)))
