use Rattle.std.proofs.Common.{◌≡◌, length}
use Rattle.std.specs.Option.{option_map}
use Rattle.atime_book.specs.Reading.{touches_at}
use Rattle.atime_book.proofs.Chunks.{ReadsOn}
use Rattle.atime_book.proofs.reading.touches_in.Given as goal

abbrev pub invariant-loop-rest : goal.invariant-loop-rest
invariant-loop-rest l = record {
  read : l.book.moment ≡ l.moment;
  reads : ReadsOn l.moment (option_map (λ d. d.0) l.before) l.book.touches (touches_at l.rest) (touches_at l.fn.bytes);
}

abbrev pub decreases-loop-rest : goal.decreases-loop-rest
decreases-loop-rest l = length l.rest
