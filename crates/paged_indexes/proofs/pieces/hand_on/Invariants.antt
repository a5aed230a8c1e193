use Rattle.std.proofs.Common.{◌≡◌, length}
use Rattle.store_files.specs.Cells.{cells}
use Rattle.dynamic_index.specs.Pieces.{last_end}
use Rattle.paged_indexes.specs.Fixed.{Cuts, ends_in}
use Rattle.paged_indexes.proofs.Handed.{HandsRest}
use Rattle.paged_indexes.proofs.pieces.hand_on.Given as goal

abbrev pub invariant-loop-rest : goal.invariant-loop-rest
invariant-loop-rest g l = record {
  cuts : Cuts l.cut l.reached (length (cells 32 l.rest));
  end : last_end l.reached (ends_in l.cut l.reached l.rest) ≡ last_end l.fn.start (ends_in l.cut l.fn.start l.fn.bytes);
  hands : HandsRest g.T.TakesEntries.taken l.fn.start (ends_in l.cut l.fn.start l.fn.bytes) l.initial.taker l.reached (ends_in l.cut l.reached l.rest) l.taker;
}

abbrev pub decreases-loop-rest : goal.decreases-loop-rest
decreases-loop-rest g l = length l.rest
