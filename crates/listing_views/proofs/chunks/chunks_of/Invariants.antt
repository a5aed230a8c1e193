use Rattle.std.proofs.Common.{◌≡◌, ◌++◌, length}
use Rattle.std.specs.Vec.Iter.{into_iter_items, into_iter_len}
use Rattle.listing_views.specs.Rising.{Rises}
use Rattle.listing_views.specs.Rows.{all_rows}
use Rattle.listing_views.proofs.chunks.chunks_of.Given as goal

abbrev pub invariant-loop-row : goal.invariant-loop-row
invariant-loop-row l = record {
  rest : l.yielded ++ into_iter_items l.row-iterator ≡ l.fn.listed.items;
  size : into_iter_len l.row-iterator ≡ length (into_iter_items l.row-iterator);
  rows : all_rows l.chunks.items ++ l.open.items ≡ l.yielded;
  rises : Rises l.open.items;
}
