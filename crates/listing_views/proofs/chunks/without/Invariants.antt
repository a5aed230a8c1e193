use Rattle.std.proofs.Common.{◌≡◌, take}
use Rattle.listing_views.specs.Rows.{all_rows, rows_without}
use Rattle.listing_views.proofs.chunks.without.Given as goal

abbrev pub invariant-loop-chunk : goal.invariant-loop-chunk
invariant-loop-chunk l = all_rows l.next.items ≡ rows_without l.key (all_rows (take l.chunk-index l.chunks))
