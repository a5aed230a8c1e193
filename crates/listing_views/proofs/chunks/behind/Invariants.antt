use Rattle.std.proofs.Common.{◌≡◌, take}
use Rattle.listing_views.specs.Rows.{all_rows, lent_key, rows_behind}
use Rattle.listing_views.proofs.chunks.behind.Given as goal

abbrev pub invariant-loop-chunk : goal.invariant-loop-chunk
invariant-loop-chunk l = l.told.items ≡ rows_behind (lent_key l.after) (all_rows (take l.chunk-index l.chunks))
