use Rattle.std.proofs.Common.{◌≡◌, ◌++◌, take}
use Rattle.listing_views.specs.Rows.{all_rows}
use Rattle.listing_views.proofs.chunks.share.Given as goal

abbrev pub invariant-loop-chunk : goal.invariant-loop-chunk
invariant-loop-chunk l = all_rows l.into.items ≡ all_rows l.fn.into.items ++ all_rows (take l.chunk-index l.chunks)
