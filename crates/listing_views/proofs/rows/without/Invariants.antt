use Rattle.std.proofs.Common.{◌≡◌, take}
use Rattle.listing_views.specs.Rows.{rows_without}
use Rattle.listing_views.proofs.rows.without.Given as goal

abbrev pub invariant-loop-row : goal.invariant-loop-row
invariant-loop-row l = l.rest.items ≡ rows_without l.key (take l.row-index l.rows)
