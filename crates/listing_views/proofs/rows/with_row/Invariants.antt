use Rattle.std.proofs.Common.{◌≡◌, take}
use Rattle.listing_views.proofs.rows.with_row.Given as goal

abbrev pub invariant-loop-copied : goal.invariant-loop-copied
invariant-loop-copied l = l.all.items ≡ take l.copied-index l.rows
