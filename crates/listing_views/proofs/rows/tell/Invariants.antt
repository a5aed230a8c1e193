use Rattle.std.proofs.Common.{◌≡◌, ◌++◌, filter, take}
use Rattle.store_types.specs.declared.limits.TheConstants.{LIST_LIMIT}
use Rattle.listing_views.specs.Rows.{is_behind, lent_key}
use Rattle.listing_views.proofs.rows.tell.Given as goal

abbrev pub invariant-loop-row : goal.invariant-loop-row
invariant-loop-row l = l.told.items ≡ take LIST_LIMIT (l.fn.told.items ++ filter (is_behind (lent_key l.after)) (take l.row-index l.rows))
