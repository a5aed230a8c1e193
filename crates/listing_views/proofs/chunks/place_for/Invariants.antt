use Rattle.std.proofs.Common.{◌≡◌, false, take}
use Rattle.listing_views.specs.Rows.{all_rows, any_behind}
use Rattle.listing_views.proofs.chunks.place_for.Given as goal

abbrev pub invariant-loop-index : goal.invariant-loop-index
invariant-loop-index l = any_behind l.key (all_rows (take l.index l.chunks)) ≡ false
