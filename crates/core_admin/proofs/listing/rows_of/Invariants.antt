use Rattle.std.proofs.Common.{◌≡◌, map, take}
use Rattle.std.specs.List.{All}
use Rattle.core_admin.specs.Listings.{IsListable, row_of}
use Rattle.core_admin.proofs.listing.rows_of.Given as goal

abbrev pub invariant-loop-snapshot : goal.invariant-loop-snapshot
invariant-loop-snapshot l = record {
  found : l.rows.items ≡ map (λ x. row_of x.kept) (take l.snapshot-index l.first);
  listable : All IsListable l.rows.items;
}
