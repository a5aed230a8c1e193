-- What a listing shows.
use Rattle.std.specs.Prelude.{List}
use Rattle.std.specs.Arc.{arc_value}
use Rattle.listing_views.specs.declared.listed.Listed.{Listed}
use Rattle.listing_views.specs.declared.listing.Listing.{Listing}
use Rattle.listing_views.specs.Rows.{all_rows}

abbrev pub rows : Listing → List Listed
rows x = all_rows (arc_value x.chunks).items
