-- There is one history, and what is shown is the listing after it.
use Rattle.std.specs.Prelude.{◌≡◌, ℕ, List, length}
use mathlib.Core.Option.{some}
use mathlib.Core.List.{IsPrefix}
use lib.ListN.{get_elem?}
use Rattle.store_history.specs.declared.act.Event.{Event}
use Rattle.listing_views.specs.declared.listed.Listed.{Listed}
use Rattle.listing_views.specs.declared.listing.Listing.{Listing}
use Rattle.listing_views.specs.Listings.{rows}

module _ (is : List Event → List Listed → Type 0) where
  -- the history up to what is shown: it is as long as the listing says, and begins with what each thread has seen
  pub record Kept (x : Listing) (views : List (List Event)) : Type 0 where
    pub now : List Event
    pub count : length now ≡ x.count
    pub shown : is now (rows x)
    pub each : (j : ℕ) (v : List Event) → get_elem? views j ≡ some v → IsPrefix v now

  -- a read: what is shown is of a history that begins with what was seen before
  pub record Sees (v : List Event) (x y : Listing) (w : List Event) : Type 0 where
    pub seen : IsPrefix v w
    pub count : length w ≡ y.count
    pub shown : is w (rows y)
