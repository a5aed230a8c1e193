use Rattle.std.proofs.Common.{◌∙◌, ap, sym}
use Rattle.core_state.specs.Catalogue.{closed, listed_of}
use Rattle.listing_views.specs.Listings.{rows}
use Rattle.listing_views.specs.Rows.{insert_row}
use Rattle.shared_store.specs.Views.{row_of, rows_of}
use Rattle.shared_store.proofs.Listing.{ok_map, rows_insert}
use Rattle.shared_store.proofs.next.after_finish.Goals as goal

pub returns-in_ok-row_of-in-Writer : goal.returns-in_ok-row_of-in-Writer
returns-in_ok-row_of-in-Writer c =
    let w = c.in-Writer.writing in
    ok_map c.with.result
    (λ next is listed place same.
    is ∙ ap (λ r. insert_row r (rows c.args.shown.now)) c.in_ok-row_of-in-Writer.ensures ∙ ap (insert_row (row_of (listed_of 0 w).kept)) same
    ∙ sym (rows_insert (listed_of place w) listed) ∙ ap (λ s. rows_of (closed place s listed)) (sym c.in-Writer.is)) c.with.ensures
