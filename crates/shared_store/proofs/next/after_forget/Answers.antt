use Rattle.std.proofs.Common.{◌≡◌, ◌∙◌, Some, ap, sym}
use Rattle.std.specs.Result.{result_ok}
use Rattle.store_types.specs.Names.{key_of}
use Rattle.core_state.specs.Catalogue.{without_named}
use Rattle.listing_views.specs.Rows.{rows_without}
use Rattle.shared_store.specs.Views.{rows_of}
use Rattle.shared_store.proofs.Listing.{ok_map, rows_left}
use Rattle.shared_store.proofs.next.after_forget.Goals as goal

pub returns-in-Ok : goal.returns-in-Ok
returns-in-Ok c =
    let key = c.in-Ok.key in
    let named : Some key ≡ key_of c.args.snapshot.now = sym (ap result_ok c.in-Ok.is) ∙ c.in_ok-key.ensures.value in
    ok_map c.without.result
    (λ next is listed same. is ∙ ap (rows_without key) same ∙ sym (rows_left key listed) ∙ ap (λ o. rows_of (without_named o listed)) named) c.without.ensures
