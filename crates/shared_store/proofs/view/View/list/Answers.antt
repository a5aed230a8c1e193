use Rattle.std.proofs.Common.{◌≡◌, ◌∙◌, ap, map}
use Rattle.listing_views.specs.Rows.{lent_key, rows_behind}
use Rattle.shared_store.specs.Views.{list_row, rows_of}
use Rattle.shared_store.proofs.Listing.{ok_map, rows_as_list}
use Rattle.shared_store.proofs.view.View.list.Goals as goal

pub returns-clause-lists : goal.returns-clause-lists
returns-clause-lists g c =
    let came = c.in_ok-list.ensures.lists.0 in
    let after = lent_key c.args.after in
    let listed = (came.core.parts).catalogue.listed in
    ok_map c.behind.result
    (λ told is.
    let told_is : told ≡ rows_behind after (rows_of listed) = is ∙ ap (rows_behind after) came.rows_are in
    record { core = came.core; comes = came.comes; told_is = told_is; as_list = ap (map list_row) told_is ∙ rows_as_list after listed })
    c.behind.ensures
