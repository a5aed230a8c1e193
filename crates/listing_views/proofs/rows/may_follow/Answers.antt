use Rattle.std.proofs.Common.{◌≡◌, ◌∙◌, ◌-◌, length, Some, sym, rules}
use Rattle.std.specs.Prelude.{slice_get}
use Rattle.store_types.specs.Names.{key_lt}
use Rattle.listing_views.proofs.Ordered.{fails, rises_push}
use Rattle.listing_views.proofs.rows.may_follow.Goals as goal

pub returns-then-rows-lt-MOST : goal.returns-then-rows-lt-MOST
returns-then-rows-lt-MOST c = λ free up.
    let row = c.args.row.now in
    let rows = c.args.rows.now in
    let last = c.in-Some.last.now in
    let at : slice_get rows (length rows - 1) ≡ Some last = search rules in
    let lt : c.lt.result ≡ key_lt row.key last.key = search rules in rises_push rows last row at (sym lt ∙ fails c.lt.result free) up
