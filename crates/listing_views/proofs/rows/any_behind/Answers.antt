use Rattle.std.proofs.Common.{◌≡◌, ◌∙◌, ◌-◌, length, Some, rules}
use Rattle.std.specs.Prelude.{slice_get}
use Rattle.store_types.specs.Names.{key_lt}
use Rattle.listing_views.proofs.Ordered.{last_tells}
use Rattle.listing_views.proofs.rows.any_behind.Goals as goal

pub returns-in-Some : goal.returns-in-Some
returns-in-Some c =
    let key = c.args.key.now in
    let rows = c.args.rows.now in
    let last = c.in-Some.last.now in
    let at : slice_get rows (length rows - 1) ≡ Some last = search rules in
    let lt : c.lt.result ≡ key_lt key last.key = search rules in lt ∙ last_tells key rows last at c.requires.rises
