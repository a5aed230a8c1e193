use Rattle.std.proofs.Common.{◌≡◌, ◌∙◌, ◌-◌, length, Some, sym, rules}
use Rattle.std.specs.Prelude.{slice_get}
use Rattle.store_types.specs.Names.{key_lt}
use Rattle.listing_views.proofs.Ordered.{before_all, behind_all, holds}
use Rattle.listing_views.proofs.rows.may_have.Goals as goal

pub returns-then-not-lt : goal.returns-then-not-lt
returns-then-not-lt c = λ no.
    let key = c.args.key.now in
    let rows = c.args.rows.now in
    let last = c.in-Some-Some.last.now in
    let at : slice_get rows (length rows - 1) ≡ Some last = search rules in
    let lt : c.lt-then-not-lt.result ≡ key_lt last.key key = search rules in behind_all key rows last at (sym lt ∙ holds c.lt-then-not-lt.result no) c.requires.rises

pub returns-else-not-lt : goal.returns-else-not-lt
returns-else-not-lt c = λ no.
    let key = c.args.key.now in
    let rows = c.args.rows.now in
    let first = c.in-Some-Some.first.now in
    let at : slice_get rows 0 ≡ Some first = search rules in
    let lt : c.lt.result ≡ key_lt key first.key = search rules in before_all key rows first at (sym lt ∙ holds c.lt.result no) c.requires.rises
