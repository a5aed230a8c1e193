use Rattle.std.proofs.Common.{◌∙◌, ap, sym, filter}
use Rattle.listing_views.specs.Rows.{is_behind, lent_key}
use Rattle.listing_views.proofs.Chunking.{none_tells}
use Rattle.listing_views.proofs.rows.may_tell.Goals as goal

pub returns-in-Some : goal.returns-in-Some
returns-in-Some c = λ none.
    ap (λ o. filter (is_behind (lent_key o)) c.args.rows.now) c.in-Some.is ∙ none_tells c.in-Some.key.now c.args.rows.now (sym c.any_behind.ensures ∙ none)
