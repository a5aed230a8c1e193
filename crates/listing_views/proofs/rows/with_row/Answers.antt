use Rattle.std.proofs.Common.{◌≡◌, ◌∙◌, ap, sym, subst, length, arith}
use Rattle.std.proofs.lemmas.List.{take_all}
use Rattle.std.specs.Prelude.{unwrap_or}
use Rattle.std.specs.List.{insert, position_or_len}
use Rattle.store_types.specs.Names.{key_lt}
use Rattle.listing_views.specs.declared.listed.Listed.{Listed}
use Rattle.listing_views.specs.Rising.{Rises}
use Rattle.listing_views.proofs.Chunking.{insert_is, place_is}
use Rattle.listing_views.proofs.Ordered.{rises_insert}
use Rattle.listing_views.proofs.rows.with_row.Goals as goal

pub returns-clause-value : goal.returns-clause-value
returns-clause-value c =
    let row = c.args.row in
    let rows = c.args.rows.now in
    let all : c.loop-copied.all.items ≡ rows = c.loop-copied.invariant ∙ take_all c.loop-copied.copied-index rows (omega arith) in
    let place : c.unwrap_or-place.result ≡ position_or_len (λ (x : Listed). key_lt row.key x.key) rows =
    c.unwrap_or-place.ensures ∙ ap (λ o. unwrap_or o (length rows)) c.first_behind.ensures ∙ place_is (λ (x : Listed). key_lt row.key x.key) rows in
    c.in_ok-insert.ensures.items ∙ ap (λ l. insert l c.unwrap_or-place.result row) all ∙ ap (λ i. insert rows i row) place ∙ insert_is row rows

pub returns-clause-rises : goal.returns-clause-rises
returns-clause-rises c = subst Rises (sym (returns-clause-value c)) (rises_insert c.args.row c.args.rows.now c.requires.rises)
