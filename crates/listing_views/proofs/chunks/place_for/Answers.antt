use Rattle.std.proofs.Common.{◌≡◌, ◌≤◌, ◌<◌, ◌∙◌, false, ap, sym, length, get_or, rules}
use Rattle.listing_views.specs.Rows.{any_behind, chunk_rows}
use Rattle.listing_views.proofs.Chunking.{goes_last, none_up_to}
use Rattle.listing_views.proofs.chunks.place_for.Goals as goal

pub loop-index-preserved : goal.loop-index-preserved
loop-index-preserved c =
    let key = c.args.key.now in
    let chunks = c.args.chunks.now in
    let i = c.loop-index.index in
    let chunk = c.index-chunks-index.result in
    let within : i < length chunks = search rules in
    let at : chunk ≡ get_or chunks i chunk = search rules in
    let rows : c.deref-in-loop-index.result.now ≡ chunk_rows chunk = c.deref-in-loop-index.ensures.value ∙ ap (λ z. z.rows.items) c.deref.ensures in
    none_up_to key chunks i chunk within at c.loop-index.invariant (ap (any_behind key) (sym rows) ∙ sym c.any_behind.ensures ∙ c.if-any_behind.false)

pub returns : goal.returns
returns c =
    let end : length c.args.chunks.now ≤ c.loop-index.index = search rules in
    goes_last c.args.key.now c.args.chunks.now c.loop-index.index c.saturating_sub.result end c.loop-index.invariant c.saturating_sub.ensures
