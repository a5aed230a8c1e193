use Rattle.std.proofs.Common.{◌≡◌, ◌<◌, ◌∙◌, ◌++◌, ap, sym, length, take, get_or, append_assoc, rules}
use Rattle.listing_views.specs.Rows.{all_rows, chunk_rows}
use Rattle.listing_views.proofs.Chunking.{pushed, rows_more}
use Rattle.listing_views.proofs.chunks.share.Goals as goal

pub loop-chunk-preserved : goal.loop-chunk-preserved
loop-chunk-preserved c =
    let chunks = c.args.chunks.now in
    let i = c.loop-chunk.chunk-index in
    let chunk = c.chunk-item.result in
    let old = c.args.into.now.items in
    let within : i < length chunks = search rules in
    let at : chunk ≡ get_or chunks i chunk = search rules in
    pushed c.loop-chunk.into.items c.push.new.self.items c.in_ok-try_clone.field-0 (chunk_rows chunk) c.in_ok-push.ensures.items (ap (λ z. z.rows.items) c.in_ok-try_clone.ensures)
    ∙ ap (λ l. l ++ chunk_rows chunk) c.loop-chunk.invariant ∙ append_assoc (all_rows old) (all_rows (take i chunks)) (chunk_rows chunk)
    ∙ ap (λ l. all_rows old ++ l) (sym (rows_more chunks i chunk within at))
