use Rattle.std.proofs.Common.{◌≡◌, ◌<◌, ◌∙◌, ◌++◌, false, ap, sym, filter, length, take, get_or, rules}
use Rattle.store_types.specs.declared.limits.TheConstants.{LIST_LIMIT}
use Rattle.listing_views.specs.Rows.{chunk_rows, is_behind, lent_key}
use Rattle.listing_views.proofs.Chunking.{chunk_tells, few_told, none_more}
use Rattle.listing_views.proofs.chunks.behind.Goals.{then-may_tell+in_ok-tell, else-may_tell}
use Rattle.listing_views.proofs.chunks.behind.Goals as goal

pub tell-requires : goal.tell-requires
tell-requires c = record { few = few_told LIST_LIMIT _ c.loop-chunk.told.items c.loop-chunk.invariant }

pub loop-chunk-preserved : goal.loop-chunk-preserved
loop-chunk-preserved c =
    let p = is_behind (lent_key c.args.after) in
    let chunks = c.args.chunks.now in
    let i = c.loop-chunk.chunk-index in
    let chunk = c.chunk-item.result in
    let told = c.loop-chunk.told.items in
    let within : i < length chunks = search rules in
    let at : chunk ≡ get_or chunks i chunk = search rules in
    let rows : c.deref-in-loop-chunk.result.now ≡ chunk_rows chunk = c.deref-in-loop-chunk.ensures.value ∙ ap (λ z. z.rows.items) c.deref.ensures in
    elim c.if-may_tell.branch [
      | then-may_tell+in_ok-tell w ↦
          let same : w.deref-then-may_tell-2.result.now ≡ chunk_rows chunk = w.deref-then-may_tell-2.ensures.value ∙ ap (λ z. z.rows.items) w.deref-then-may_tell.ensures in
          chunk_tells LIST_LIMIT p chunks i chunk told c.if-may_tell.told.items within at c.loop-chunk.invariant (ap (λ v. v.items) w.told-is ∙ w.in_ok-tell.ensures ∙ ap (λ l. take LIST_LIMIT (told ++ filter p l)) same)
      | else-may_tell w ↦
          let no : c.may_tell.result ≡ false = search rules in
          ap (λ v. v.items) w.told-is ∙ none_more LIST_LIMIT p chunks i chunk told within at c.loop-chunk.invariant (ap (filter p) (sym rows) ∙ c.may_tell.ensures no)
    ]
