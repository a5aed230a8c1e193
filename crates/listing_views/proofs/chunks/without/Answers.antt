use Rattle.std.proofs.Common.{◌≡◌, ◌<◌, ◌∙◌, false, ◌++◌, [], ap, sym, length, get_or, append-nil, rules}
use Rattle.listing_views.specs.Rows.{all_rows, chunk_rows, rows_without}
use Rattle.listing_views.proofs.Chunking.{no_items, pushed, without_more}
use Rattle.listing_views.proofs.chunks.without.Goals.{then-may_have+in_ok-rest+then-not-is_empty+in_ok-new+in_ok-push, then-may_have+in_ok-rest+else-not-is_empty, else-may_have+in_ok-try_clone+in_ok-push-2}
use Rattle.listing_views.proofs.chunks.without.Goals as goal

pub loop-chunk-preserved : goal.loop-chunk-preserved
loop-chunk-preserved c =
    let key = c.args.key.now in
    let chunks = c.args.chunks.now in
    let i = c.loop-chunk.chunk-index in
    let chunk = c.chunk-item.result in
    let next = c.loop-chunk.next.items in
    let next' = c.if-may_have.next.items in
    let within : i < length chunks = search rules in
    let at : chunk ≡ get_or chunks i chunk = search rules in
    let rows : c.deref-in-loop-chunk.result.now ≡ chunk_rows chunk = c.deref-in-loop-chunk.ensures.value ∙ ap (λ z. z.rows.items) c.deref.ensures in
    let here : all_rows next' ≡ all_rows next ++ rows_without key (chunk_rows chunk) =
    elim c.if-may_have.branch [
      | then-may_have+in_ok-rest+then-not-is_empty+in_ok-new+in_ok-push w ↦
          pushed next next' w.in_ok-new.field-0 (rows_without key (chunk_rows chunk)) (ap (λ v. v.items) w.next-is ∙ w.in_ok-push.ensures.items)
          (ap (λ z. z.rows.items) w.in_ok-new.ensures.ok ∙ w.in_ok-rest.ensures.value ∙ ap (rows_without key) (w.deref-then-may_have-2.ensures.value ∙ ap (λ z. z.rows.items) w.deref-then-may_have.ensures))
      | then-may_have+in_ok-rest+else-not-is_empty w ↦
          let none : w.in_ok-rest.rest.items ≡ [] = no_items w.in_ok-rest.rest w.is_empty.result w.is_empty.ensures w.if-not-is_empty.false in
          let left = w.in_ok-rest.ensures.value ∙ ap (rows_without key) (w.deref-then-may_have-2.ensures.value ∙ ap (λ z. z.rows.items) w.deref-then-may_have.ensures) in
          ap (λ v. all_rows v.items) w.next-is ∙ sym (append-nil (all_rows next)) ∙ ap (λ l. all_rows next ++ l) (sym none ∙ left)
      | else-may_have+in_ok-try_clone+in_ok-push-2 w ↦
          let no : c.may_have.result ≡ false = search rules in
          let same : rows_without key (chunk_rows chunk) ≡ chunk_rows chunk = ap (rows_without key) (sym rows) ∙ c.may_have.ensures no ∙ rows in
          pushed next next' w.in_ok-try_clone.field-0 (rows_without key (chunk_rows chunk)) (ap (λ v. v.items) w.next-is ∙ w.in_ok-push-2.ensures.items)
          (ap (λ z. z.rows.items) w.in_ok-try_clone.ensures ∙ sym same)
    ] in
    without_more key chunks i chunk next next' within at c.loop-chunk.invariant here
