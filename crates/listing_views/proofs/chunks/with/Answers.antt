use Rattle.std.proofs.Common.{◌≡◌, ◌∙◌, ◌++◌, ◌∷◌, [], ap, sym, drop, length, take, rules}
use Rattle.std.proofs.lemmas.List.{nil_from_length}
use Rattle.listing_views.specs.Rows.{all_rows, chunk_rows, insert_row}
use Rattle.listing_views.proofs.Chunking.{placed, placed_last}
use Rattle.listing_views.proofs.chunks.with.Goals.{in-Some+in_ok-with_row-in-Some+in_ok-push_rows-in-Some+in_ok-share-in-Some, in-None+in_ok-with_row-in-None+in_ok-push_rows-in-None}
use Rattle.listing_views.proofs.chunks.with.Goals as goal

pub returns : goal.returns
returns c =
    let row = c.args.row in
    let chunks = c.args.chunks.now in
    let place = c.place_for-place.result in
    let goes = c.place_for-place.ensures in
    let front : all_rows c.share.new.into.items ≡ all_rows (take place chunks) =
    c.in_ok-share.ensures ∙ ap (λ l. all_rows l ++ all_rows c.split_at.result.0.now) c.new-next.ensures.items ∙ ap all_rows c.split_at.ensures.front in
    elim c.match-split_first.branch [
      | in-Some+in_ok-with_row-in-Some+in_ok-push_rows-in-Some+in_ok-share-in-Some w ↦
          let chunk = w.in-Some.chunk.now in
          let back = w.in-Some.back.now in
          let at : drop place chunks ≡ chunk ∷ back = search rules in
          let old : w.deref-in-Some.result.now ≡ chunk_rows chunk = w.deref-in-Some.ensures.value ∙ ap (λ z. z.rows.items) w.deref.ensures in
          let put : all_rows w.push_rows.new.into.items ≡ all_rows (take place chunks) ++ insert_row row (chunk_rows chunk) =
          w.in_ok-push_rows-in-Some.ensures ∙ ap (λ l. l ++ w.in_ok-with_row-in-Some.field-0.items) front
          ∙ ap (λ l. all_rows (take place chunks) ++ l) (w.in_ok-with_row-in-Some.ensures.value ∙ ap (insert_row row) old) in
          ap (λ v. all_rows v.items) w.next-is ∙ placed row chunks place chunk back w.share-in-Some.new.into.items w.push_rows.new.into.items goes at put w.in_ok-share-in-Some.ensures
      | in-None+in_ok-with_row-in-None+in_ok-push_rows-in-None w ↦
          let empty : length c.split_at.result.1.now ≡ 0 = search rules in
          let at : drop place chunks ≡ [] = sym c.split_at.ensures.back ∙ nil_from_length c.split_at.result.1.now empty in
          let put : all_rows w.push_rows-in-None.new.into.items ≡ all_rows (take place chunks) ++ insert_row row [] =
          w.in_ok-push_rows-in-None.ensures ∙ ap (λ l. l ++ w.in_ok-with_row-in-None.field-0.items) front ∙ ap (λ l. all_rows (take place chunks) ++ l) w.in_ok-with_row-in-None.ensures.value in
          ap (λ v. all_rows v.items) w.next-is ∙ placed_last row chunks place w.push_rows-in-None.new.into.items goes at put
    ]
