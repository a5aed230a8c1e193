use Rattle.std.proofs.Common.{◌≡◌, ◌∙◌, true, ◌++◌, ◌∷◌, [], ap, sym, subst, append-nil, append_assoc, length, rules, arith}
use Rattle.std.proofs.lemmas.List.{nil_from_length}
use Rattle.std.specs.Vec.Iter.{into_iter_items}
use Rattle.listing_views.specs.Rising.{Rises}
use Rattle.listing_views.specs.Rows.{all_rows, chunk_rows}
use Rattle.listing_views.proofs.Chunking.{pushed}
use Rattle.listing_views.proofs.chunks.chunks_of.Goals.{then-not-may_follow+in_ok-new+in_ok-push, else-not-may_follow}
use Rattle.listing_views.proofs.chunks.chunks_of.Goals as goal

pub loop-row-preserved : goal.loop-row-preserved
loop-row-preserved c =
    let row = c.in-Some.row in
    let cs = c.loop-row.chunks.items in
    let open_ = c.loop-row.open.items in
    let was = c.loop-row.invariant in
    let left = into_iter_items c.next.new.self in
    let first = c.in-Some.ensures.steps.0 in
    let next = c.if-not-may_follow in
    let both : (all_rows next.chunks.items ++ next.open.items ≡ all_rows cs ++ open_) × Rises (next.open.items ++ row ∷ []) =
    elim c.if-not-may_follow.branch [
      | then-not-may_follow+in_ok-new+in_ok-push w ↦
          let none : next.open.items ≡ [] = ap (λ v. v.items) (w.open-is ∙ w.replace-full.ensures.after) ∙ w.new.ensures.items in
          let full : chunk_rows w.in_ok-new.field-0 ≡ open_ = ap (λ z. z.rows.items) w.in_ok-new.ensures.ok ∙ ap (λ v. v.items) w.replace-full.ensures.value in
          let put : all_rows next.chunks.items ≡ all_rows cs ++ open_ = pushed cs next.chunks.items w.in_ok-new.field-0 open_ (ap (λ v. v.items) w.chunks-is ∙ w.in_ok-push.ensures.items) full in
          (ap (λ l. all_rows next.chunks.items ++ l) none ∙ append-nil (all_rows next.chunks.items) ∙ put, subst (λ l. Rises (l ++ row ∷ [])) (sym none) (tt, tt))
      | else-not-may_follow w ↦
          let yes : c.may_follow.result ≡ true = search rules in
          let same = c.deref.ensures.value in (
            ap (λ v. all_rows v.items ++ next.open.items) w.chunks-is ∙ ap (λ v. all_rows cs ++ v.items) w.open-is,
            subst (λ v. Rises (v.items ++ row ∷ [])) (sym w.open-is) (subst (λ l. Rises (l ++ row ∷ [])) same (c.may_follow.ensures yes (subst Rises (sym same) was.rises))),
          )
    ] in
    let put = c.in_ok-push-2.ensures.items in
    record {
      rest = append_assoc c.loop-row.yielded (row ∷ []) left ∙ ap (λ xs. c.loop-row.yielded ++ xs) (sym first) ∙ was.rest;
      size = let size = ap length first in let one = c.in-Some.ensures.steps.1 in let same = was.size in omega (arith, size, one, same);
      rows = ap (λ l. all_rows next.chunks.items ++ l) put ∙ sym (append_assoc (all_rows next.chunks.items) next.open.items (row ∷ [])) ∙ ap (λ l. l ++ row ∷ []) (both.0 ∙ was.rows);
      rises = subst Rises (sym put) both.1;
    }

pub returns : goal.returns
returns c =
    let was = c.loop-row.invariant in
    let none : into_iter_items c.loop-row.row-iterator ≡ [] = let none = c.in-None.ensures.steps.0 in let same = was.size in nil_from_length (into_iter_items c.loop-row.row-iterator) (omega (arith, none, same)) in
    pushed c.loop-row.chunks.items c.push-2.new.self.items c.in_ok-new-2.field-0 c.loop-row.open.items c.in_ok-push-3.ensures.items (ap (λ z. z.rows.items) c.in_ok-new-2.ensures.ok)
    ∙ was.rows ∙ sym (ap (λ l. c.loop-row.yielded ++ l) none ∙ append-nil c.loop-row.yielded) ∙ was.rest
