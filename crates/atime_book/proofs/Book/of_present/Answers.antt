use Rattle.std.proofs.Common.{Bool, List, ◌∷◌, [], ◌++◌, get_or, cond, ap, sym, ◌∙◌, rules}
use Rattle.std.specs.declared.alloc.Global.{Global}
use Rattle.std.specs.declared.vec.Vec.{Vec}
use Rattle.store_types.specs.declared.names.Digest32.{Digest32}
use Rattle.atime_book.specs.Touches.{last_of}
use Rattle.atime_book.proofs.Presents.{present_next, none_by}
use Rattle.atime_book.proofs.Book.of_present.Goals.{then-is_none+in_ok-push, else-is_none}
use Rattle.atime_book.proofs.Book.of_present.Goals as goal

pub loop-digest-preserved : goal.loop-digest-preserved
loop-digest-preserved c =
    let d = get_or c.args.present.now c.loop-digest.digest-index (record { 0 = [] }) in
    let undated = c.loop-digest.undated.items in
    let unknown = none_by c.last-last.result (last_of c.args.self.now d.0) c.is_none.result c.last-last.ensures c.is_none.ensures in
    let by : Bool → List Digest32 = λ b. cond b (undated ++ d ∷ []) undated in
    present_next c.args.self.now c.loop-digest.book c.touch.new.self c.args.present.now undated c.if-is_none.undated.items c.loop-digest.digest-index _ _
    c.loop-digest-test.true c.loop-digest.invariant c.in_ok-touch.ensures.ok (search rules)
    (elim c.if-is_none.branch [
      | then-is_none+in_ok-push w ↦ ap (λ (v : Vec Digest32 Global). v.items) w.undated-is ∙ w.in_ok-push.ensures.items ∙ sym (ap by (unknown ∙ w.if-is_none.true))
      | else-is_none w ↦ ap (λ (v : Vec Digest32 Global). v.items) w.undated-is ∙ sym (ap by (unknown ∙ w.if-is_none.false))
    ])
