use Rattle.std.proofs.Common.{◌≡◌, ℕ, ◌+◌, ◌-◌, List, length, take, ap, ap₂, subst, sym, ◌∙◌, Vec, Global, arith}
use Rattle.atime_book.specs.declared.parts.Touched.{Touched}
use Rattle.atime_book.specs.Parts.{joined}
use Rattle.atime_book.specs.Counts.{ListsBook, used_among, pending_among}
use Rattle.atime_book.proofs.Counting.{since, uses, pends, since_more, since_within, since_all}
use Rattle.atime_book.proofs.Parting.{joined_rises}
use Rattle.atime_book.proofs.Book.counts.Goals as goal

more : (c : goal.After-count_since) → c.loop-part.used + c.count_since.result ≡ length (since c.args.start (joined (take (c.loop-part.part-index + 1) c.deref-part-items.result.now)))
more c =
    let parts = c.deref-part-items.result.now in
    let part = c.part-item.result in
    let here = c.count_since.ensures ∙ ap (λ ts. length (since c.args.start ts)) (c.deref.ensures.value ∙ ap (λ (p : Vec Touched Global). p.items) c.part-item.is) in
    since_more c.args.start parts c.loop-part.part-index part c.loop-part.used c.count_since.result c.loop-part-test.true c.loop-part.invariant here

pub overflow_add-used : goal.overflow_add-used
overflow_add-used c =
    let parts = c.deref-part-items.result.now in
    let all = ap (λ ps. length (joined ps)) c.deref-part-items.ensures.value in
    omega (arith, more c, all, since_within c.args.start parts (c.loop-part.part-index + 1), c.self.invariant.counted)

pub loop-part-preserved : goal.loop-part-preserved
loop-part-preserved c = more c

-- all were counted
counted : (c : goal.After-loop-part) → c.loop-part.used ≡ length (since c.args.start (joined c.self.inside.parts.items))
counted c =
    since_all c.args.start c.deref-part-items.result.now c.loop-part.part-index c.loop-part.used c.loop-part-test.false c.loop-part.invariant
    ∙ ap (λ ps. length (since c.args.start (joined ps))) c.deref-part-items.ensures.value

pub overflow_sub-result : goal.overflow_sub-result
overflow_sub-result c =
    let parts = c.deref-part-items.result.now in
    let all = ap (λ ps. length (joined ps)) c.deref-part-items.ensures.value in
    omega (arith, all, c.loop-part.invariant, since_within c.args.start parts c.loop-part.part-index, c.self.invariant.counted)

used_is : (c : goal.After-loop-part) (ds : List (List ℕ)) → ListsBook c.args.self.now ds → c.loop-part.used ≡ used_among c.args.self.now c.args.start ds
used_is c ds lists =
    let parts = c.self.inside.parts.items in
    let own = subst (λ book. ListsBook book ds) (sym c.self.view_is) lists in
    counted c ∙ uses c.self.inside.moment (joined parts) (joined_rises 0 parts c.self.invariant.each) ds own c.args.start
    ∙ ap (λ book. used_among book c.args.start ds) c.self.view_is

pending_is : (c : goal.After-loop-part) (ds : List (List ℕ)) → ListsBook c.args.self.now ds →
    c.self.inside.count - c.loop-part.used ≡ pending_among c.args.self.now c.args.start ds
pending_is c ds lists =
    let parts = c.self.inside.parts.items in
    let own = subst (λ book. ListsBook book ds) (sym c.self.view_is) lists in
    ap₂ (λ all used. all - used) c.self.invariant.counted (counted c)
    ∙ pends c.self.inside.moment (joined parts) (joined_rises 0 parts c.self.invariant.each) ds own c.args.start
    ∙ ap (λ book. pending_among book c.args.start ds) c.self.view_is

pub returns : goal.returns
returns c = record { used_is = used_is c; pending_is = pending_is c }
