use Rattle.std.proofs.Common.{◌≡◌, ◌-◌, cond, Some, None, inl, inr, refl, sym, ap, rules, arith}
use Rattle.std.proofs.lemmas.Bool.{eq-eqb, ne_eqb}
use Rattle.gc_plan.specs.Plan.{next_mark}
use Rattle.core_collect.proofs.MarkLemmas.{at_hand_mark, left_is, mark_is, marks_some, never_none}
use Rattle.core_collect.proofs.marking.mark.Goals as goal

pub returns-in_default : goal.returns-in_default
returns-in_default c =
    let none : next_mark c.args.collector.now.plan ≡ None = search rules in
    absurd (at_hand_mark c.args.collector.now c.args.digests.now c.requires none)

pub returns-in_default-pages : goal.returns-in_default-pages
returns-in_default-pages c = absurd (never_none c.args.collector.now.pages (search rules) c.requires.pages)

pub returns-then-count-left : goal.returns-then-count-left
returns-then-count-left c =
    let old = c.args.collector.now in
    let first = c.in-Some.first in
    let count = c.mark_size-count.result in
    let rest = c.len.result - first in
    let at : next_mark old.plan ≡ Some (c.in-Some.field-0-0, first) = search rules in
    let had : old.pages ≡ Some c.in-Some-pages.pages = search rules in
    let same : count ≡ rest = c.if-count-left.true in
    let none : rest - count ≡ 0 = omega (arith, same) in
    marks_some c.args.book.now c.touch_each.new.book old _ c.args.digests.now c.args.moment count rest (left_is old c.in-Some-pages.pages first c.len.result had (mark_is old.plan.indexes old.plan.stage (c.in-Some.field-0-0, first) at) c.len.ensures.value) c.mark_size-count.ensures
    c.touch_each.ensures refl refl c.marked.ensures.value (sym (ap (λ b. cond b None old.pages) (eq-eqb count rest same))) (c.marked.ensures.less (inr none))

pub returns-else-count-left : goal.returns-else-count-left
returns-else-count-left c =
    let old = c.args.collector.now in
    let first = c.in-Some.first in
    let count = c.mark_size-count.result in
    let rest = c.len.result - first in
    let at : next_mark old.plan ≡ Some (c.in-Some.field-0-0, first) = search rules in
    let had : old.pages ≡ Some c.in-Some-pages.pages = search rules in
    let is = c.mark_size-count.ensures in
    let other = c.if-count-left.false in
    marks_some c.args.book.now c.touch_each.new.book old _ c.args.digests.now c.args.moment count rest (left_is old c.in-Some-pages.pages first c.len.result had (mark_is old.plan.indexes old.plan.stage (c.in-Some.field-0-0, first) at) c.len.ensures.value) is
    c.touch_each.ensures refl refl c.marked.ensures.value (sym (ap (λ b. cond b None old.pages) (ne_eqb count rest other))) (c.marked.ensures.less (inl (omega (arith, is, other))))
