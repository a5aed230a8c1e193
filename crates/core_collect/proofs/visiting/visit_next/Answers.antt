use Rattle.std.proofs.Common.{◌≡◌, None, Some, sym, ◌∙◌, rules}
use Rattle.core_collect.proofs.VisitAnswers.{is_error, next_done, next_failed, next_none, next_unlisted}
use Rattle.core_collect.proofs.visiting.visit_next.Goals as goal

pub returns-in_err-list_chunks-clause-visits : goal.returns-in_err-list_chunks-clause-visits
returns-in_err-list_chunks-clause-visits g c =
    next_unlisted g.D.Disk c.args.disk.now c.list_chunks.new.disk c.args.book.now c.args.plan.now c.list_chunks.new.plan c.list_chunks.result _
    c.list_chunks.ensures (is_error c.list_chunks.result _ c.in_err-list_chunks.was) (search rules)

pub returns-in_default-clause-visits : goal.returns-in_default-clause-visits
returns-in_default-clause-visits g c =
    let none : c.sweep_next.result ≡ None = search rules in
    next_none g.D.Disk c.args.disk.now c.list_chunks.new.disk c.args.book.now c.args.plan.now c.list_chunks.new.plan _ c.list_chunks.ensures.reads c.in_ok-list_chunks.ensures.listed
    c.sweep_next.new.self (sym c.sweep_next.ensures.next ∙ none) c.sweep_next.ensures.left

pub returns-in_err-visit-clause-visits : goal.returns-in_err-visit-clause-visits
returns-in_err-visit-clause-visits g c =
    let some : c.sweep_next.result ≡ Some c.in-Some.digest = search rules in
    next_failed g.D.Disk c.args.disk.now c.list_chunks.new.disk c.args.book.now c.args.plan.now c.list_chunks.new.plan _ c.list_chunks.ensures.reads c.in_ok-list_chunks.ensures.listed
    c.visit.new.disk c.visit.new.book c.sweep_next.new.self c.visit.new.plan c.in-Some.digest (sym c.sweep_next.ensures.next ∙ some) c.sweep_next.ensures.left
    c.visit.result _ c.visit.ensures.visits (is_error c.visit.result _ c.in_err-visit.was) (search rules)

pub returns-clause-visits : goal.returns-clause-visits
returns-clause-visits g c =
    let some : c.sweep_next.result ≡ Some c.in-Some.digest = search rules in
    next_done g.D.Disk c.args.disk.now c.list_chunks.new.disk c.args.book.now c.args.plan.now c.list_chunks.new.plan _ c.list_chunks.ensures.reads c.in_ok-list_chunks.ensures.listed
    c.visit.new.disk c.visit.new.book c.sweep_next.new.self c.visit.new.plan c.in-Some.digest (sym c.sweep_next.ensures.next ∙ some) c.sweep_next.ensures.left
    c.in_ok-visit.ensures.visits
