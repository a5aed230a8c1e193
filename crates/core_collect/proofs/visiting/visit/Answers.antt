use Rattle.std.proofs.Common.{◌≡◌, true, false, sym, ap, subst, ◌∙◌, rules}
use Rattle.atime_book.specs.Touches.{SweptAt, is_stale, last_of}
use Rattle.core_collect.specs.Visiting.{goes}
use Rattle.core_collect.proofs.VisitAnswers.{visits_failed, visits_fresh, visits_taken}
use Rattle.core_collect.proofs.visiting.visit.Goals as goal

pub returns-then-not-is_stale-clause-visits : goal.returns-then-not-is_stale-clause-visits
returns-then-not-is_stale-clause-visits g c =
    let book = c.args.book.now in
    let plan = c.args.plan.now in
    let digest = c.args.digest.now in
    let fresh : goes book plan digest ≡ false = sym (c.is_stale.ensures ∙ ap (is_stale (last_of book digest.0)) c.cutoff.ensures) ∙ c.if-not-is_stale.true in
    visits_fresh g.D.Disk c.args.disk.now book plan digest fresh

pub returns-in_err-remove-clause-visits : goal.returns-in_err-remove-clause-visits
returns-in_err-remove-clause-visits g c =
    let book = c.args.book.now in
    let plan = c.args.plan.now in
    let digest = c.args.digest.now in
    let stale : goes book plan digest ≡ true = sym (c.is_stale.ensures ∙ ap (is_stale (last_of book digest.0)) c.cutoff.ensures) ∙ c.if-not-is_stale.false in
    visits_failed g.D.Disk c.args.disk.now c.remove.new.disk book plan digest _ (search rules) stale c.remove.ensures.crash

pub returns-clause-visits : goal.returns-clause-visits
returns-clause-visits g c =
    let book = c.args.book.now in
    let plan = c.args.plan.now in
    let digest = c.args.digest.now in
    let stale : goes book plan digest ≡ true = sym (c.is_stale.ensures ∙ ap (is_stale (last_of book digest.0)) c.cutoff.ensures) ∙ c.if-not-is_stale.false in
    let goes_out : c.sweep_one.result ≡ true = c.sweep_one.ensures.stale ∙ ap (is_stale (last_of book digest.0)) c.cutoff-2.ensures ∙ stale in
    visits_taken g.D.Disk c.args.disk.now c.remove.new.disk book c.sweep_one.new.self plan c.removed.new.self digest stale c.remove.ensures.crash c.in_ok-remove.ensures.removed
    (subst (SweptAt book c.sweep_one.new.self digest.0) goes_out c.sweep_one.ensures.swept) c.removed.ensures
