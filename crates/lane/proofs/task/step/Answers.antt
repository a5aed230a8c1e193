use Rattle.std.proofs.Common.{sym, subst}
use Rattle.store_history.specs.declared.act.Act.TheVariants as acts
use Rattle.lane.specs.Tasks.{IsSound}
use Rattle.lane.proofs.Acting.{acted_by}
use Rattle.lane.proofs.Tasks.{act_formed, answer_to, once_as, twice, want_is, want_taken, wants_again}
use Rattle.lane.proofs.task.step.Goals as goal

pub act-answer-requires-clause-formed : goal.act-answer-requires-clause-formed
act-answer-requires-clause-formed g c = act_formed (g.J.Task.stage c.args.task.now) c.args.act (c.requires.on).sound c.requires.next

pub take-requires-clause-answer : goal.take-requires-clause-answer
take-requires-clause-answer g c = let x = c.act-answer.ensures in
    answer_to _ _ c.args.lane (g.J.Task.stage c.args.task.now) c.args.act c.act-answer.result (c.requires.on).sound c.requires.next
    (acted_by c.args.seat.now c.act-answer.new.seat c.args.lane c.args.act c.act-answer.result x.entered x.answered x.rises x.lane x.told x.text c.args.seat.now)

-- ---- the answer was taken

pub returns-in_default-clause-stepped : goal.returns-in_default-clause-stepped
returns-in_default-clause-stepped g c = λ start. let x = c.act-answer.ensures in
    (once_as _ _ c.args.lane (g.J.Task.stage c.args.task.now) _ c.args.is_last.now c.args.act c.act-answer.result c.requires.next c.requires.on
    (acted_by c.args.seat.now c.act-answer.new.seat c.args.lane c.args.act c.act-answer.result x.entered x.answered x.rises x.lane x.told x.text start) c.in_default.ensures.ok).0

pub returns-in_default-clause-goes : goal.returns-in_default-clause-goes
returns-in_default-clause-goes g c = let x = c.act-answer.ensures in
    (once_as _ _ c.args.lane (g.J.Task.stage c.args.task.now) _ c.args.is_last.now c.args.act c.act-answer.result c.requires.next c.requires.on
    (acted_by c.args.seat.now c.act-answer.new.seat c.args.lane c.args.act c.act-answer.result x.entered x.answered x.rises x.lane x.told x.text c.args.seat.now) c.in_default.ensures.ok).1

-- ---- or it was dropped, for want of memory

pub take-requires-2-clause-answer : goal.take-requires-2-clause-answer
take-requires-2-clause-answer g c = let y = c.act-short.ensures in let kept = c.in-Err.ensures.err in
    answer_to _ _ c.args.lane _ acts.Short c.act-short.result (subst IsSound (sym kept.0) (c.requires.on).sound)
    (wants_again (g.J.Task.stage c.args.task.now) _ c.act-answer.result kept.0 kept.1)
    (acted_by c.act-answer.new.seat c.act-short.new.seat c.args.lane acts.Short c.act-short.result y.entered y.answered y.rises y.lane y.told y.text c.args.seat.now)

pub returns-clause-stepped : goal.returns-clause-stepped
returns-clause-stepped g c = λ start. let x = c.act-answer.ensures in let y = c.act-short.ensures in let kept = c.in-Err.ensures.err in
    let wanted = acted_by c.act-answer.new.seat c.act-short.new.seat c.args.lane acts.Short c.act-short.result y.entered y.answered y.rises y.lane y.told y.text start in
    (twice _ _ _ c.args.lane (g.J.Task.stage c.args.task.now) _ c.args.is_last.now c.args.act c.act-answer.result c.act-short.result c.requires.next c.requires.on
    (acted_by c.args.seat.now c.act-answer.new.seat c.args.lane c.args.act c.act-answer.result x.entered x.answered x.rises x.lane x.told x.text start) kept.1 wanted
    (want_taken c.take-2.result (g.J.Task.stage c.args.task.now) _ _ c.act-answer.result c.act-short.result kept.0 kept.1 (want_is _ _ c.args.lane c.act-short.result wanted)
    c.take-2.ensures.ok c.take-2.ensures.err)).0

pub returns-clause-goes : goal.returns-clause-goes
returns-clause-goes g c = let x = c.act-answer.ensures in let y = c.act-short.ensures in let kept = c.in-Err.ensures.err in
    let wanted = acted_by c.act-answer.new.seat c.act-short.new.seat c.args.lane acts.Short c.act-short.result y.entered y.answered y.rises y.lane y.told y.text c.args.seat.now in
    (twice _ _ _ c.args.lane (g.J.Task.stage c.args.task.now) _ c.args.is_last.now c.args.act c.act-answer.result c.act-short.result c.requires.next c.requires.on
    (acted_by c.args.seat.now c.act-answer.new.seat c.args.lane c.args.act c.act-answer.result x.entered x.answered x.rises x.lane x.told x.text c.args.seat.now) kept.1 wanted
    (want_taken c.take-2.result (g.J.Task.stage c.args.task.now) _ _ c.act-answer.result c.act-short.result kept.0 kept.1 (want_is _ _ c.args.lane c.act-short.result wanted)
    c.take-2.ensures.ok c.take-2.ensures.err)).1
