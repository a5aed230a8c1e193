use Rattle.std.proofs.Common.{◌≡◌, false, sym, subst}
use Rattle.store_model.specs.Lanes.{command_next}
use Rattle.lane.specs.Acting.{Has}
use Rattle.lane.specs.Tasks.{Stage, HasStepped, MayGoOn, MayWant, first_stage}
use Rattle.lane.proofs.Stages.{of_err, of_ok}
use Rattle.lane.proofs.Tasks.{first_on, short_does, stepped_done, stepped_none, stepped_on}
use Rattle.lane.proofs.task.do_task.Goals as goal

pub loop-init : goal.loop-init
loop-init g c = (
  λ start. subst (λ (s : Stage). HasStepped (Has start c.args.seat.now) (Has start c.args.seat.now) c.args.lane (command_next c.args.command.now) s false) (sym (of_ok c.args.begun c.in-Ok.task (λ task. g.J.Task.stage task ≡ first_stage c.args.command.now) c.in-Ok.is c.requires.first))
      (stepped_none (Has start c.args.seat.now) c.args.lane c.args.command.now c.requires.task),
  subst (λ (s : Stage). MayGoOn s false) (sym (of_ok c.args.begun c.in-Ok.task (λ task. g.J.Task.stage task ≡ first_stage c.args.command.now) c.in-Ok.is c.requires.first)) (first_on c.args.command.now c.requires.task),
  c.requires.can,
)

pub loop-preserved : goal.loop-preserved
loop-preserved g c =
    let before = c.loop.invariant in
    let did = c.step.ensures in (
      λ start. stepped_on _ _ _ c.args.lane (command_next c.args.command.now) _ _ c.loop.last _ (before.0 start) (did.stepped start),
      did.goes,
      did.can,
    )

pub next_act-requires : goal.next_act-requires
next_act-requires g c = (c.loop.invariant.1).sound

pub step-requires-clause-on : goal.step-requires-clause-on
step-requires-clause-on g c κs lives = c.loop.invariant.1

pub returns-in_default-next_act-clause-does : goal.returns-in_default-next_act-clause-does
returns-in_default-next_act-clause-does g c = λ start.
    stepped_done _ _ c.args.lane (command_next c.args.command.now) (g.J.Task.stage c.loop.task) (record { reply = c.report.result; last = c.loop.last }) (c.loop.invariant.0 start) c.report.ensures.report

-- ---- there was no memory for its beginning

pub returns-in_default-clause-does : goal.returns-in_default-clause-does
returns-in_default-clause-does g c = λ start. short_does _ _ c.args.lane c.args.command.now c.ask.result c.requires.task (of_err c.args.begun c.in_default.field-0 (MayWant (first_stage c.args.command.now)) c.in_default.is c.requires.wants) (c.ask.ensures.did start) c.ask.ensures.tells
