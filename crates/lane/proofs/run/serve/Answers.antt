use Rattle.std.proofs.Common.{Some, sym, subst}
use Rattle.lane.specs.declared.ending.Last.{Last}
use Rattle.lane.specs.Causes.{HasCauses}
use Rattle.lane.specs.Turns.{ending_of}
use Rattle.lane.proofs.Serving.{command_served, command_stops, as_last, as_going}
use Rattle.lane.proofs.run.serve.Goals as goal

pub returns-in_err-ending-clause-goes : goal.returns-in_err-ending-clause-goes
returns-in_err-ending-clause-goes g c = λ seat start s. as_going _ start _ _ _ c.advance.new.self _ _ c.from_residual.ensures
    (command_served _ _ start _ _ _ _ c.args.progress.now.input.cutter _ _ _ _ _ c.args.command _ s c.requires.ahead (c.do_command-told.ensures.does seat) c.in_err-ending.ensures.gives c.advance.ensures.cutter c.advance.ensures.taken)

pub returns-in_err-ending-clause-causes : goal.returns-in_err-ending-clause-causes
returns-in_err-ending-clause-causes g c =
    subst (λ o. HasCauses (g.S.Source.faults c.args.port.now.source) (g.S.Source.faults c.args.port.now.source) (g.K.Sink.faults c.args.port.now.sink) (g.K.Sink.faults c.give-ending.new.sink) c.advance.new.self.taken (ending_of o))
    (sym c.from_residual.ensures) (c.in_err-ending.ensures.causes (g.S.Source.faults c.args.port.now.source) c.advance.new.self.taken)

pub returns-clause-goes : goal.returns-clause-goes
returns-clause-goes g c = λ seat start s. as_last _ start _ _ _ _ _ c.untold.result _ _ c.untold.ensures
    (command_stops _ _ start _ _ _ _ c.args.progress.now.input.cutter _ _ _ _ c.args.command _ _ s c.requires.ahead (c.do_command-told.ensures.does seat) c.in_ok-ending.ensures.gives c.advance.ensures.taken)

pub returns-clause-causes : goal.returns-clause-causes
returns-clause-causes g c =
    subst (λ (l : Last). HasCauses (g.S.Source.faults c.args.port.now.source) (g.S.Source.faults c.args.port.now.source) (g.K.Sink.faults c.args.port.now.sink) (g.K.Sink.faults c.give-ending.new.sink) c.advance.new.self.taken (Some l.ending))
    (sym c.untold.ensures) (c.in_ok-ending.ensures.causes (g.S.Source.faults c.args.port.now.source) c.advance.new.self.taken)
