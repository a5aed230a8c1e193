use Rattle.std.proofs.Common.{Some, sym, subst}
use Rattle.lane.specs.declared.ending.Last.{Last}
use Rattle.lane.specs.Causes.{HasCauses}
use Rattle.core_state.proofs.Texts.{done_has_text}
use Rattle.lane.proofs.Turning.{bye_stops, broken_stops}
use Rattle.lane.proofs.Serving.{short_here, as_last}
use Rattle.lane.proofs.run.turn.Goals as goal

pub returns-in-Bye-clause-goes : goal.returns-in-Bye-clause-goes
returns-in-Bye-clause-goes g c = λ seat start s. bye_stops _ start _ _ _ c.args.progress.now.input.cutter _ _ s c.in-Bye.ensures

pub returns-in-Bye-clause-text : goal.returns-in-Bye-clause-text
returns-in-Bye-clause-text g c = done_has_text

pub returns-in-Broken-clause-goes : goal.returns-in-Broken-clause-goes
returns-in-Broken-clause-goes g c = λ seat start s. as_last _ start _ _ _ _ _ c.broken.result _ _ c.broken.ensures
    (broken_stops _ start _ _ _ c.args.progress.now.input.cutter _ _ _ _ s (c.in-Broken.ensures).0 (sym c.args.progress.now.input.begins))

pub returns-in-NoMemory-clause-goes : goal.returns-in-NoMemory-clause-goes
returns-in-NoMemory-clause-goes g c = λ seat start s. as_last _ start _ _ _ _ _ c.untold.result _ _ c.untold.ensures
    (short_here _ _ start _ _ _ _ c.args.progress.now.input.cutter _ _ _ _ s (c.short-ending.ensures.answers seat) c.in-NoMemory.ensures)

pub returns-in-NoMemory-clause-causes : goal.returns-in-NoMemory-clause-causes
returns-in-NoMemory-clause-causes g c =
    subst (λ (l : Last). HasCauses (g.S.Source.faults c.args.port.now.source) (g.S.Source.faults c.args.port.now.source) (g.K.Sink.faults c.args.port.now.sink) (g.K.Sink.faults c.short-ending.new.sink) c.args.progress.now.input.taken (Some l.ending))
    (sym c.untold.ensures) (c.short-ending.ensures.causes (g.S.Source.faults c.args.port.now.source) c.args.progress.now.input.taken)
