use Rattle.std.proofs.Common.{Some, sym, subst, arith}
use Rattle.lane.specs.declared.ending.Last.{Last}
use Rattle.lane.specs.Causes.{HasCauses}
use Rattle.lane.proofs.Turning.{took_more, ended_stops, source_stops, full_stops}
use Rattle.lane.proofs.Serving.{short_piece, as_last}
use Rattle.lane.proofs.Caused.{causes_later}
use Rattle.lane.proofs.run.more.Goals as goal

pub returns-in-More-clause-goes : goal.returns-in-More-clause-goes
returns-in-More-clause-goes g c = λ seat start s. took_more _ start _ _ _ _ c.args.progress.now.input c.take.new.self _ s c.in-More.ensures.takes

pub returns-in-End-clause-goes : goal.returns-in-End-clause-goes
returns-in-End-clause-goes g c = λ seat start s.
    ended_stops _ start _ _ _ _ c.args.progress.now.input c.take.new.self _ c.ended.result s c.requires.part c.in-End.ensures.takes c.ended.ensures.ending

pub returns-in-Fault-clause-goes : goal.returns-in-Fault-clause-goes
returns-in-Fault-clause-goes g c = λ seat start s. as_last _ start _ _ _ _ _ c.untold.result _ _ c.untold.ensures
    (source_stops _ start _ _ _ _ c.args.progress.now.input c.take.new.self _ s c.requires.part c.in-Fault.ensures.takes)

pub returns-in-TooLong-clause-goes : goal.returns-in-TooLong-clause-goes
returns-in-TooLong-clause-goes g c = λ seat start s. as_last _ start _ _ _ _ _ c.untold-in-TooLong.result _ _ c.untold-in-TooLong.ensures
    (full_stops _ start _ _ _ _ c.args.progress.now.input c.take.new.self _ s c.requires.part c.in-TooLong.ensures.takes)

pub returns-in-NoMemory-clause-goes : goal.returns-in-NoMemory-clause-goes
returns-in-NoMemory-clause-goes g c = λ seat start s. as_last _ start _ _ _ _ _ c.untold-in-NoMemory.result _ _ c.untold-in-NoMemory.ensures
    (short_piece _ _ start _ _ _ _ _ c.args.progress.now.input c.take.new.self _ _ _ s (c.short-ending.ensures.answers seat) c.requires.part c.in-NoMemory.ensures.takes)

pub returns-in-NoMemory-clause-causes : goal.returns-in-NoMemory-clause-causes
returns-in-NoMemory-clause-causes g c =
    subst (λ (l : Last). HasCauses (g.S.Source.faults c.args.port.now.source) (g.S.Source.faults c.take.new.source) (g.K.Sink.faults c.args.port.now.sink) (g.K.Sink.faults c.short-ending.new.sink) c.take.new.self.taken (Some l.ending))
    (sym c.untold-in-NoMemory.ensures)
    (causes_later _ _ _ _ _ _ _ _ c.in-NoMemory.ensures.cause (omega arith) (c.short-ending.ensures.causes (g.S.Source.faults c.take.new.source) c.take.new.self.taken))
