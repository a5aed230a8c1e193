use Rattle.std.proofs.Common.{◌+◌, ◌-◌, ◌^◌}
use Rattle.shared_store.specs.Comes.{CanAct}
use Rattle.lane.specs.Loops.{HasBegun, Keeps}
use Rattle.lane.proofs.run.run_with.Given as goal

abbrev pub invariant-loop-last : goal.invariant-loop-last
invariant-loop-last g l =
    HasBegun l.fn.seat l.seat l.lane (g.S.Source.left l.fn.port.source) (g.S.Source.left l.port.source) (g.K.Sink.taken l.fn.port.sink) (g.K.Sink.taken l.port.sink)
    l.progress.input l.progress.given
    × Keeps (g.S.Source.faults l.fn.port.source) (g.S.Source.faults l.port.source) (g.K.Sink.faults l.fn.port.sink) (g.K.Sink.faults l.port.sink)
    × CanAct l.shared.turn.id l.seat

abbrev pub decreases-loop-last : goal.decreases-loop-last
decreases-loop-last g l = 2 ^ 41 - (l.progress.input.taken + l.progress.input.front)
