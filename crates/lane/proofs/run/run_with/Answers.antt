use Rattle.std.proofs.Common.{sym, subst, arith}
use Rattle.seat_history.proofs.Picking.{grown_none}
use Rattle.seat_history.specs.Entered.{HasGrown}
use Rattle.lane.specs.Progress.{Start}
use Rattle.lane.proofs.Seated.{rises_still, same_seat}
use Rattle.lane.proofs.Turning.{starts}
use Rattle.lane.proofs.Caused.{causes_later}
use Rattle.lane.proofs.run.run_with.Goals as goal

pub loop-last-init : goal.loop-last-init
loop-last-init g c = (
  λ h none. starts _ h _ _ _ _ _ (subst (λ es. HasGrown c.args.seat.now c.args.seat.now es) (sym none) (grown_none c.args.seat.now c.requires.rises)) none c.new.ensures.cutter c.new.ensures.taken,
  record { source_later = omega arith; sink_later = omega arith },
  c.requires.can,
)

pub returns-in-Some-clause-ran : goal.returns-in-Some-clause-ran
returns-in-Some-clause-ran g c = λ h none.
    let start : Start = record { history = h; left = g.S.Source.left c.args.port.now.source; taken = g.K.Sink.taken c.args.port.now.sink } in
    c.close-ending.ensures.closes c.args.seat.now start _ _ (c.in-Some.ensures.goes c.args.seat.now start (c.loop-last.invariant.0 h none))

pub returns-in-Some-clause-seat : goal.returns-in-Some-clause-seat
returns-in-Some-clause-seat g c =
    same_seat c.args.seat.now c.close-ending.new.seat (λ h none. let x = returns-in-Some-clause-ran g c h none in record { events = x.events; grown = x.stands_for })

pub returns-in-Some-clause-rises : goal.returns-in-Some-clause-rises
returns-in-Some-clause-rises g c =
    rises_still c.args.seat.now c.close-ending.new.seat (λ h none. let x = returns-in-Some-clause-ran g c h none in record { events = x.events; grown = x.stands_for })

pub returns-in-Some-clause-causes : goal.returns-in-Some-clause-causes
returns-in-Some-clause-causes g c =
    let kept = c.loop-last.invariant.1 in
    c.close-ending.ensures.causes _ _ _ _ (causes_later _ _ _ _ _ _ _ _ kept.source_later kept.sink_later c.in-Some.ensures.causes)

pub loop-last-preserved : goal.loop-last-preserved
loop-last-preserved g c =
    let before = c.loop-last.invariant in
    let did = c.in_default.ensures in (
      λ h none. did.goes c.args.seat.now (record { history = h; left = g.S.Source.left c.args.port.now.source; taken = g.K.Sink.taken c.args.port.now.sink }) (before.0 h none),
      record {
        source_later = omega (arith, before.1.source_later, did.causes.source_later);
        sink_later = omega (arith, before.1.sink_later, did.causes.sink_later);
      },
      did.can,
    )
