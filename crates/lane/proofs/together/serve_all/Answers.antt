use Rattle.lane.proofs.Whole.{may_close, ran_together}
use Rattle.lane.proofs.together.serve_all.Goals as goal

pub close-requires : goal.close-requires
close-requires g c =
    let may = may_close c.in-Ok.shared.turn c.in-Ok.seat c.serve_lanes-reports.new.seat c.in-Ok.ensures.ok c.serve_lanes-reports.ensures.served.same in
    record { own = may.0; idle = may.1; whole = may.2 }

pub returns-in-Ok-clause-ok : goal.returns-in-Ok-clause-ok
returns-in-Ok-clause-ok g c =
    ran_together g.D.Disk g.E.Disk g.C.Clock g.S.Source g.K.Sink g.N.Origin.is c.args.ports.now c.serve_lanes-reports.new.ports c.close.result c.serve_lanes-reports.result.items
    c.in-Ok.shared.turn c.in-Ok.seat c.serve_lanes-reports.new.seat c.in-Ok.ensures.ok c.serve_lanes-reports.ensures.served c.close.ensures.comes c.close.ensures.mine
