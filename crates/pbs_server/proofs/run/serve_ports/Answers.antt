use Rattle.pbs_server.proofs.Generated.{ended_asks, leaves_ended, leaves_handed}
use Rattle.pbs_server.proofs.run.serve_ports.Goals as goal

pub returns-in-Ok-clause-leaves : goal.returns-in-Ok-clause-leaves
returns-in-Ok-clause-leaves g c =
    leaves_ended g.D.Disk g.E.Disk g.S.Source g.K.Sink (g.C.Clock.readings c.args.clock) c.args.disk c.args.remote c.args.ports.now c.run_ports.new.ports c.in-Ok.ended c.handed_back.result
    c.handed_back.ensures c.in-Ok.ensures.ended

pub returns-in-Ok-clause-status : goal.returns-in-Ok-clause-status
returns-in-Ok-clause-status g c = ended_asks c.in-Ok.ended c.handed_back.result c.handed_back.ensures

pub returns-in-Err-clause-leaves : goal.returns-in-Err-clause-leaves
returns-in-Err-clause-leaves g c =
    leaves_handed g.D.Disk g.E.Disk g.S.Source g.K.Sink (g.C.Clock.readings c.args.clock) c.args.disk c.args.remote c.args.ports.now c.run_ports.new.ports c.in-Err.served c.in-Err.ensures.none
