use Rattle.lane.proofs.Sessions.{one_ran}
use Rattle.lane.proofs.serves.ServiceServesSeatPort.serve.Goals as goal

pub returns : goal.returns
returns g c =
    let ran = c.run_with.ensures in
    record {
      ran = one_ran g.S.Source g.K.Sink c.args.lane c.args.port.now c.run_with.new.port c.run_with.result c.args.seat.now c.run_with.new.seat ran.ran ran.causes ran.budget;
    }
