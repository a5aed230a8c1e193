use Rattle.pbs_server.proofs.RunChecks.{made_checks}
use Rattle.pbs_server.proofs.laws.made_runs_check_equal.Goals as goal

pub returns : goal.returns
returns g c = made_checks g.D.Disk g.E.Disk g.J.Sink
