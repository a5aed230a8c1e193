use Rattle.pbs_server.proofs.RunChecks.{run_checks}
use Rattle.pbs_server.proofs.laws.clean_runs_check_equal.Goals as goal

pub returns : goal.returns
returns g c = run_checks g.D.Disk g.E.Disk g.S.Source g.K.Sink
