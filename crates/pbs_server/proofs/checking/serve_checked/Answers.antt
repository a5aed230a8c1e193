use Rattle.pbs_server.proofs.Checked.{line_checked}
use Rattle.pbs_server.proofs.checking.serve_checked.Goals as goal

pub tell_line-failed-requires : goal.tell_line-failed-requires
tell_line-failed-requires g c =
    line_checked g.D.Disk g.E.Disk g.S.Source c.args.disk c.args.remote c.args.ports.now c.check_run-what.new.ports c.check_run-what.result c.check_run-what.ensures.checks
