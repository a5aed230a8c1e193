use Rattle.run_check.proofs.Outs.{outs_next}
use Rattle.run_check.proofs.ports.compare_outs.Goals as goal

pub loop-session-preserved : goal.loop-session-preserved
loop-session-preserved g c =
    outs_next g.S.Source c.args.comparison c.loop-session.comparison c.compare_at.new.comparison c.args.ports.now c.loop-session.ports c.compare_at.new.ports c.loop-session.session
    c.loop-session.invariant c.in_ok-compare_at.ensures
