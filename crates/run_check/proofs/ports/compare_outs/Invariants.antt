use Rattle.run_check.proofs.Outs.{OutsSoFar}
use Rattle.run_check.proofs.ports.compare_outs.Given as goal

abbrev pub invariant-loop-session : goal.invariant-loop-session
invariant-loop-session g l = OutsSoFar g.S.Source l.fn.comparison l.comparison l.fn.ports l.ports l.session
