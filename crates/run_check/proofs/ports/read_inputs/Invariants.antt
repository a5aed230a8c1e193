use Rattle.run_check.proofs.Outs.{InputsSoFar}
use Rattle.run_check.proofs.ports.read_inputs.Given as goal

abbrev pub invariant-loop-session : goal.invariant-loop-session
invariant-loop-session g l = InputsSoFar g.S.Source l.fn.ports l.ports l.inputs.items l.session
