use Rattle.std.proofs.Common.{arith}
use Rattle.run_check.proofs.Outs.{inputs_cut, inputs_more}
use Rattle.run_check.proofs.PortLemmas.{keeps_both}
use Rattle.run_check.proofs.ports.read_inputs.Goals as goal

pub returns-in_err-input-clause-inputs : goal.returns-in_err-input-clause-inputs
returns-in_err-input-clause-inputs g c =
    inputs_cut g.S.Source c.args.ports.now c.loop-session.ports c.read_at.new.ports c.loop-session.inputs.items c.loop-session.session c.in_err-input.field-0.0 c.from_residual.result
    c.loop-session.invariant (omega (arith, c.loop-session-test.true, c.requires)) c.in_err-input.ensures c.from_residual.ensures.1

pub returns-in_err-push_input-clause-keeps : goal.returns-in_err-push_input-clause-keeps
returns-in_err-push_input-clause-keeps g c =
    keeps_both g.S.Source c.args.ports.now c.loop-session.ports c.read_at.new.ports c.loop-session.invariant.read.keeps c.read_at.ensures.keeps

pub loop-session-preserved : goal.loop-session-preserved
loop-session-preserved g c =
    inputs_more g.S.Source c.args.ports.now c.loop-session.ports c.read_at.new.ports c.loop-session.inputs.items c.push_input.new.inputs.items c.loop-session.session c.in_ok-input.input
    c.loop-session.invariant c.in_ok-input.ensures c.in_ok-push_input.ensures
