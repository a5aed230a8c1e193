use Rattle.std.proofs.Common.{◌<◌, sym, ap, subst, ◌∙◌}
use denote.Param.Send.{sendable}
use Rattle.std.proofs.Crossing.{crosses}
use Rattle.job_steps.specs.declared.part.Waiting.{Waiting}
use Rattle.job_steps.specs.Waits.{IsTested}
use Rattle.job_steps.proofs.BatchLemmas.{same_faults}
use Rattle.job_steps.proofs.testing.test_all.Goals as goal

pub par_for_each_mut-requires : goal.par_for_each_mut-requires
par_for_each_mut-requires g c = (search (sendable, crosses) depth 40, (search (sendable, crosses) depth 40, (search (sendable, crosses) depth 40, λ i p lt e. tt)))

pub returns-clause-same : goal.returns-clause-same
returns-clause-same g c =
    same_faults c.args.waiting.now c.par_for_each_mut.new.s c.par_for_each_mut.auto.s
    (λ k d lt.
    let at = (c.par_for_each_mut.ensures k d lt).1 in
    record {
      piece = sym (ap (λ (w : Waiting). w.piece) at.left) ∙ at.call.0 ∙ ap (λ (w : Waiting). w.piece) at.argument_is;
      blob = sym (ap (λ (w : Waiting). w.blob) at.left) ∙ at.call.1.0 ∙ ap (λ (w : Waiting). w.blob) at.argument_is;
    })

pub returns-clause-tested : goal.returns-clause-tested
returns-clause-tested g c = λ k d lt.
    let at = (c.par_for_each_mut.ensures k d (subst (λ n. k < n) c.par_for_each_mut.auto.s lt)).1 in
    subst IsTested at.left at.call.1.1
