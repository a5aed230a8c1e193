use Rattle.job_steps.proofs.BatchLemmas.{fault_handed}
use Rattle.job_steps.proofs.chunks.Chunks.hand.Goals as goal

pub returns-clause-fault : goal.returns-clause-fault
returns-clause-fault g c = λ fault.
    fault_handed fault c.hand.result c.args.self.now c.hand.new.self.parts.items c.hand.new.part.chunks.items c.hand.ensures.none c.hand.ensures.fault
