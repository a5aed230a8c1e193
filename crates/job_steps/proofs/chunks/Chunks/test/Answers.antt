use Rattle.std.proofs.Common.{sym, ap, ◌∙◌}
use Rattle.std.specs.Option.{option_or}
use Rattle.job_steps.proofs.BatchLemmas.{fault_in_order}
use Rattle.job_steps.proofs.chunks.Chunks.test.Goals as goal

pub returns-clause-fault : goal.returns-clause-fault
returns-clause-fault g c = λ fault. ap (option_or fault) c.finish.ensures.first ∙ sym (fault_in_order fault c.args.self.now)
