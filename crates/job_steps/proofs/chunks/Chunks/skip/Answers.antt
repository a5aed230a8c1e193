use Rattle.std.proofs.Common.{refl, arith}
use Rattle.job_steps.proofs.chunks.Chunks.skip.Goals as goal

pub returns-clause-reads : goal.returns-clause-reads
returns-clause-reads c = record { entries = refl; place = omega arith }
