use Rattle.std.proofs.Common.{sym, ◌∙◌}
use Rattle.std.specs.Prelude.{is_some}
use Rattle.std.proofs.lemmas.Bool.{both_ways}
use Rattle.store_model.specs.VerifyJob.{chunk_fault}
use Rattle.job_steps.specs.Visits.{next_piece}
use Rattle.job_steps.proofs.BatchLemmas.{put_known}
use Rattle.job_steps.proofs.chunks.Chunks.put.Goals as goal

pub skip-requires-clause-none : goal.skip-requires-clause-none
skip-requires-clause-none c = c.requires.waits (sym c.is_some.ensures ∙ c.if-is_some.true)

pub returns-then-is_some-clause-fault : goal.returns-then-is_some-clause-fault
returns-then-is_some-clause-fault c =
    let chunks = c.args.self.now in
    let fault = c.args.fault.now in
    c.skip.ensures.fault fault ∙ put_known fault chunks (chunk_fault (next_piece chunks) c.args.blob) (sym c.is_some.ensures ∙ c.if-is_some.true)

pub returns-then-is_some-clause-waits : goal.returns-then-is_some-clause-waits
returns-then-is_some-clause-waits c = λ some. c.skip.ensures.none

pub returns-clause-fault : goal.returns-clause-fault
returns-clause-fault c = c.hold.ensures.fault c.args.fault.now

pub returns-clause-waits : goal.returns-clause-waits
returns-clause-waits c = λ some. absurd (both_ways (is_some c.args.fault.now) (sym c.is_some.ensures ∙ c.if-is_some.false) some)
