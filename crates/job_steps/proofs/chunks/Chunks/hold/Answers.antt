use Rattle.std.proofs.Common.{length, refl, ap, ◌∙◌, arith}
use Rattle.std.specs.Option.{option_or}
use Rattle.store_model.specs.VerifyJob.{chunk_fault}
use Rattle.job_steps.specs.Parts.{parts_fault}
use Rattle.job_steps.specs.Visits.{fault_in}
use Rattle.job_steps.specs.Waits.{fault_with}
use Rattle.job_steps.proofs.BatchLemmas.{fault_push}
use Rattle.job_steps.proofs.chunks.Chunks.hold.Goals as goal

pub returns-clause-reads : goal.returns-clause-reads
returns-clause-reads c = record { entries = refl; place = omega (arith, ap length c.push_reserved.ensures.items) }

pub returns-clause-fault : goal.returns-clause-fault
returns-clause-fault c = λ fault.
    let old = c.args.self.now in
    let ws = old.waiting.chunks.items in
    let before = option_or fault (parts_fault old.handed.parts.items) in
    ap (fault_with before) c.push_reserved.ensures.items ∙ fault_push before ws _
    ∙ ap (λ p. option_or (fault_in fault old) (chunk_fault p c.args.blob)) c.next-piece.ensures
