use Rattle.std.proofs.Common.{None, ap, ◌∙◌}
use Rattle.std.specs.Option.{option_or}
use Rattle.job_steps.specs.Parts.{parts_fault}
use Rattle.job_steps.specs.Waits.{fault_with}
use Rattle.job_steps.specs.declared.part.Part.{Part}
use Rattle.job_steps.specs.declared.tested.TestOf.{TestOf}
use Rattle.job_steps.proofs.BatchLemmas.{parts_push}
use Rattle.job_steps.proofs.handed.Handed.start.Goals as goal

pub returns-in-Ok-clause-fault : goal.returns-in-Ok-clause-fault
returns-in-Ok-clause-fault g c =
    let parts = c.args.self.now.parts.items in
    ap parts_fault c.push_reserved.ensures.items ∙ parts_push parts c.in-Ok.thread
    ∙ ap (λ (p : TestOf). option_or (parts_fault parts) (fault_with None p.0.value.chunks.items)) c.in-Ok.ensures.ok
    ∙ ap (λ (part : Part). option_or (parts_fault parts) (fault_with None part.chunks.items)) c.of.ensures
