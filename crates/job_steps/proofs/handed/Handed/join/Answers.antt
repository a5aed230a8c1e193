use Rattle.std.proofs.Common.{ap, ◌∙◌}
use Rattle.std.specs.Option.{option_or}
use Rattle.job_steps.specs.Parts.{parts_fault}
use Rattle.job_steps.proofs.BatchLemmas.{parts_pop}
use Rattle.job_steps.proofs.handed.Handed.join.Goals as goal

pub loop-part-preserved : goal.loop-part-preserved
loop-part-preserved g c =
    let rest = c.pop.new.self.items in (
      ap (option_or (parts_fault rest)) (c.first_of-fault.ensures.first ∙ ap (λ f. option_or f c.loop-part.fault) c.join-tested.ensures)
          ∙ parts_pop c.loop-part.self.parts.items rest c.in-Some.part c.loop-part.fault c.in-Some.ensures.items
          ∙ c.loop-part.invariant.0,
      c.first_of-fault.ensures.fits,
    )
