use Rattle.std.proofs.Common.{◌∙◌, ap}
use Rattle.gc_plan.specs.Plan.{begun}
use Rattle.core_collect.specs.Starting.{indexes_in}
use Rattle.core_collect.proofs.StartLemmas.{fits_new}
use Rattle.core_collect.proofs.starting.new_collector.Goals as goal

pub invariant_of-result : goal.invariant_of-result
invariant_of-result g c =
    let moment = c.args.at.moment in
    let oldest = c.oldest_in.result in
    let is = c.start.ensures ∙ ap (begun moment oldest) (c.in_ok-indexes.ensures ∙ ap indexes_in c.as_slice.ensures.listed) in
    record { fits = fits_new moment oldest c.args.parts.now.catalogue.listed c.start.result is }
