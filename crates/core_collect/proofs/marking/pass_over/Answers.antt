use Rattle.std.proofs.Common.{inr, refl}
use Rattle.core_collect.proofs.MarkLemmas.{fits_none, fits_pass}
use Rattle.core_collect.proofs.marking.pass_over.Goals as goal

pub marked-requires : goal.marked-requires
marked-requires c = fits_pass c.args.collector.now.plan c.args.collector.now.pages c.args.collector.now.fits c.requires

pub invariant_of-collector : goal.invariant_of-collector
invariant_of-collector c =
    record { fits = fits_none c.args.collector.now.plan c.marked.new.self c.args.collector.now.pages c.args.collector.now.fits c.marked.ensures.value }

pub returns : goal.returns
returns c = record { lane = refl; ended = refl; plan = c.marked.ensures.value; none = refl; less = c.marked.ensures.less (inr refl) }
