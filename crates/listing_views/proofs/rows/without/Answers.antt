use Rattle.listing_views.proofs.Ordered.{rises_rest}
use Rattle.listing_views.proofs.rows.without.Goals as goal

pub returns-clause-rises : goal.returns-clause-rises
returns-clause-rises c = rises_rest c.args.key.now c.args.rows.now c.loop-row.rest.items c.loop-row.row-index c.loop-row.invariant c.requires.rises
