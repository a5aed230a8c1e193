use Rattle.shared_store.proofs.Wanting.{wanted}
use Rattle.shared_store.proofs.want.Goals as goal

pub returns-clause-applied : goal.returns-clause-applied
returns-clause-applied g c =
    wanted g.D.Disk g.E.Disk g.C.Clock c.args.core.now c.short.new.core c.args.lane c.short.result c.short.ensures c.args.act c.requires.lane c.requires.formed c.requires.listing
