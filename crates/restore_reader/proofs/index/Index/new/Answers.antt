use Rattle.std.proofs.Common.{ap}
use Rattle.restore_reader.proofs.Tables.{distinct_sorted}
use Rattle.restore_reader.proofs.index.Index.new.Goals as goal

pub returns : goal.returns
returns c = ap (λ ds. record { name = c.args.name; digests = ds; size = c.args.table.size; pages = c.args.pages }) (distinct_sorted c.args.table.digests.items c.sort_unstable.new.self.items c.sort_unstable.ensures.permutation)
