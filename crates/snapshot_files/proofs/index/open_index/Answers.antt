use Rattle.std.proofs.Common.{ap}
use Rattle.paged_indexes.specs.Index.{opened}
use Rattle.snapshot_files.specs.Indexes.{index_opened, pages_at}
use Rattle.snapshot_files.proofs.Opened.{stop_gives}
use Rattle.snapshot_files.proofs.index.open_index.Goals as goal

pub returns-in-Ok-clause-exact : goal.returns-in-Ok-clause-exact
unfolding index_opened
returns-in-Ok-clause-exact g c = λ h. ap (pages_at c.args.path.now) (c.in-Ok.ensures.exact h)

pub returns-in-Err-clause-exact : goal.returns-in-Err-clause-exact
unfolding index_opened
returns-in-Err-clause-exact g c = let d = g.D.Disk in λ h.
    stop_gives c.args.path.now c.in-Err.fault c.stopped.result (opened (d.content c.args.disk.now) c.args.path.now c.args.kind) c.stopped.ensures.value (c.in-Err.ensures.exact h)
