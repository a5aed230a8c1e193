use Rattle.std.proofs.Common.{ap, ◌∙◌, Some, arith}
use Rattle.store_files.specs.Archive.{Snapshot}
use Rattle.plain_snapshots.proofs.PullLemmas.{last_more}
use Rattle.plain_snapshots.proofs.pulling.last_key.Goals as goal

pub loop-snapshot-preserved : goal.loop-snapshot-preserved
loop-snapshot-preserved c =
    ap (λ (y : Snapshot). Some y.key) c.snapshot.view_is ∙ last_more c.args.snapshots.now c.loop-snapshot.snapshot-index c.snapshot-item.result (omega arith) c.snapshot-item.is
