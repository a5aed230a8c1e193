use Rattle.std.proofs.Common.{◌∙◌, ap, sym}
use Rattle.plain_snapshots.proofs.Sorting.{placed, placed_last, placed_all}
use Rattle.plain_snapshots.proofs.loading.in_order.Goals as goal

pub loop-snapshot-init : goal.loop-snapshot-init
loop-snapshot-init c = ap (placed c.args.snapshots.items) c.new-sorted.ensures.items ∙ placed_all c.args.snapshots.items

pub loop-snapshot-preserved : goal.loop-snapshot-preserved
loop-snapshot-preserved c =
    let left = c.pop.new.self.items in
    let sorted = c.loop-snapshot.sorted.items in
    ap (placed left) c.in_ok-insert_snapshot.ensures.ok
    ∙ sym (ap (λ l. placed l sorted) c.in-Some.ensures.items ∙ placed_last left c.in-Some.snapshot sorted)
    ∙ c.loop-snapshot.invariant
