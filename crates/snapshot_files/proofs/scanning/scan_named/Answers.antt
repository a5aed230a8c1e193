use Rattle.std.proofs.Common.{map, string_bytes, subst}
use Rattle.disk_trait.specs.Files.{Files}
use Rattle.snapshot_files.specs.Scanned.{HasNames, IsInOrder}
use Rattle.snapshot_files.proofs.Ordered.{all_in_order, lists_named}
use Rattle.snapshot_files.proofs.scanning.scan_named.Goals as goal

pub returns-clause-found : goal.returns-clause-found
returns-clause-found g c =
    let d = g.D.Disk in
    let now : Files = d.content c.args.disk.now in
    let sorted = c.in_order.result.items in
    λ h named.
    lists_named now (map string_bytes c.args.names.now) sorted named (subst (λ xs. IsInOrder xs sorted) (c.in_ok-all.ensures.found h) c.in_order.ensures)

pub returns-clause-names : goal.returns-clause-names
returns-clause-names g c = all_in_order HasNames c.in_ok-all.all.items c.in_order.result.items c.in_order.ensures c.in_ok-all.ensures.names
