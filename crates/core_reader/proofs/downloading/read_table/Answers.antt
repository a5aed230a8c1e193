use Rattle.std.proofs.Common.{[], refl}
use Rattle.restore_reader.specs.declared.index.Table.{Table}
use Rattle.restore_reader.specs.Kept.{IsTable}
use Rattle.snapshot_files.proofs.Opened.{unread_index}
use Rattle.core_reader.proofs.Telling.{table_unread}
use Rattle.core_reader.proofs.downloading.read_table.Goals as goal

pub returns-in_err-index-clause-exact : goal.returns-in_err-index-clause-exact
returns-in_err-index-clause-exact g c = λ h.
    let m = (g.D.Disk).content c.args.disk.now in
    table_unread m c.args.path.now c.args.kind c.args.offset _ _ c.from_residual.ensures.1
    (unread_index {T = Table} m c.args.path.now c.args.kind c.args.offset IsTable c.new-table.result c.read_index.new.taker _ (c.in_err-index.ensures.exact h))

pub returns-clause-exact : goal.returns-clause-exact
returns-clause-exact g c = λ h.
    let x = c.in_ok-index.ensures.exact h in
    record { entries = x.entries; read = x.read; opened = x.opened; table = x.hands 0 [] c.new-table.ensures refl }
