use Rattle.std.proofs.Common.{◌≡◌, map}
use Rattle.std.specs.Prelude.{All}
use Rattle.wire_commands.specs.HasText.{FitsListRow}
use Rattle.store_model.specs.AdminSteps.{list_row}
use Rattle.plain_snapshots.proofs.listing.list_rows.Given as goal

abbrev pub invariant-loop-snapshot : goal.invariant-loop-snapshot
invariant-loop-snapshot l = (l.rows.items ≡ map (λ x. list_row x.now) l.yielded) × All FitsListRow l.rows.items
