use Rattle.std.proofs.Common.{◌≡◌, ◌≤◌, map, take, length}
use Rattle.std.specs.Prelude.{All}
use Rattle.std.specs.List.{filter_map}
use Rattle.manifest.specs.Views.{fact_view}
use Rattle.wire_commands.specs.HasText.{FitsFileRow}
use Rattle.store_model.specs.AdminSteps.{file_row, fact_shown}
use Rattle.plain_snapshots.proofs.listing.file_rows.Given as goal

abbrev pub invariant-loop-file : goal.invariant-loop-file
invariant-loop-file l =
    (l.rows.items ≡ map file_row (filter_map (fact_shown (map fact_view l.facts.items)) (take l.file-index l.files)))
    × All FitsFileRow l.rows.items
    × (length l.rows.items ≤ l.file-index)
