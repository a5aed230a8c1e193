-- What is told of snapshots and of their files.
use Rattle.std.specs.Prelude.{ℕ, List, map, Option, option_map}
use Rattle.std.specs.Borrow.{Bor}
use Rattle.store_types.specs.declared.names.Digest32.{Digest32}
use Rattle.store_types.specs.declared.names.SnapshotKey.{SnapshotKey}
use Rattle.store_files.specs.Archive.{File, Snapshot}
use Rattle.manifest.specs.declared.facts.FileFact.{FileFact}
use Rattle.manifest.specs.Views.{fact_view}
use Rattle.wire_commands.specs.declared.rows.ListRow.{ListRow}
use Rattle.wire_commands.specs.declared.rows.FileRow.{FileRow}
use Rattle.wire_commands.specs.declared.reply.Reply.{Reply}
use Rattle.wire_commands.specs.declared.reply.Reply.TheVariants.{Listing}
use Rattle.store_model.specs.AdminSteps.{listed, fact_shown, file_row}

-- the rows of the snapshots after one, or of all
abbrev pub rows_after : List Snapshot → Option (Bor SnapshotKey) → List ListRow
rows_after snapshots after = listed snapshots (option_map (λ key. key.now) after)

abbrev pub listing_after : List Snapshot → Option (Bor SnapshotKey) → Reply
listing_after snapshots after = Listing (rows_after snapshots after)

-- the row of a file with this name, size and checksum
abbrev pub row_of_sum : List ℕ → ℕ → Digest32 → FileRow
row_of_sum name size csum = file_row (record { name = name; size = size; csum = csum })

-- a file's row, by what the manifest lists
abbrev pub row_shown_of : List FileFact → File → Option FileRow
row_shown_of facts file = option_map file_row (fact_shown (map fact_view facts) file)
