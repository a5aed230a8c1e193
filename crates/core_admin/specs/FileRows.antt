-- What is told of a snapshot's files, by the bytes of its manifest's file and what the manifest lists.
use Rattle.std.specs.Prelude.{ℕ, List, map, length, if◌then◌else◌, Option, Some, option_map}
use Rattle.std.specs.List.{filter_map}
use Rattle.std.specs.Str.{bytes_eq}
use Rattle.store_types.specs.FileNames.{manifest_name}
use Rattle.store_types.specs.declared.names.Digest32.{Digest32}
use Rattle.store_files.specs.Archive.{digest_of}
use Rattle.store_files.specs.Manifest.Fields.{Fact}
use Rattle.store_files.specs.Manifest.Mismatch.{fact_named}
use Rattle.manifest.specs.Views.{fact_view}
use Rattle.manifest.specs.declared.facts.FileFact.{FileFact}
use Rattle.wire_commands.specs.declared.rows.FileRow.{FileRow}
use Rattle.store_model.specs.AdminSteps.{file_row}
use Rattle.core_state.specs.declared.kept.StoredFile.{StoredFile}

-- the manifest's own size and checksum
abbrev pub own_fact : List ℕ → Fact
own_fact bytes = record { name = manifest_name; size = length bytes; csum = digest_of bytes }

-- of the manifest its own, of another file what is listed
abbrev pub fact_by : List ℕ → List Fact → List ℕ → Option Fact
fact_by bytes listed name = if bytes_eq name manifest_name then Some (own_fact bytes) else fact_named name listed

-- of the files of these names, one after another; those of which nothing is known are left out
abbrev pub rows_by : List ℕ → List Fact → List (List ℕ) → List FileRow
rows_by bytes listed names = map file_row (filter_map (fact_by bytes listed) names)

-- the row of a file of this name, size in bytes and checksum
abbrev pub sized_row : List ℕ → ℕ → Digest32 → FileRow
sized_row name size csum = file_row (record { name = name; size = size; csum = csum })

-- by what a manifest lists: the row of a file of this name, where something is known of it
abbrev pub row_shown : List ℕ → List FileFact → List ℕ → Option FileRow
row_shown bytes listed name = option_map file_row (fact_by bytes (map fact_view listed) name)

-- the rows of these files
abbrev pub rows_shown : List ℕ → List FileFact → List StoredFile → List FileRow
rows_shown bytes listed files = rows_by bytes (map fact_view listed) (map (λ f. f.name) files)
