use Rattle.std.proofs.Common.{◌≡◌, ◌≤◌, length, map, take}
use Rattle.std.specs.List.{All}
use Rattle.manifest.specs.Views.{fact_view}
use Rattle.core_admin.specs.FileRows.{rows_by}
use Rattle.core_admin.specs.FilesTold.{IsFileRow}
use Rattle.core_admin.proofs.file_list.rows_of.Given as goal

abbrev pub invariant-loop-file : goal.invariant-loop-file
invariant-loop-file l = record {
  found : l.rows.items ≡ rows_by l.bytes (map fact_view l.listed) (map (λ f. f.name) (take l.file-index l.files));
  few : length l.rows.items ≤ l.file-index;
  fit : All IsFileRow l.rows.items;
}
