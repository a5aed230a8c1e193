use Rattle.std.proofs.Common.{◌≡◌, [], drop, map}
use Rattle.serde_json.specs.View.{items_view}
use Rattle.store_files.specs.Manifest.{files_in}
use Rattle.manifest.specs.Reading.{HasNames}
use Rattle.manifest.specs.Views.{fact_view}
use Rattle.manifest.proofs.Files.{names_of, after}
use Rattle.manifest.proofs.reading.files_in.Given as goal

abbrev pub invariant-loop-entry : goal.invariant-loop-entry
invariant-loop-entry l = record {
  names : HasNames l.names (names_of (map fact_view l.files.items));
  rest : after (map fact_view l.files.items) (files_in (names_of (map fact_view l.files.items)) (items_view (drop l.entry-index l.entries)))
      ≡ files_in [] (items_view l.entries);
}
