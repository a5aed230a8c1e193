use Rattle.std.proofs.Common.{◌≡◌, take}
use Rattle.std.specs.List.{filter_map}
use Rattle.manifest.specs.declared.facts.FileFact.{FileFact}
use Rattle.store_files.specs.Archive.{file_named}
use Rattle.plain_lanes.proofs.uploads.listed_files.Given as goal

abbrev pub invariant-loop-fact : goal.invariant-loop-fact
invariant-loop-fact l = l.listed.items ≡ filter_map (λ (x : FileFact). file_named x.name l.files) (take l.fact-index l.fact-items)
