use Rattle.std.proofs.Common.{◌≡◌, drop, map}
use Rattle.store_files.specs.Manifest.Mismatch.{listed_mismatch}
use Rattle.manifest.specs.Views.{fact_view}
use Rattle.manifest.specs.Checking.{uploaded}
use Rattle.manifest.proofs.checking.first_listed.Given as goal

abbrev pub invariant-loop-file : goal.invariant-loop-file
invariant-loop-file l = listed_mismatch (map fact_view (drop l.file-index l.listed)) (uploaded l.uploads) ≡ listed_mismatch (map fact_view l.listed) (uploaded l.uploads)
