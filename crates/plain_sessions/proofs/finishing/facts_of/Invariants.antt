use Rattle.std.proofs.Common.{◌≡◌, map, take}
use Rattle.manifest.specs.Views.{fact_view}
use Rattle.store_model.specs.Manifests.{fact_of}
use Rattle.plain_sessions.proofs.finishing.facts_of.Given as goal

abbrev pub invariant-loop-file : goal.invariant-loop-file
invariant-loop-file l = map fact_view l.facts.items ≡ map fact_of (take l.file-index l.files)
