use Rattle.std.proofs.Common.{◌≡◌, map, take}
use Rattle.manifest.specs.declared.facts.FileFact.{FileFact}
use Rattle.pull_steps.proofs.files.names_of.Given as goal

abbrev pub invariant-loop-file : goal.invariant-loop-file
invariant-loop-file l = l.names.items ≡ map (λ (f : FileFact). f.name) (take l.file-index l.files)
