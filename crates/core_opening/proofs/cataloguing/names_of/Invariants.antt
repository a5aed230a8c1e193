use Rattle.std.proofs.Common.{◌∷◌, map}
use Rattle.manifest.specs.declared.facts.FileFact.{FileFact}
use Rattle.store_types.specs.FileNames.{manifest_name}
use Rattle.core_opening.proofs.Naming.{HasMembers}
use Rattle.core_opening.proofs.cataloguing.names_of.Given as goal

abbrev pub invariant-loop-file : goal.invariant-loop-file
invariant-loop-file l = HasMembers l.names (manifest_name ∷ map (λ (f : FileFact). f.name) l.yielded)
