use Rattle.std.proofs.Common.{◌≡◌, map, take, not}
use Rattle.std.specs.List.{filter}
use Rattle.std.specs.Str.{bytes_eq}
use Rattle.store_types.specs.FileNames.{manifest_name}
use Rattle.core_admin.proofs.forgetting.names_beside.Given as goal

abbrev pub invariant-loop-file : goal.invariant-loop-file
invariant-loop-file l = l.names.items ≡ map (λ f. f.name) (filter (λ f. not (bytes_eq f.name manifest_name)) (take l.file-index l.files))
