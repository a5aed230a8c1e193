use Rattle.std.proofs.Common.{◌≡◌, map, take}
use Rattle.store_files.specs.Folder.{file_path}
use Rattle.snapshot_files.proofs.path.paths_of.Given as goal

abbrev pub invariant-loop-name : goal.invariant-loop-name
invariant-loop-name l = l.paths.items ≡ map (file_path l.key) (take l.name-index l.names)
