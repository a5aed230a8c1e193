use Rattle.std.proofs.Common.{map, take, string_bytes}
use Rattle.disk_trait.specs.Disk.{Serves}
use Rattle.disk_trait.specs.Effects.{StepsOn}
use Rattle.store_files.specs.Folder.{Files}
use Rattle.snapshot_files.specs.Removed.{HasManifests, MayLeave, Goes}
use Rattle.snapshot_files.proofs.removing.remove_all_leaving.Given as goal

abbrev pub invariant-loop-name : goal.invariant-loop-name
invariant-loop-name g l = let d = g.D.Disk in record {
  serves : Serves d.honest d.faults l.fn.disk l.disk ⊥;
  crash : StepsOn d l.fn.disk l.disk (MayLeave l.manifests);
  gone : d.honest l.fn.disk → (read : Files) → HasManifests l.manifests read → Goes read (map string_bytes (take l.name-index l.names)) (d.content l.disk);
  only : d.honest l.fn.disk → MayLeave l.manifests (d.content l.fn.disk) (d.content l.disk);
}
