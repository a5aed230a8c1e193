use Rattle.std.proofs.Common.{◌≡◌, [], drop}
use Rattle.std.specs.List.{filter_map}
use Rattle.disk_trait.specs.Disk.{Serves, Steps}
use Rattle.snapshot_files.specs.Forgotten.{MayLose, without}
use Rattle.snapshot_files.proofs.forgetting.remove_files.Given as goal

abbrev pub invariant-loop-file : goal.invariant-loop-file
invariant-loop-file g l = let d = g.D.Disk in let f = g.F.Stored in record {
  serves : Serves d.honest d.faults l.fn.disk l.disk ⊥;
  crash : Steps d.calls d.images l.fn.disk l.disk (MayLose (filter_map f.at l.files));
  removed : d.honest l.fn.disk → without (filter_map f.at (drop l.file-index l.files)) (d.content l.disk) ≡ without (filter_map f.at l.files) (d.content l.fn.disk);
  none : filter_map f.at l.files ≡ [] → l.disk ≡ l.fn.disk;
}
