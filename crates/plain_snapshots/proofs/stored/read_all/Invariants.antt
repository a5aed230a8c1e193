use Rattle.std.proofs.Common.{◌≡◌, map, take, string_bytes}
use Rattle.std.specs.FinMap.{get}
use Rattle.disk_trait.specs.Disk.{Serves, Same}
use Rattle.disk_trait.specs.Effects.{StepsOn}
use Rattle.plain_snapshots.proofs.ReadingDisk.{read_at}
use Rattle.plain_snapshots.proofs.stored.read_all.Given as goal

abbrev pub invariant-loop-name : goal.invariant-loop-name
invariant-loop-name g l = let d = g.D.Disk in record {
  serves : Serves d.honest d.faults l.fn.disk l.disk ⊥;
  same : d.honest l.fn.disk → d.content l.disk ≡ d.content l.fn.disk;
  crash : StepsOn d l.fn.disk l.disk Same;
  files : d.honest l.fn.disk → l.files.items ≡ read_at (get (d.content l.fn.disk)) (map string_bytes (take l.name-index l.name-items));
}
