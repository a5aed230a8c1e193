use Rattle.std.proofs.Common.{◌≡◌, map, take, string_bytes}
use Rattle.std.specs.List.{All, filter_map}
use Rattle.disk_trait.specs.Effects.{OnlyReads}
use Rattle.snapshot_files.specs.Scanned.{HasNames, found_named}
use Rattle.snapshot_files.proofs.scanning.all_named.Given as goal

abbrev pub invariant-loop-name : goal.invariant-loop-name
invariant-loop-name g l = let d = g.D.Disk in record {
  reads : OnlyReads d l.fn.disk l.disk ⊥;
  found : d.honest l.fn.disk → l.all.items ≡ filter_map (found_named (d.content l.fn.disk)) (map string_bytes (take l.name-index l.names));
  names : All HasNames l.all.items;
}
