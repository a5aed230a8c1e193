use Rattle.std.proofs.Common.{◌≡◌, map, drop}
use Rattle.disk_trait.specs.Effects.{OnlyReads}
use Rattle.manifest.specs.Least.{lesser}
use Rattle.snapshot_files.specs.Scanned as scanned
use Rattle.snapshot_files.proofs.scanning.first_missing.Given as goal

abbrev pub invariant-loop-file : goal.invariant-loop-file
invariant-loop-file g l = let d = g.D.Disk in record {
  reads : OnlyReads d l.fn.disk l.disk ⊥;
  first : d.honest l.fn.disk → lesser l.first (scanned.first_missing (d.content l.fn.disk) l.key (map (λ f. f.name) (drop l.file-index l.listed)))
      ≡ scanned.first_missing (d.content l.fn.disk) l.key (map (λ f. f.name) l.listed);
}
