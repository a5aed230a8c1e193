use Rattle.std.proofs.Common.{◌≡◌, map, take}
use Rattle.std.specs.Prelude.{None, option_map}
use Rattle.std.specs.List.{last_or}
use Rattle.store_files.specs.Archive.{Snapshot}
use Rattle.plain_snapshots.proofs.pulling.last_key.Given as goal

abbrev pub invariant-loop-snapshot : goal.invariant-loop-snapshot
invariant-loop-snapshot l = option_map (λ key. key.now) l.last ≡ last_or None (map (λ (x : Snapshot). x.key) (take l.snapshot-index l.snapshots))
