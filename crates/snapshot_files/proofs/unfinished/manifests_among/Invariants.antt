use Rattle.std.proofs.Common.{map, take, string_bytes}
use Rattle.snapshot_files.proofs.Names.{IsAmong}
use Rattle.snapshot_files.proofs.unfinished.manifests_among.Given as goal

abbrev pub invariant-loop-name : goal.invariant-loop-name
invariant-loop-name l = IsAmong l.manifests (map string_bytes (take l.name-index l.names))
