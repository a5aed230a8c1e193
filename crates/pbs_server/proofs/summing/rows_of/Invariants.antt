use Rattle.std.proofs.Common.{◌≡◌, take}
use Rattle.pbs_server.specs.Ended.{rows_of}
use Rattle.pbs_server.proofs.summing.rows_of.Given as goal

abbrev pub invariant-loop-snapshot : goal.invariant-loop-snapshot
invariant-loop-snapshot l = l.rows.items ≡ rows_of (take l.snapshot-index l.listed)
